-- Which faults the making of a book's database reports.
-- Source: profile.
use Rattle.std.specs.Prelude.{◌≡◌}
use Rattle.shelves.specs.Words.{BookText}
use Rattle.sql_keeper.specs.Books.{IsBookFault}
use Rattle.sql_keeper.specs.declared.create_fault.CreateFault.{CreateFault}
use Rattle.service.specs.Told.{making_fault}
use Rattle.service.specs.declared.fault.DatabaseFault.{DatabaseFault}
use Rattle.service.specs.declared.fault.DatabaseFault.TheVariants.{File, Book, Open, Memory}

-- the fault is the book's: memory was refused, or it is the first of the text
-- rule: database-words
abbrev pub IsBookTextFault : BookText → DatabaseFault → Type 0
IsBookTextFault text (Book fault) = IsBookFault text fault
IsBookTextFault text _ = ⊥

-- one of a file, of a book, of the tables of a database, or of memory
abbrev pub IsInitFault : DatabaseFault → Type 0
IsInitFault File = Unit {0}
IsInitFault (Book fault) = Unit {0}
IsInitFault (Open fault) = Unit {0}
IsInitFault Memory = Unit {0}
IsInitFault _ = ⊥

-- this is so of why the tables weren't made, which is reported as the fault
-- rule: database-words: a database is made, opened, brought to the latest version, or has a book
--   added
pub record IsNotMade (left : CreateFault → Type 0) (fault : DatabaseFault) : Type 0 where
  pub made : CreateFault
  pub is : fault ≡ making_fault made
  pub was : left made
