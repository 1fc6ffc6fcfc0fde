-- The faults of making the database of a book.
-- Source: profile.
use Rattle.std.specs.Prelude.{◌≡◌, ℕ, true, false}
use Rattle.shelves.specs.Words.{BookText}
use Rattle.tariffs.specs.Faults.{book_fault_number}
use Rattle.sqlite_schema.specs.declared.schema.Schema.{Schema}
use Rattle.sql_tables.specs.Ours.{has_ours}
use Rattle.sql_keeper.specs.Books.{IsBookFault, IsBookText}
use Rattle.sql_keeper.specs.declared.create_fault.CreateFault.{CreateFault}
use Rattle.sql_keeper.specs.declared.create_fault.CreateFault.TheVariants.{Book, Present, Store}
use Rattle.sql_keeper.specs.declared.create_fault.CreateFault.TheVariants.{Memory}

-- the number under which a fault is reported: that of the book's fault, or that of an opening
abbrev pub create_fault_number : CreateFault → ℕ
create_fault_number (Book fault) = book_fault_number fault
create_fault_number Present = 1
create_fault_number Store = 4
create_fault_number Memory = 5

-- when a fault is reported of a text and a database: first the book's, then that a table is there
-- rule: database-made.created
abbrev pub IsCreateFault : BookText → Schema → CreateFault → Type 0
IsCreateFault text schema (Book fault) = IsBookFault text fault
IsCreateFault text schema Present = IsBookText text × (has_ours schema ≡ true)
IsCreateFault text schema Store = IsBookText text × (has_ours schema ≡ false)
IsCreateFault text schema Memory = IsBookText text × (has_ours schema ≡ false)
