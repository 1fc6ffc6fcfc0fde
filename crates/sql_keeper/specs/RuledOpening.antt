-- A database whose rows were read when it was opened, each once.
-- Source: profile.
use Rattle.std.specs.Prelude.{◌≡◌, ◌⊎◌, IfErr, IfOk, OnOk, IsTrue, Result}
use Rattle.std.specs.String.{string_bytes}
use Rattle.shelves.specs.Shelves.{Shelf}
use Rattle.sqlite.specs.Effect.{Database}
use Rattle.sqlite.specs.State.{State, HasCleanDisk, Survives}
use Rattle.sql_tables.specs.Schema.{latest, schema_at}
use Rattle.sql_tables.specs.Stages.{AreStoredAt}
use Rattle.sql_tables.specs.Statements.{HasIdleTables, IsStill}
use Rattle.sql_rows.specs.Content.{tables_content}
use Rattle.sql_tables.specs.declared.fault.OpenFault.{OpenFault}
use Rattle.sql_tables.specs.declared.fault.OpenFault.TheVariants.{Rules}
use Rattle.sql_rules.specs.Tables.{AreRuled}
use Rattle.sql_keeper.specs.Books.{IsBookOf}
use Rattle.sql_keeper.specs.Causes.{HasFault, IsStores, KeepsVersion}
use Rattle.sql_keeper.specs.Finds.{IsReadOf}
use Rattle.sql_keeper.specs.Shelves.{IsShelfOf}
use Rattle.sql_keeper.specs.declared.books.ReadBooks.{ReadBooks}

-- ---- why it isn't opened

-- the tables are those of the latest version, no rowid of theirs twice, and they keep that version
-- with the texts of a shelf; but a row is out of the rules of its table, or wrong beside another, or
-- a reservation hasn't its book
-- rule: rows-ruled.opened
pub record HasUnruledRow (db : Database) : Type 0 where
  pub schema : db.schema ≡ schema_at latest
  pub stored : AreStoredAt latest db.trees
  pub kept : KeepsVersion latest db.trees
  pub shelf : Shelf
  pub books : IsShelfOf kept.row.book (tables_content db.trees).books shelf
  pub unruled : ¬ AreRuled shelf latest db.trees

-- the fault is the store's or memory's, or the database has it, or a row of the database
-- rule: rows-ruled.opened
abbrev pub IsRowFault : OpenFault → Database → Type 0
IsRowFault fault db = IsStores fault ⊎ (HasFault fault db ⊎ ((fault ≡ Rules) × HasUnruledRow db))

-- of a database that has a fault no row is reported
-- rule: rows-ruled.opened
abbrev pub AreRowsApart : Type 0
AreRowsApart = (db : Database) (fault : OpenFault) → HasFault fault db → ¬ HasUnruledRow db

-- ---- how it ends

-- the tables are ours, of the latest version, and this is their shelf; each row is in its rules,
-- and nothing was written
pub record FindsRuled (old new : State) (result : Result ReadBooks OpenFault) : Type 0 where
  pub found : HasCleanDisk new → IfOk result (λ r. IsReadOf r new.now.trees × IsStill old new
      × IsTrue new.is_open × AreRuled r.own latest new.now.trees)
  pub given : IfOk result (λ r. r.given ≡ r.own)
  pub read : IfOk result (λ r. IsBookOf (string_bytes r.text) r.own.first)
  pub idle : OnOk result (HasIdleTables new)
  pub cause : HasCleanDisk new → IfErr result (λ fault. IsRowFault fault old.now)
  pub still : HasCleanDisk new → IsTrue new.is_open → IsStill old new
  pub survives : Survives old new (λ _. ⊥)
