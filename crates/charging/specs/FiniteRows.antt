-- Whatever commands were accepted, the rows of each account are a finite list within their rules as
-- long as no bucket was opened with more than its kind's most, which the types of commands keep; and
-- such lists have no greater bucket.
-- Source: profile.
use Rattle.std.specs.Prelude.{◌≡◌, ◌⊎◌, List, Some}
use Rattle.identifiers.specs.Words.{AccountName}
use Rattle.keepers.specs.Tables.{Head, Rows, Tables, AreListed}
use Rattle.reserving.specs.Stored.{StoredRows, IsStored}
use Rattle.shelves.specs.Shelves.{Shelf, IsShelf}
use Rattle.charging.specs.declared.answers.Run.{Run}
use Rattle.charging.specs.declared.running.DatedCommand.{DatedCommand}
use Rattle.charging.specs.Accepted.{Accepted, IsInTime}
use Rattle.charging.specs.Promise.{AreAfter, AreBucketsInRange, IsFound, tables_after}

-- an account's rows are a list within its rules
pub record IsList (r : Rows) : Type 0 where
  pub rows : StoredRows
  pub are : AreListed rows r
  pub kept : IsStored rows

-- so those of each account that is there
abbrev pub AreLists : Tables → Type 0
AreLists tables = (a : AccountName) (head : Head) → (tables.rows a).head ≡ Some head →
    IsList (tables.rows a)

-- then the rows that accepted commands leave are lists
-- rule: runs.finite-rows: the rows that accepted commands leave are finite lists within their rules
abbrev pub RowsAreLists : Type 0
RowsAreLists = (shelf : Shelf) → IsShelf shelf → (list : List Accepted) → IsInTime list →
    AreBucketsInRange (tables_after shelf list) → AreLists (tables_after shelf list)

-- and where they are lists, no bucket was opened with more
abbrev pub ListsAreInRange : Type 0
ListsAreInRange = (shelf : Shelf) (list : List Accepted) → AreLists (tables_after shelf list) →
    AreBucketsInRange (tables_after shelf list)

-- so what a run leaves, and what a stop leaves of it, are lists
-- rule: runs.finite-rows
abbrev pub LeftAreLists : Type 0
LeftAreLists = (shelf : Shelf) → IsShelf shelf → (commands : List DatedCommand) (run : Run)
    (list : List Accepted) (tables : Tables) → IsInTime list →
    AreAfter shelf list tables ⊎ IsFound shelf commands run tables list → AreLists tables
