-- A database of an older version, brought to the latest whole or not at all.
-- Source: profile.
use Rattle.std.specs.Prelude.{◌≡◌, ◌<◌, ℕ, List, [], Some, None, true, nat_eq, nat_le}
use Rattle.std.specs.Prelude.{if◌then◌else◌, IsTrue, Result, Ok, Err, IfErr, IfOk, OnErr, OnOk}
use Rattle.std.specs.List.{list_any}
use Rattle.std.specs.String.{string_bytes}
use Rattle.units.specs.Words.{GroupId}
use Rattle.identifiers.specs.Words.{SessionName, AccountName}
use Rattle.shelves.specs.Words.{BookText}
use Rattle.sql_tables.specs.Words.{TablesVersion}
use Rattle.sqlite_trees.specs.declared.store.Store.{Ghosts}
use Rattle.sqlite_trees.specs.Objects.{catalog_tree}
use Rattle.sqlite_trees.specs.Tree.{Trees}
use Rattle.sqlite_schema.specs.declared.schema.Table.{Table}
use Rattle.sqlite_catalog.specs.Listing.{Lists}
use Rattle.sqlite.specs.Held.{Held, state}
use Rattle.sqlite.specs.State.{KeepsCommit, State, HasCleanDisk, Shows, Survives}
use Rattle.shelves.specs.Shelves.{Shelf}
use Rattle.sql_tables.specs.Schema.{our_schema, latest, schema_at}
use Rattle.sql_tables.specs.Stages.{AreStoredAt}
use Rattle.sql_tables.specs.Statements.{AreStored, Attempts, HasIdleTables, IsTabled, IsStill}
use Rattle.sql_tables.specs.declared.reading.ReadFault.{ReadFault}
use Rattle.sql_tables.specs.declared.reading.ReadFault.TheVariants as reading
use Rattle.sql_rows.specs.Content.{TablesContent, TableRows, tables_content, with_grant_book}
use Rattle.sql_rows.specs.Content.{with_rows}
use Rattle.sql_rows.specs.Each.{with_each}
use Rattle.sql_rows.specs.declared.reserved_rows.ReservedColumns.{ReservedColumns}
use Rattle.sql_rows.specs.Ruled.{AreRuledReserved, IsRuledMeta}
use Rattle.sql_rows.specs.Values.{Meta}
use Rattle.sql_rules.specs.Tables.{AreRuled}
use Rattle.sql_tables.specs.Opens.{IsVersion}
use Rattle.sql_tables.specs.declared.fault.OpenFault.{OpenFault}
use Rattle.sql_tables.specs.declared.fault.OpenFault.TheVariants.{Foreign, Version, Rules, Older}
use Rattle.sql_keeper.specs.Books.{IsBookOf}
use Rattle.sql_keeper.specs.Causes.{IsOtherThan, TellsVersion}
use Rattle.sql_keeper.specs.Content.{Names, is_reserved, tables_of}
use Rattle.sql_keeper.specs.Inside.{KeeperState}
use Rattle.sql_keeper.specs.Left.{IsHeld}
use Rattle.sql_keeper.specs.Opened.{Begins, IsLeftRuled}
use Rattle.sql_keeper.specs.RuledOpening.{FindsRuled}
use Rattle.sql_keeper.specs.Shelves.{HasShelf, IsShelfOf}
use Rattle.sql_keeper.specs.Tidy.{IsTidy}
use Rattle.sql_keeper.specs.declared.books.ReadBooks.{ReadBooks}

-- ---- what a database of a version holds

-- the rows of the tables that a version has, and no row of another
abbrev pub trees_at : TablesVersion → Trees → Trees
trees_at v trees = λ t.
    if list_any (λ (x : Table). nat_eq x.tree t) (schema_at v).tables then trees t else []

-- the tables that a version hasn't are read as empty ones
abbrev pub content_at : TablesVersion → Trees → TablesContent
content_at v trees = tables_content (trees_at v trees)

-- ---- what a migration leaves

-- each reservation has the number of its book; before version 2 that is the first
abbrev pub AreGranted : TablesVersion → TablesContent → TablesContent → Type 0
AreGranted v old new = (a : AccountName) (s : SessionName) (g : GroupId)
    → (new.rows a).grant_books s g ≡ (if nat_le 2 v then (old.rows a).grant_books s g
    else (if is_reserved ((old.rows a).groups s g) then Some 1 else None))

-- the tables of a version become those of the latest, and hold what they held: no row of theirs is
-- lost, the books are the same, and each reservation has its book
-- rule: database-migrated
pub record BecomesLatest (v : TablesVersion) (old new : Trees) : Type 0 where
  pub tables : (names : Names) →
      tables_of names (tables_content new) ≡ tables_of names (content_at v old)
  -- where no row was without a meaning, none is
  pub tidy : (names : Names) → IsTidy names (content_at v old) → IsTidy names (tables_content new)
  pub granted : AreGranted v (content_at v old) (tables_content new)
  pub books : (tables_content new).books ≡ (content_at v old).books
  pub left : (text : BookText) (row : Meta) → (tables_content old).meta ≡ Some row → row.book ≡ text
      → (tables_content new).meta ≡ Some (record { version = latest; book = text; last = row.last })
  pub lists : Lists (new catalog_tree) our_schema
  pub stored : AreStored new

-- a database that is left as one of the latest version by a migration of one of this version
-- rule: database-migrated
pub record IsLeftLatest (v : TablesVersion) (old new : Trees) : Type 0 where
  pub becomes : BecomesLatest v old new
  pub text : BookText
  pub left : IsLeftRuled text new

-- what is kept once by that version is in its rules, with the texts of a shelf, each reservation
-- that gets a row of its book is in its rules, and so is each row, by that shelf
pub record IsRuledByVersion (v : TablesVersion) (trees : Trees) (row : Meta) : Type 0 where
  pub ruled : IsRuledMeta row
  pub shelf : HasShelf row.book (content_at v trees).books
  pub reserved : v < 2 → AreRuledReserved (content_at v trees)
  pub rows : (s : Shelf) → IsShelfOf row.book (content_at v trees).books s → AreRuled s v trees

-- a database of a version in the rules of who migrates it: no rowid comes twice, what is kept once
-- is there, and where it keeps that version, all is in the rules of it
-- rule: database-migrated.ruled-version: a migration reads each row of a database once before it
--   writes; what it refuses is out of the rules of its version, and what it leaves is in those of
--   the latest
pub record IsRuledVersion (v : TablesVersion) (trees : Trees) : Type 0 where
  pub stored : AreStoredAt v trees
  pub row : Meta
  pub is : (tables_content trees).meta ≡ Some row
  pub of_version : row.version ≡ v → IsRuledByVersion v trees row

-- the first book's number for each of these reservations
abbrev pub with_first_books : List ReservedColumns → TablesContent → TablesContent
with_first_books = with_each (λ x. with_rows x.account (with_grant_book x.session x.group 1))

-- the first book's number for each reservation, where the version had no such numbers
abbrev pub granted_in : TableRows → TableRows
granted_in r = record r {
  grant_books = λ s g. if is_reserved (r.groups s g) then Some 1 else r.grant_books s g;
}

abbrev pub with_granted : TablesVersion → TablesContent → TablesContent
with_granted v c =
    if nat_le 2 v then c else record c { rows = λ a. granted_in (c.rows a) }

-- the rules are reported only of a reservation that is out of them, before version 2
abbrev pub AreUnruledReserved : TablesVersion → Trees → ReadFault → Type 0
AreUnruledReserved v trees e =
    e ≡ reading.Rules → (v < 2) × ¬ AreRuledReserved (tables_content trees)

-- ---- states of the connection

-- the tables of a version are there, no rowid of theirs twice
pub record IsAt (v : TablesVersion) (s : State) : Type 0 where
  pub schema : s.now.schema ≡ schema_at v
  pub stored : AreStoredAt v s.now.trees

-- unless its disk failed it, or an earlier failure shut it
abbrev pub HasAt : TablesVersion → State → Type 0
HasAt v s = HasCleanDisk s → IsTrue s.is_open → IsAt v s

-- and no transaction is open
abbrev pub HasIdleAt : TablesVersion → State → Type 0
HasIdleAt v s = HasCleanDisk s → IsTrue s.is_open → IsAt v s × (s.now ≡ s.committed)

-- each row of a version is in its rules, by the shelf of the texts that are kept
abbrev pub AreRowsRuled : TablesVersion → Trees → Type 0
AreRowsRuled v trees = (row : Meta) (s : Shelf) → (tables_content trees).meta ≡ Some row
    → IsShelfOf row.book (content_at v trees).books s → AreRuled s v trees

abbrev pub HasRuledRows : TablesVersion → State → Type 0
HasRuledRows v s = HasCleanDisk s → IsTrue s.is_open → AreRowsRuled v s.now.trees

-- ---- the shelf alone

-- it is that of the texts that are kept by that version
pub record IsShelfAt (v : TablesVersion) (trees : Trees) (r : ReadBooks) : Type 0 where
  pub row : Meta
  pub is : (tables_content trees).meta ≡ Some row
  pub version : row.version ≡ v
  pub last : r.last ≡ row.last
  pub shelf : IsShelfOf row.book (content_at v trees).books r.own

-- inside a transaction that isn't committed: the shelf of what is kept is read, or a fault says why
-- not
pub record ReadsShelf (v : TablesVersion) (old new : State) (result : Result ReadBooks OpenFault)
    : Type 0 where
  pub shelf : HasCleanDisk new → IfOk result (IsShelfAt v old.now.trees)
  pub kept : HasCleanDisk new → KeepsCommit old new
  pub version : HasCleanDisk new → IfErr result (λ e. e ≡ Version → IsOtherThan v old.now.trees)
  pub rules : HasCleanDisk new → IfErr result (λ e. e ≡ Rules → ¬ IsRuledVersion v old.now.trees)
  pub other : IfErr result (λ e. (¬ (e ≡ Foreign)) × (¬ (e ≡ Older)))
  pub survives : Survives old new (λ _. ⊥)

-- outside it: nothing is changed
pub record FindsShelf (v : TablesVersion) (old new : State) (result : Result ReadBooks OpenFault)
    : Type 0 where
  pub shelf : HasCleanDisk new → IfOk result (IsShelfAt v old.now.trees)
  pub still : HasCleanDisk new → IsTrue new.is_open → IsStill old new
  pub version : HasCleanDisk new → IfErr result (λ e. e ≡ Version → IsOtherThan v old.now.trees)
  pub rules : HasCleanDisk new → IfErr result (λ e. e ≡ Rules → ¬ IsRuledVersion v old.now.trees)
  pub other : IfErr result (λ e. (¬ (e ≡ Foreign)) × (¬ (e ≡ Older)))
  pub survives : Survives old new (λ _. ⊥)

-- ---- within the transaction, and over it

-- the tables would be found again with what was read
abbrev pub IsHeldBy : ReadBooks → Trees → Type 0
IsHeldBy r trees = IsHeld (string_bytes r.text) r.own r.last trees

-- inside a transaction: the tables of a version become those of the latest, and the shelf of what
-- is kept is read; or a fault says why not
pub record BringsToLatest (v : TablesVersion) (old new : State)
    (result : Result ReadBooks OpenFault) : Type 0 where
  pub brings : Attempts (λ a b. BecomesLatest v a.now.trees b.now.trees × IsTabled b
      × Shows a b b.now a.committed true) old new result
  pub read : HasCleanDisk new → IfOk result (λ r. IsHeldBy r new.now.trees)
  pub given : IfOk result (λ r. r.given ≡ r.own)
  pub first : IfOk result (λ r. IsBookOf (string_bytes r.text) r.own.first)
  pub version : HasCleanDisk new → IfErr result (λ e. e ≡ Version → IsOtherThan v old.now.trees)
  pub rules : HasCleanDisk new → IfErr result (λ e. e ≡ Rules → ¬ IsRuledVersion v old.now.trees)
  pub other : IfErr result (λ e. (¬ (e ≡ Foreign)) × (¬ (e ≡ Older)))

-- outside a transaction: the tables are those of the latest version, or nothing is changed, and a
-- stop leaves what it left before or the whole migration
pub record MigratesTables (v : TablesVersion) (old new : State)
    (result : Result ReadBooks OpenFault) : Type 0 where
  pub done : HasCleanDisk new → IfOk result (λ r. IsTrue new.is_open
      × BecomesLatest v old.now.trees new.now.trees × IsHeldBy r new.now.trees)
  pub given : IfOk result (λ r. r.given ≡ r.own)
  pub first : IfOk result (λ r. IsBookOf (string_bytes r.text) r.own.first)
  pub kept : HasCleanDisk new → IsTrue new.is_open → OnErr result (IsStill old new)
  pub idle : OnOk result (HasIdleTables new)
  pub faults : TellsVersion v (¬ IsRuledVersion v old.now.trees) old new result
  pub survives : Survives old new (IsLeftLatest v old.now.trees)

-- the same where each row was tested before; a fault is of the shelf, of a row or of the migration
-- rule: database-migrated.ruled-version
pub record MigratesRuled (v : TablesVersion) (old new : State)
    (result : Result ReadBooks OpenFault) : Type 0 where
  pub moved : IfOk result (λ r. MigratesTables v old new (Ok r))
  pub version : HasCleanDisk new → IfErr result (λ e. e ≡ Version → IsOtherThan v old.now.trees)
  pub rules : HasCleanDisk new → IfErr result (λ e. e ≡ Rules → ¬ IsRuledVersion v old.now.trees)
  pub other : IfErr result (λ e. (¬ (e ≡ Foreign)) × (¬ (e ≡ Older)))
  pub still : HasCleanDisk new → IsTrue new.is_open → OnErr result (IsStill old new)
  pub survives : Survives old new (IsLeftLatest v old.now.trees)

-- ---- how it ends

-- the tables were those of a version: they become those of the latest, or they are left as they are
-- rule: database-migrated
pub record ComesToLatest (v : TablesVersion) (old new : State) : Type 0 where
  pub had : old.now.schema ≡ schema_at v
  pub becomes : v < latest → BecomesLatest v old.now.trees new.now.trees
  pub still : v ≡ latest → IsStill old new

-- the version that the database had is one that there is, and so the keeper holds what it held; one
-- of the latest is left as it is
-- rule: database-migrated: a database of an older version is brought to the latest whole or not at
--   all, also over a stop; its tables hold what they held, and a connection that is given back
--   shows what it showed while it is open
-- rule: database-migrated.ruled-version
pub record IsMigrated {S : Type 0} (g : Ghosts S) (old : Held S) (k : KeeperState S)
    (shelf : Shelf) : Type 0
  where
    pub begins : Begins g k shelf
    pub version : ℕ
    pub known : IsVersion version
    pub comes : HasCleanDisk (state g k.connection) →
        ComesToLatest version (state g old) (state g k.connection)
    pub survives : Survives (state g old) (state g k.connection)
        (λ db. IsLeftLatest version (state g old).now.trees db)

-- a stop leaves what it left before, or the whole migration; while the connection is open it shows
-- what it showed
-- rule: database-migrated, database-migrated.ruled-version
pub record FindsNone (old new : State) (fault : OpenFault) : Type 0 where
  pub survives : Survives old new (λ db. (v : TablesVersion) × IsVersion v ×
      IsLeftLatest v old.now.trees db)
  pub foreign : HasCleanDisk new → fault ≡ Foreign →
      (v : TablesVersion) → IsVersion v → ¬ (old.now.schema ≡ schema_at v)
  pub version : HasCleanDisk new → fault ≡ Version →
      (v : TablesVersion) × IsVersion v × (old.now.schema ≡ schema_at v)
      × IsOtherThan v old.now.trees
  pub rules : HasCleanDisk new → fault ≡ Rules →
      (v : TablesVersion) × IsVersion v × (old.now.schema ≡ schema_at v)
      × ¬ IsRuledVersion v old.now.trees
  pub newer : ¬ (fault ≡ Older)
  pub still : HasCleanDisk new → IsTrue new.is_open → IsStill old new

abbrev pub IsNotMigrated : {S : Type 0} → Ghosts S → Held S → Held S → OpenFault → Type 0
IsNotMigrated g old new fault = FindsNone (state g old) (state g new) fault

-- a database of this system: its tables are those of the latest version already and nothing is
-- written, or they become those
abbrev pub FindsAny : State → State → Result ReadBooks OpenFault → Type 0
FindsAny old new (Ok r) = (v : TablesVersion) × IsVersion v
    × (HasCleanDisk new → old.now.schema ≡ schema_at v)
    × (v ≡ latest → FindsRuled old new (Ok r)) × (v < latest → MigratesTables v old new (Ok r))
FindsAny old new (Err e) = FindsNone old new e
