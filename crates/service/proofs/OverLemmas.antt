-- What words leave of the database that files held, out of what they leave of a keeper that was
-- opened.
use Rattle.std.proofs.Common.{◌≡◌, ℕ, List, Option, Some, None, Result, Ok, Err, ap, subst}
use Rattle.std.proofs.Common.{◌∙◌, arith, inl, inr}
use Rattle.std.specs.Prelude.{IfOk, IfSome}
use Rattle.std.specs.Io.KnownBytes.{Appends}
use Rattle.sqlite_disk.specs.declared.Disk as disk
use Rattle.sqlite_wal.specs.Recovery.{Image}
use Rattle.sqlite_store.specs.declared.store.FileStore.{FileStore}
use Rattle.sqlite_trees.specs.Tree.{Trees}
use Rattle.sqlite.specs.Effect.{Database, IsDatabase}
use Rattle.sqlite.specs.Files.{HoldsDatabase, IsOpened as IsNewlyOpened, file_state, over_files}
use Rattle.sqlite.specs.Held.{Held}
use Rattle.sqlite.specs.Start.{FindsIn}
use Rattle.sqlite.specs.State.{HasCleanDisk}
use Rattle.sqlite_schema.specs.declared.schema.Schema.{Schema}
use Rattle.shelves.specs.Shelves.{Shelf}
use Rattle.keepers.specs.Tables.{Tables}
use Rattle.sql_tables.specs.Texts.{stage}
use Rattle.sql_rows.specs.Content.{tables_content}
use Rattle.sql_keeper.specs.Content.{shelf_names, tables_of, Names}
use Rattle.sql_keeper.specs.Inside.{IsClean, KeeperState, tables_in}
use Rattle.sql_keeper.specs.Migrates.{BecomesLatest, IsMigrated}
use Rattle.sql_keeper.specs.Opened.{IsCreated, IsFresh, IsKept, IsLeft, IsOpened}
use Rattle.sql_keeper.specs.Shelves.{IsShelfOf}
use Rattle.sql_keeper.specs.Stops.{trees_in}
use Rattle.sql_keeper.proofs.shelf.OneShelf.{one_shelf}
use Rattle.operations.specs.Counts.{counts_line}
use Rattle.operations.specs.Months.{BeginsMonth, IsMonthTold, PrintsMonth, WritesMonth}
use Rattle.operations.specs.Written.{WritesBeginning}
use Rattle.operations.specs.declared.fault.OfficeFault.{OfficeFault}
use Rattle.operations.specs.declared.stating.MonthQuery.{MonthQuery}
use Rattle.operations.specs.declared.status.Status.{Status}
use Rattle.operator.specs.declared.parsed.ImportWords.{ImportWords}
use Rattle.operator.specs.declared.parsed.StatementWords.{StatementWords}
use Rattle.service.specs.Importing.{IsFileImported}
use Rattle.service.specs.Over.{Comes, IsImportDone, IsMadeIn, IsMigratedIn, IsMomentOf}
use Rattle.service.specs.Over.{IsMonthDone, IsOpenedIn, query_of}
use Rattle.service.specs.Stating.{BeginsMonthOf, PrintsMonthOf}

-- what was opened over the files is what they held
-- rule: database-words.opened-in
pub opened_in : {D : Type 0} {g : disk.Ghosts D} (image : Image) (c : Held (FileStore D g))
    (k : KeeperState (FileStore D g)) (shelf : Shelf) →
    (HasCleanDisk (file_state c) → IsNewlyOpened c) →
    (HasCleanDisk (file_state c) → FindsIn image (file_state c)) →
    IsOpened over_files c k shelf → IsOpenedIn image k shelf
opened_in image c k shelf new found opened = record {
  fresh = opened.begins.fresh;
  clean = opened.begins.clean;
  left = λ clean. (opened.begins.held clean).left.left;
  books = λ clean. (opened.begins.held clean).books;
  holds = λ clean db held.
      let early : HasCleanDisk (file_state c) = omega (arith, clean, opened.survives.clean) in
      ap (λ (d : Database). d.trees) ((opened.still clean).now_is ∙ (new early).0.clean)
      ∙ (found early).holds db held;
}

-- what was committed last of what is opened is what the files held
held_by : {D : Type 0} {g : disk.Ghosts D} (image : Image) (c : Held (FileStore D g)) →
    IsNewlyOpened c → FindsIn image (file_state c) → (db : Trees) → HoldsDatabase image db →
    (file_state c).now.trees ≡ db
held_by image c new found db held =
    ap (λ (d : Database). d.trees) new.0.clean ∙ found.holds db held

-- a database that was made over the files
-- rule: database-words.opened-in
pub made_in : {D : Type 0} {g : disk.Ghosts D} (image : Image) (text bytes : List ℕ)
    (c : Held (FileStore D g)) (k : KeeperState (FileStore D g)) (shelf : Shelf) → text ≡ bytes →
    (HasCleanDisk (file_state c) → IsNewlyOpened c) →
    (HasCleanDisk (file_state c) → FindsIn image (file_state c)) →
    IsCreated over_files text c k shelf → HasCleanDisk (file_state k.connection) →
    IsMadeIn image bytes k
made_in image text bytes c k shelf same new found created clean =
    let early : HasCleanDisk (file_state c) = omega (arith, clean, created.survives.clean) in
    subst (λ (x : List ℕ). IsMadeIn image x k) same (record {
      blank = λ db held.
          let opened = new early in
          subst (λ (t : Trees). IsDatabase (record { schema = stage 0; trees = t }))
          (held_by image c opened (found early) db held)
          (subst (λ (s : Schema). IsDatabase (record {
            schema = s;
            trees = (file_state c).now.trees;
          })) created.blank (opened.1 opened.0.is_open).0);
      of_text = created.of_text;
      made = created.made clean;
    })

-- and one that was migrated over them
-- rule: database-words.opened-in
pub migrated_in : {D : Type 0} {g : disk.Ghosts D} (image : Image) (c : Held (FileStore D g))
    (k : KeeperState (FileStore D g)) (shelf : Shelf) →
    (HasCleanDisk (file_state c) → IsNewlyOpened c) →
    (HasCleanDisk (file_state c) → FindsIn image (file_state c)) →
    IsMigrated over_files c k shelf → HasCleanDisk (file_state k.connection) →
    IsMigratedIn image k shelf
migrated_in image c k shelf new found migrated clean =
    let early : HasCleanDisk (file_state c) = omega (arith, clean, migrated.survives.clean) in
    record {
      left = (migrated.begins.held clean).left.left;
      books = (migrated.begins.held clean).books;
      version = migrated.version;
      known = migrated.known;
      becomes = λ older db held.
          subst (λ (t : Trees). BecomesLatest migrated.version t (trees_in over_files k))
          (held_by image c (new early) (found early) db held) ((migrated.comes clean).becomes older);
      still = λ same db held. ap (λ (d : Database). d.trees) ((migrated.comes clean).still same).now_is
          ∙ held_by image c (new early) (found early) db held;
    }

-- what was made is fresh, and so is what was migrated
pub made_fresh : {D : Type 0} {g : disk.Ghosts D} (text : List ℕ) (c : Held (FileStore D g))
    (k : KeeperState (FileStore D g)) (shelf : Shelf) →
    IsCreated over_files text c k shelf → IsFresh k shelf
made_fresh text c k shelf created = created.begins.fresh

pub migrated_fresh : {D : Type 0} {g : disk.Ghosts D} (c : Held (FileStore D g))
    (k : KeeperState (FileStore D g)) (shelf : Shelf) →
    IsMigrated over_files c k shelf → IsFresh k shelf
migrated_fresh c k shelf migrated = migrated.begins.fresh

-- it has the shelf of that database, and its tables
-- rule: database-words.opened-in
pub same_office : {D : Type 0} {g : disk.Ghosts D} (image : Image)
    (k : KeeperState (FileStore D g)) (s : Shelf) → IsOpenedIn image k s →
    HasCleanDisk (file_state k.connection) → (db : Trees) (text : List ℕ) (shelf : Shelf) →
    HoldsDatabase image db → IsLeft text db → IsShelfOf text (tables_content db).books shelf →
    (s ≡ shelf) × (tables_in over_files k ≡ tables_of (shelf_names shelf) (tables_content db))
same_office image k s opened clean db text shelf held left is =
    let rows : trees_in over_files k ≡ db = opened.holds clean db held in
    let one : s ≡ shelf =
    one_shelf db k.text text s shelf
    (subst (λ (t : Trees). IsKept t k.text) rows (opened.left clean).kept) left.kept
    (subst (λ (t : Trees). IsShelfOf k.text (tables_content t).books s) rows (opened.books clean))
    is in (
      one,
      ap (λ (n : Names). tables_of n (tables_content (trees_in over_files k)))
          (ap shelf_names (opened.fresh.own ∙ one))
          ∙ ap (λ (t : Trees). tables_of (shelf_names shelf) (tables_content t)) rows,
    )

-- and what is so of a keeper's shelf and tables is so of those of the database
-- rule: database-words.opened-in
pub comes_from : {D : Type 0} {g : disk.Ghosts D} (image : Image)
    (old new : KeeperState (FileStore D g)) (s : Shelf) (says : Shelf → Tables → Tables → Type 0) →
    IsOpenedIn image old s → HasCleanDisk (file_state old.connection) →
    says s (tables_in over_files old) (tables_in over_files new) → Comes image new says
comes_from image old new s says opened clean done db text shelf held left is =
    let same = same_office image old s opened clean db text shelf held left is in
    subst (λ (t : Tables). says shelf t (tables_in over_files new)) same.1
    (subst (λ (x : Shelf). says x (tables_in over_files old) (tables_in over_files new)) same.0
    done)

-- so it is of what a call answers
pub over_from : {D A E : Type 0} {g : disk.Ghosts D} (image : Image)
    (old : KeeperState (FileStore D g)) (s : Shelf) (r : Result A E)
    (keeper : A → KeeperState (FileStore D g)) (says : A → Shelf → Tables → Tables → Type 0) →
    IsOpenedIn image old s →
    IfOk r (λ x. HasCleanDisk (file_state (keeper x).connection) →
    HasCleanDisk (file_state old.connection)) →
    IfOk r (λ x. HasCleanDisk (file_state (keeper x).connection) →
    says x s (tables_in over_files old) (tables_in over_files (keeper x))) →
    IfOk r (λ x. HasCleanDisk (file_state (keeper x).connection) →
    Comes image (keeper x) (says x))
over_from image old s (Ok x) keeper says opened honesty done = λ clean.
    comes_from image old (keeper x) s (says x) opened (honesty clean) (done clean)
over_from image old s (Err e) keeper says opened honesty done = tt

-- and of what it answers over a reader that shows its bytes
pub read_from : {D A E : Type 0} {g : disk.Ghosts D} (image : Image)
    (old : KeeperState (FileStore D g)) (s : Shelf) (r : Result A E) (bytes : Option (List ℕ))
    (keeper : A → KeeperState (FileStore D g))
    (says : List ℕ → A → Shelf → Tables → Tables → Type 0) → IsOpenedIn image old s →
    IfOk r (λ x. HasCleanDisk (file_state (keeper x).connection) →
    HasCleanDisk (file_state old.connection)) →
    IfOk r (λ x. IsClean (file_state old.connection) →
    HasCleanDisk (file_state (keeper x).connection) → IfSome bytes (λ text.
    says text x s (tables_in over_files old) (tables_in over_files (keeper x)))) →
    IfOk r (λ x. HasCleanDisk (file_state (keeper x).connection) → IfSome bytes (λ text.
    Comes image (keeper x) (says text x)))
read_from image old s (Ok x) (Some text) keeper says opened honesty done = λ clean.
    comes_from image old (keeper x) s (says text x) opened (honesty clean)
    (done (opened.clean (honesty clean)) clean)
read_from image old s (Ok x) None keeper says opened honesty done = λ clean. tt
read_from image old s (Err e) bytes keeper says opened honesty done = tt

-- ---- what was done at the moment of words

pub import_done : (words : ImportWords) (t : ℕ) (before after : Option (List ℕ)) (shelf : Shelf)
    (old new : Tables) (bytes : Option (List ℕ)) → IsMomentOf words.at t →
    IfSome bytes (λ text. IsFileImported shelf text t old new
    (λ counts. Appends before after (counts_line counts))) →
    IfSome bytes (λ text. IsImportDone words text before after shelf old new)
import_done words t before after shelf old new (Some text) said imported =
    record { moment = t; said = said; imported = imported }
import_done words t before after shelf old new None said imported = tt

pub month_done : (words : StatementWords) (t : ℕ) (before after : Option (List ℕ)) (shelf : Shelf)
    (old new : Tables) (status : Status) → IsMomentOf words.at t →
    IsMonthTold shelf (query_of words) t old before after (Ok status) → new ≡ old →
    IsMonthDone words before after status shelf old new
month_done words t before after shelf old new status said told same = record {
  moment = t;
  said = said;
  told = told;
  same = same;
}

-- a beginning of what an office writes is one of what is asked for
pub begins_of : (words : StatementWords) (shelf : Shelf) (q : MonthQuery)
    (old new : Option (List ℕ)) → q ≡ query_of words → BeginsMonth shelf q old new →
    BeginsMonthOf words old new
begins_of words shelf q old new same (inl month) = inl (record {
  shelf = shelf;
  begun = subst (λ (x : MonthQuery). WritesMonth shelf x (WritesBeginning old new)) same month;
})
begins_of words shelf q old new same (inr line) = inr line

-- what it prints is what is asked for
pub prints_of : (words : StatementWords) (shelf : Shelf) (q : MonthQuery)
    (old new : Option (List ℕ)) (status : Status) → q ≡ query_of words →
    PrintsMonth shelf q old new status → PrintsMonthOf words old new status
prints_of words shelf q old new status same printed = record {
  shelf = shelf;
  printed = subst (λ (x : MonthQuery). PrintsMonth shelf x old new status) same printed;
}

-- what it answers is
pub tells_of : (words : StatementWords) (shelf : Shelf) (q : MonthQuery) (t : ℕ) (old : Tables)
    (before after : Option (List ℕ)) (given : Result Status OfficeFault) → q ≡ query_of words →
    IsMonthTold shelf q t old before after given →
    IsMonthTold shelf (query_of words) t old before after given
tells_of words shelf q t old before after given same told =
    subst (λ (x : MonthQuery). IsMonthTold shelf x t old before after given) same told
