-- What words make of the database that files held before, whatever they held.
-- Source: profile.
use Rattle.std.specs.Prelude.{◌≡◌, ◌<◌, ℕ, Option, None, Some, Result, Ok, Err}
use Rattle.std.specs.Prelude.{IfErr, IfOk, IfSome, OnErr, OnOk}
use Rattle.std.specs.Io.KnownBytes.{Appends}
use Rattle.units.specs.Words.{Moment, no_end}
use Rattle.texts.specs.StreamWords.{Bytes}
use Rattle.shelves.specs.Words.{BookText}
use Rattle.sqlite_disk.specs.declared.Disk as disk
use Rattle.sqlite_wal.specs.Recovery.{Image}
use Rattle.sqlite_store.specs.declared.store.FileStore.{FileStore}
use Rattle.sqlite_trees.specs.Tree.{Trees}
use Rattle.sqlite.specs.Effect.{IsDatabase}
use Rattle.sqlite.specs.Files.{HoldsDatabase, file_state, over_files}
use Rattle.sqlite.specs.State.{HasCleanDisk}
use Rattle.tariffs.specs.Books.{Book}
use Rattle.shelves.specs.Shelves.{Shelf, with_book}
use Rattle.keepers.specs.Tables.{Tables}
use Rattle.sql_tables.specs.Schema.{latest}
use Rattle.sql_tables.specs.Texts.{stage}
use Rattle.sql_tables.specs.Opens.{IsVersion}
use Rattle.sql_rows.specs.Content.{tables_content}
use Rattle.sql_keeper.specs.AddsBook.{IsAddedBehind}
use Rattle.sql_keeper.specs.Books.{IsBookOf}
use Rattle.sql_keeper.specs.Content.{shelf_names, tables_of}
use Rattle.sql_keeper.specs.Creates.{IsNewBook}
use Rattle.sql_keeper.specs.Inside.{KeeperState, IsClean, tables_in}
use Rattle.sql_keeper.specs.Migrates.{BecomesLatest}
use Rattle.sql_keeper.specs.Opened.{IsFresh, IsLeft}
use Rattle.sql_keeper.specs.Shelves.{IsShelfOf}
use Rattle.sql_keeper.specs.Stops.{trees_in}
use Rattle.operations.specs.Carried.{IsCarriedOut}
use Rattle.operations.specs.Counts.{counts_line}
use Rattle.operations.specs.Months.{IsMonthTold}
use Rattle.operations.specs.Counts.{PrintsCounts}
use Rattle.operations.specs.Printed.{PrintsAnswer}
use Rattle.operations.specs.Told.{answer_line, status_of}
use Rattle.operations.specs.declared.stating.MonthQuery.{MonthQuery}
use Rattle.operations.specs.declared.status.Status.{Status}
use Rattle.operator.specs.Office.{command_of_office}
use Rattle.operator.specs.declared.parsed.ImportWords.{ImportWords}
use Rattle.operator.specs.declared.parsed.OfficeWords.{OfficeWords}
use Rattle.operator.specs.declared.parsed.StatementWords.{StatementWords}
use Rattle.service.specs.Importing.{IsFileImported, IsImportEnd, IsUntold}
use Rattle.service.specs.Opening.{IsCommandFault, IsUnanswered}
use Rattle.service.specs.declared.fault.DatabaseFault.{DatabaseFault}
use Rattle.service.specs.declared.fault.DatabaseFault.TheVariants.{Clock}
use Rattle.service.specs.declared.importing.ImportFault.{ImportFault}

-- ---- what is opened

-- a keeper and its shelf are those of a database that the files held: its rows are there, whole
-- rule: database-words.opened-in: what words leave of the database that a file held, and what they
--   print
pub record IsOpenedIn {D : Type 0} {g : disk.Ghosts D} (image : Image)
    (k : KeeperState (FileStore D g)) (shelf : Shelf) : Type 0
  where
    pub fresh : IsFresh k shelf
    pub clean : HasCleanDisk (file_state k.connection) → IsClean (file_state k.connection)
    pub left : HasCleanDisk (file_state k.connection) → IsLeft k.text (trees_in over_files k)
    pub books : HasCleanDisk (file_state k.connection) →
        IsShelfOf k.text (tables_content (trees_in over_files k)).books shelf
    pub holds : HasCleanDisk (file_state k.connection) → (db : Trees) → HoldsDatabase image db →
        trees_in over_files k ≡ db

-- a keeper has the tables of the book of a text, with no row but what is kept once: what database
-- the files held, if any, had no table
-- rule: database-words.opened-in
pub record IsMadeIn {D : Type 0} {g : disk.Ghosts D} (image : Image) (text : BookText)
    (k : KeeperState (FileStore D g)) : Type 0 where
  pub blank : (db : Trees) → HoldsDatabase image db →
      IsDatabase (record { schema = stage 0; trees = db })
  pub of_text : k.text ≡ text
  pub made : IsNewBook text (trees_in over_files k)

-- a keeper has the tables of the latest version, and what the files held of a database of the same
-- or of an older one
-- rule: database-words.opened-in
pub record IsMigratedIn {D : Type 0} {g : disk.Ghosts D} (image : Image)
    (k : KeeperState (FileStore D g)) (shelf : Shelf) : Type 0
  where
    pub left : IsLeft k.text (trees_in over_files k)
    pub books : IsShelfOf k.text (tables_content (trees_in over_files k)).books shelf
    pub version : ℕ
    pub known : IsVersion version
    pub becomes : version < latest → (db : Trees) → HoldsDatabase image db →
        BecomesLatest version db (trees_in over_files k)
    pub still : version ≡ latest → (db : Trees) → HoldsDatabase image db →
        trees_in over_files k ≡ db

-- the last book of a shelf is that of a text, from a moment on
-- rule: database-words
pub record EndsWith (text : BookText) (from : Moment) (shelf : Shelf) : Type 0 where
  pub before : Shelf
  pub book : Book
  pub read : IsBookOf text book
  pub is : shelf ≡ with_book before from book

abbrev pub EndsWithSome : Moment → Shelf → Type 0
EndsWithSome from shelf = (text : BookText) × EndsWith text from shelf

-- the book of a text was added to the shelf of the database that the files held, and to its tables
-- rule: database-words
abbrev pub IsAddedIn : {D : Type 0} → {g : disk.Ghosts D} → Image → BookText → Moment →
    KeeperState (FileStore D g) → Shelf → Type 0
IsAddedIn image text from k shelf = (db : Trees) (first : BookText) (before : Shelf) →
    HoldsDatabase image db → IsLeft first db → IsShelfOf first (tables_content db).books before →
    IsAddedBehind text from before shelf db (trees_in over_files k)

-- where the files held a database that was left with a text, this is so of the shelf of its books,
-- and of the tables of its rows
abbrev pub ForLeft : Image → (Shelf → Tables → Type 0) → Type 0
ForLeft image says = (db : Trees) (text : BookText) (shelf : Shelf) → HoldsDatabase image db →
    IsLeft text db → IsShelfOf text (tables_content db).books shelf →
    says shelf (tables_of (shelf_names shelf) (tables_content db))

-- so it is of the tables that were found and of those that the keeper has then
-- rule: database-words.opened-in
abbrev pub Comes : {D : Type 0} → {g : disk.Ghosts D} → Image → KeeperState (FileStore D g) →
    (Shelf → Tables → Tables → Type 0) → Type 0
Comes image k says = ForLeft image (λ shelf found. says shelf found (tables_in over_files k))

-- ---- what the words say

-- the moment of a command: the one that they say, or one of the clock
-- rule: clock: the moment of a command without `--at`
abbrev pub IsMomentOf : Option Moment → Moment → Type 0
IsMomentOf (Some at) t = t ≡ at
IsMomentOf None t = t < no_end

abbrev pub query_of : StatementWords → MonthQuery
query_of words = record { account = words.account; month = words.month; csv = words.csv }

-- ---- what becomes of them

-- their command was carried out: its line is written, and the status is its answer's
-- rule: database-words.opened-in
pub record IsCommandDone (words : OfficeWords) (before after : Option Bytes) (status : Status)
    (shelf : Shelf) (old new : Tables) : Type 0 where
  pub moment : Moment
  pub said : IsMomentOf words.at moment
  pub carried : IsCarriedOut shelf (command_of_office words.command) moment old new
      (λ answer. (status ≡ status_of answer) × Appends before after (answer_line answer))

-- their month is written, or that there is no such account, and no row has changed
-- rule: database-words.opened-in
pub record IsMonthDone (words : StatementWords) (before after : Option Bytes) (status : Status)
    (shelf : Shelf) (old new : Tables) : Type 0 where
  pub moment : Moment
  pub said : IsMomentOf words.at moment
  pub told : IsMonthTold shelf (query_of words) moment old before after (Ok status)
  pub same : new ≡ old

-- the vouchers of a text were added, and the line of their counts is written
-- rule: database-words.opened-in
pub record IsImportDone (words : ImportWords) (text : Bytes) (before after : Option Bytes)
    (shelf : Shelf) (old new : Tables) : Type 0 where
  pub moment : Moment
  pub said : IsMomentOf words.at moment
  pub imported : IsFileImported shelf text moment old new
      (λ counts. Appends before after (counts_line counts))

-- ---- what the calls answer, over what the files held

-- the moment of the words, or the clock's, which may have none
pub record GivesMoment (at : Option Moment) (result : Result Moment DatabaseFault) : Type 0 where
  pub said : IfSome at (λ t. result ≡ Ok t)
  pub asked : at ≡ None → IfOk result (λ t. t < no_end)
  pub moment : IfOk result (IsMomentOf at)
  pub told : OnErr result (result ≡ Err Clock)
  pub unasked : OnErr result (at ≡ None)

-- a command's answer is printed, or nothing is where it wasn't carried out
pub record CommandsOffice {O : Type 0} (contents : O → Option Bytes) (at : Option Moment)
    (old new : O) (result : Result Status DatabaseFault) : Type 0 where
  pub printed : IfOk result (λ status. PrintsAnswer status (contents old) (contents new))
  pub unwritten : IfErr result (λ fault. IsUnanswered fault → new ≡ old)
  pub fault : IfErr result (IsCommandFault at)

-- so it is, and the command was carried out over what the files held
pub record CommandsOver {D O : Type 0} {g : disk.Ghosts D} (image : Image)
    (contents : O → Option Bytes) (words : OfficeWords) (old new : O)
    (result : Result (Status × KeeperState (FileStore D g)) DatabaseFault) : Type 0 where
  pub carried : IfOk result (λ r. HasCleanDisk (file_state r.1.connection) →
      Comes image r.1 (IsCommandDone words (contents old) (contents new) r.0))
  pub printed : IfOk result (λ r. PrintsAnswer r.0 (contents old) (contents new))
  pub unwritten : IfErr result (λ fault. IsUnanswered fault → new ≡ old)
  pub fault : IfErr result (IsCommandFault words.at)

-- the vouchers of a text were added to what the files held, and their counts are printed; or
-- nothing is where they weren't
pub record ImportsOver {D O : Type 0} {g : disk.Ghosts D} (image : Image)
    (contents : O → Option Bytes) (words : ImportWords) (bytes : Option Bytes) (old new : O)
    (result : Result (KeeperState (FileStore D g)) ImportFault) : Type 0 where
  pub imported : IfOk result (λ keeper. HasCleanDisk (file_state keeper.connection) →
      IfSome bytes (λ text. Comes image keeper
      (IsImportDone words text (contents old) (contents new))))
  pub printed : OnOk result (PrintsCounts (contents old) (contents new))
  pub unwritten : IfErr result (λ fault. IsUntold fault → new ≡ old)
  pub fault : IfErr result (IsImportEnd words.at)
