-- What becomes of a file of vouchers, for every list of accepted commands whose tables a keeper
-- holds, and which faults are reported.
-- Source: profile.
use Rattle.std.specs.Prelude.{◌≡◌, List, Option, None, Result, Ok, Err, IsTrue, false}
use Rattle.std.specs.Prelude.{IfErr, IfSome, OnOk}
use Rattle.std.specs.Io.KnownBytes.{Appends}
use Rattle.units.specs.Words.{Moment}
use Rattle.texts.specs.StreamWords.{Bytes}
use Rattle.commands.specs.declared.command.VoucherAddition.{VoucherAddition}
use Rattle.shelves.specs.Shelves.{Shelf}
use Rattle.keepers.specs.Seen.{Seen}
use Rattle.keepers.specs.Tables.{Tables}
use Rattle.keepers.specs.declared.fault.StoreFault.{StoreFault}
use Rattle.charging.specs.Promise.{Carries}
use Rattle.operations.specs.Counts.{PrintsCounts, counts_line}
use Rattle.operations.specs.Faults.{store_fault}
use Rattle.operations.specs.Imports.{BeginsImport, TellsImport, additions}
use Rattle.operations.specs.Written.{WritesBeginning}
use Rattle.operations.specs.declared.counts.Counts.{Counts}
use Rattle.operations.specs.declared.fault.OfficeFault.TheVariants.{Store, Write}
use Rattle.vouchers.specs.Faults.{is_in_file}
use Rattle.vouchers.specs.Files.{MayStopAt, vouchers_in}
use Rattle.service.specs.Opening.{IsCommandFault, IsOfficeFault, IsUnanswered}
use Rattle.service.specs.declared.fault.DatabaseFault.{DatabaseFault}
use Rattle.service.specs.declared.fault.DatabaseFault.TheVariants.{Office}
use Rattle.service.specs.declared.importing.ImportFault.{ImportFault}
use Rattle.service.specs.declared.importing.ImportFault.TheVariants.{Vouchers, Database}

-- the text's vouchers were added, in their order, and this is so of the counts
pub record IsFileImported (b : Shelf) (text : Bytes) (t : Moment) (old new : Tables)
    (tells : Counts → Type 0) : Type 0 where
  pub rows : List VoucherAddition
  pub says : vouchers_in text ≡ Ok rows
  pub imported : TellsImport b (additions t rows) old new tells

-- a beginning of them was
pub record IsFileBegun (b : Shelf) (text : Bytes) (t : Moment) (old new : Tables) : Type 0 where
  pub rows : List VoucherAddition
  pub says : vouchers_in text ≡ Ok rows
  pub begun : BeginsImport b (additions t rows) old new

-- over a keeper, a fault of the database is the store's or the writer's
abbrev pub IsOverKeeper : Shelf → Bytes → Moment → Tables → Tables → Option Bytes → Option Bytes →
    DatabaseFault → Type 0
IsOverKeeper b text t old new before after (Office (Store fault)) = IsFileBegun b text t old new
IsOverKeeper b text t old new before after (Office (Write fault)) =
    IsFileImported b text t old new (λ counts. WritesBeginning before after (counts_line counts))
IsOverKeeper b text t old new before after _ = ⊥

-- one of the text is its first, or reading it stopped, which it may do at that record: then no
-- table has changed
abbrev pub IsFileImportFault : Shelf → Bytes → Moment → Tables → Tables → Option Bytes →
    Option Bytes → ImportFault → Type 0
IsFileImportFault b text t old new before after (Vouchers fault) =
    (IsTrue (is_in_file fault.kind) → vouchers_in text ≡ Err fault)
    × (is_in_file fault.kind ≡ false → MayStopAt fault.record_number text) × (new ≡ old)
IsFileImportFault b text t old new before after (Database fault) =
    IsOverKeeper b text t old new before after fault

-- one of the file, or of the office's
abbrev pub IsFileFault : ImportFault → Type 0
IsFileFault (Vouchers fault) = Unit {0}
IsFileFault (Database fault) = IsOfficeFault fault

-- one of the file, or of a command over a database
abbrev pub IsImportEnd : Option Moment → ImportFault → Type 0
IsImportEnd at (Vouchers fault) = Unit {0}
IsImportEnd at (Database fault) = IsCommandFault at fault

-- nothing was printed
abbrev pub IsUntold : ImportFault → Type 0
IsUntold (Vouchers fault) = Unit {0}
IsUntold (Database fault) = IsUnanswered fault

-- ---- what the calls answer

-- the keeper's fault that a call ended with, where it is one
abbrev pub import_store_fault : {A : Type 0} → Result A ImportFault → Option StoreFault
import_store_fault (Ok done) = None
import_store_fault (Err (Vouchers fault)) = None
import_store_fault (Err (Database (Office fault))) = store_fault fault
import_store_fault (Err (Database _)) = None

-- the counts are printed, or nothing is where the vouchers weren't added
pub record ImportsOffice {A O : Type 0} (contents : O → Option Bytes) (at : Option Moment)
    (old new : O) (result : Result A ImportFault) : Type 0 where
  pub printed : OnOk result (PrintsCounts (contents old) (contents new))
  pub unwritten : IfErr result (λ fault. IsUntold fault → new ≡ old)
  pub fault : IfErr result (IsImportEnd at)

-- over a keeper: the vouchers of a reader's text are added and counted, or a fault says why not
pub record ImportsFile {A O : Type 0} (contents : O → Option Bytes) (b : Shelf)
    (bytes : Option Bytes) (t : Moment) (old new : Seen) (before after : O) (result : Result A
    ImportFault) : Type 0 where
  pub done : new.clean → OnOk result (IfSome bytes (λ text.
      IsFileImported b text t old.tables new.tables
      (λ counts. Appends (contents before) (contents after) (counts_line counts))))
  pub printed : OnOk result (PrintsCounts (contents before) (contents after))
  pub fault : new.clean → IfErr result (λ fault. IfSome bytes (λ text.
      IsFileImportFault b text t old.tables new.tables (contents before) (contents after) fault))
  pub unwritten : IfErr result (λ fault. IsUntold fault → after ≡ before)
  pub told : IfErr result IsFileFault
  pub keeper : Carries old new (import_store_fault result)
