-- Vouchers that are added one after another, for every list of accepted commands whose tables a
-- keeper holds.
-- Source: profile.
use Rattle.std.specs.Prelude.{◌≡◌, ◌<◌, ◌≤◌, ℕ, List, [], ◌∷◌, length, map, take, MatchResult}
use Rattle.std.specs.Prelude.{Option, Result, Err, IfOk, OnOk}
use Rattle.std.specs.Io.KnownBytes.{Appends}
use Rattle.units.specs.Words.{Moment}
use Rattle.texts.specs.StreamWords.{Bytes}
use Rattle.texts.specs.declared.streams.StreamFault.{StreamFault}
use Rattle.commands.specs.declared.command.Command.TheVariants.{AddVoucher}
use Rattle.commands.specs.declared.command.VoucherAddition.{VoucherAddition}
use Rattle.shelves.specs.Shelves.{Shelf}
use Rattle.keepers.specs.Faults.{HasCause}
use Rattle.keepers.specs.Seen.{Seen}
use Rattle.keepers.specs.Tables.{Tables}
use Rattle.keepers.specs.declared.fault.StoreFault.{StoreFault}
use Rattle.charging.specs.Accepted.{Accepted, IsInTime}
use Rattle.charging.specs.Parts.{Leaves}
use Rattle.charging.specs.Promise.{Carries}
use Rattle.charging.specs.Runs.{after_command, after_commands}
use Rattle.charging.specs.Served.{AreTables, accepts, answer_to, moment_of}
use Rattle.charging.specs.declared.running.DatedCommand.{DatedCommand}
use Rattle.voucher_rules.specs.declared.adding.Addition.{Addition}
use Rattle.operations.specs.Counts.{PrintsCounts}
use Rattle.operations.specs.Counts.{counted, counted_as, counts_line, no_counts, total_count}
use Rattle.operations.specs.Faults.{office_store_fault}
use Rattle.operations.specs.Printed.{PrintsLine}
use Rattle.operations.specs.Written.{WritesBeginning}
use Rattle.operations.specs.declared.counts.Counts.{Counts}
use Rattle.operations.specs.declared.fault.OfficeFault.{OfficeFault}
use Rattle.operations.specs.declared.fault.OfficeFault.TheVariants.{Store, Write}

-- the command that adds a voucher, handed in with a moment
abbrev pub addition_at : Moment → VoucherAddition → DatedCommand
addition_at t row = record { moment = t; command = AddVoucher row }

-- those that add vouchers, in their order
abbrev pub additions : Moment → List VoucherAddition → List DatedCommand
additions t rows = map (addition_at t) rows

-- with one command more, as it was decided after a list
abbrev pub counted_after : Shelf → List Accepted → DatedCommand → Counts → Counts
counted_after b list d n = counted (accepts b list d.command (moment_of list d.moment))
    (answer_to b list d.command (moment_of list d.moment)) n

-- with these commands, each as it was decided after those before it
-- rule: import
abbrev pub counts_after : Shelf → List Accepted → List DatedCommand → Counts → Counts
counts_after b list [] n = n
counts_after b list (d ∷ ds) n =
    counts_after b (after_command b list d) ds (counted_after b list d n)

-- all were added: the counts are those of the decisions, and the tables those of the list with what
-- was accepted; where none is new no table has changed
pub record IsImported (b : Shelf) (list : List Accepted) (commands : List DatedCommand)
    (old new : Tables) (counts : Counts) : Type 0 where
  pub counted : counts ≡ counts_after b list commands no_counts
  pub tables : AreTables b (after_commands b list commands) new
  pub time : IsInTime (after_commands b list commands)
  pub same : counts.new ≡ 0 → new ≡ old

-- a beginning of them was
pub record IsImportBegun (b : Shelf) (list : List Accepted) (commands : List DatedCommand)
    (new : Tables) : Type 0 where
  pub count : ℕ
  pub few : count < length commands
  pub tables : AreTables b (after_commands b list (take count commands)) new
  pub time : IsInTime (after_commands b list (take count commands))

-- rule: import
abbrev pub Imports : Shelf → List DatedCommand → Tables → Tables → Result Counts StoreFault → Type 0
Imports b commands old new result =
    (list : List Accepted) → IsInTime list → AreTables b list old →
    MatchResult result (λ counts. IsImported b list commands old new counts)
    (λ fault. IsImportBegun b list commands new)

-- a beginning was, whatever the list
abbrev pub BeginsImport : Shelf → List DatedCommand → Tables → Tables → Type 0
BeginsImport b commands old new =
    (list : List Accepted) → IsInTime list → AreTables b list old →
    IsImportBegun b list commands new

-- tables are those of a beginning of them
pub record IsBeginningHeld (b : Shelf) (list : List Accepted) (commands : List DatedCommand)
    (held : Tables) : Type 0 where
  pub count : ℕ
  pub few : count ≤ length commands
  pub tables : AreTables b (after_commands b list (take count commands)) held

abbrev pub HoldsBeginning : Shelf → List DatedCommand → Tables → Tables → Type 0
HoldsBeginning b commands old held =
    (list : List Accepted) → IsInTime list → AreTables b list old →
    IsBeginningHeld b list commands held

-- all were, and this is so of the counts
-- rule: import: an import: the vouchers added, and their counts
pub record IsImportTold (b : Shelf) (list : List Accepted) (commands : List DatedCommand)
    (old new : Tables) (tells : Counts → Type 0) : Type 0 where
  pub imported : IsImported b list commands old new (counts_after b list commands no_counts)
  pub told : tells (counts_after b list commands no_counts)

abbrev pub TellsImport : Shelf → List DatedCommand → Tables → Tables → (Counts → Type 0) → Type 0
TellsImport b commands old new tells =
    (list : List Accepted) → IsInTime list → AreTables b list old →
    IsImportTold b list commands old new tells

-- ---- over a keeper

-- all are counted, or a beginning of them was added before the store failed
pub record ImportsRows (b : Shelf) (t : Moment) (rows : List VoucherAddition) (old new : Seen)
    (result : Result Counts StoreFault) : Type 0 where
  pub imported : new.clean → Imports b (additions t rows) old.tables new.tables result
  pub all : IfOk result (λ counts. total_count counts ≡ length rows)
  pub cleanness : new.clean → old.clean
  pub honesty : new.honest → old.honest
  pub stands : new.honest → old.clean → OnOk result new.clean
  pub left : Leaves old new (HoldsBeginning b (additions t rows) old.tables)
  pub cause : HasCause old.failed new.failed result

-- the counts are written as a line; where it isn't written, all were added; where the store failed,
-- a beginning of them was
pub record ServesImport {A W : Type 0} (contents : W → Option Bytes)
    (b : Shelf) (t : Moment) (rows : List VoucherAddition) (old new : Seen) (before after : W)
    (result : Result A OfficeFault) : Type 0 where
  pub done : new.clean → OnOk result (TellsImport b (additions t rows) old.tables new.tables
      (λ counts. Appends (contents before) (contents after) (counts_line counts)))
  pub untold : (fault : StreamFault) → result ≡ Err (Write fault) → new.clean →
      TellsImport b (additions t rows) old.tables new.tables
      (λ counts. WritesBeginning (contents before) (contents after) (counts_line counts))
  pub unserved : (fault : StoreFault) → result ≡ Err (Store fault) → new.clean →
      BeginsImport b (additions t rows) old.tables new.tables
  pub prints : PrintsLine (λ _. PrintsCounts (contents before) (contents after)) before after result
  pub left : Leaves old new (HoldsBeginning b (additions t rows) old.tables)
  pub keeper : Carries old new (office_store_fault result)

-- ---- one voucher

-- it was added, or was there, or another is: it counts as it was decided
pub record IsVoucherAdded (b : Shelf) (list : List Accepted) (d : DatedCommand) (old new : Tables)
    (addition : Addition) : Type 0 where
  pub counts : (n : Counts) → counted_as addition n ≡ counted_after b list d n
  pub tables : AreTables b (after_command b list d) new
  pub time : IsInTime (after_command b list d)
  pub same : (n : Counts) → (counted_as addition n).new ≡ 0 → (n.new ≡ 0) × (new ≡ old)

abbrev pub AddsVoucher : Shelf → DatedCommand → Tables → Tables → Result Addition StoreFault →
    Type 0
AddsVoucher b d old new result =
    (list : List Accepted) → IsInTime list → AreTables b list old →
    MatchResult result (λ addition. IsVoucherAdded b list d old new addition) (λ fault. new ≡ old)
