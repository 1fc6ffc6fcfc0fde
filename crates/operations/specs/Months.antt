-- What is printed of an account's month: a statement or an export of it, or that there is no
-- account.
-- Source: profile.
use Rattle.std.specs.Prelude.{◌≡◌, ◌≢◌, ◌⊎◌, ◌+◌, ◌≤◌, List, Option, Result, if◌then◌else◌, IfOk}
use Rattle.std.specs.Prelude.{Ok, Err, IsErrOf, OnErr, OnOk, min}
use Rattle.std.specs.Io.KnownBytes.{Appends}
use Rattle.units.specs.Words.{Moment}
use Rattle.texts.specs.StreamWords.{Bytes}
use Rattle.texts.specs.declared.streams.StreamFault.{StreamFault}
use Rattle.texts.specs.declared.streams.StreamFault.TheVariants as stream
use Rattle.buckets.specs.Row.{BucketRow}
use Rattle.commands.specs.declared.answer.Answer.TheVariants.{Refused}
use Rattle.commands.specs.declared.answer.Refusal.TheVariants.{AccountUnknown}
use Rattle.shelves.specs.Shelves.{Shelf}
use Rattle.ledger.specs.Balance.{buckets_at}
use Rattle.ledger.specs.ChargeColumns.{ChargeColumns}
use Rattle.ledger.specs.Charges.{charge_rows}
use Rattle.ledger.specs.Ledger.{Ledger}
use Rattle.ledger.specs.Pricing.{validity_of}
use Rattle.keepers.specs.Faults.{max_failures}
use Rattle.keepers.specs.Seen.{Seen}
use Rattle.keepers.specs.Tables.{Tables}
use Rattle.keepers.specs.declared.fault.StoreFault.TheVariants as store
use Rattle.charging.specs.Accepted.{Accepted, IsInTime}
use Rattle.charging.specs.Balances.{by_number}
use Rattle.charging.specs.Histories.{History}
use Rattle.charging.specs.Served.{AreTables, history, moment_of}
use Rattle.statements.specs.Texts.{export_text, statement_text}
use Rattle.statements.specs.declared.fault.StatementFault.{StatementFault}
use Rattle.statements.specs.declared.fault.StatementFault.TheVariants as statement
use Rattle.operations.specs.Printed.{IsEnded}
use Rattle.operations.specs.Told.{answer_line}
use Rattle.operations.specs.Written.{WritesBeginning}
use Rattle.operations.specs.declared.fault.OfficeFault.{OfficeFault}
use Rattle.operations.specs.declared.fault.OfficeFault.TheVariants.{Store, Write}
use Rattle.operations.specs.declared.stating.MonthQuery.{MonthQuery}
use Rattle.operations.specs.declared.status.Status.{Status}
use Rattle.operations.specs.declared.status.Status.TheVariants.{Done, Failed, Unread}

-- ---- texts

-- the text of these charges and buckets, as of a moment; the month is civil in the zone of the
-- first book, which all books of a shelf have
abbrev pub month_rows_text : Shelf → MonthQuery → Moment → List ChargeColumns → List BucketRow →
    Bytes
month_rows_text b q t charges buckets =
    if q.csv then export_text b.first q.month charges
    else statement_text b.first q.account q.month t charges buckets

-- of an account's ledger: all of its charges, and its buckets at the moment, by number
abbrev pub ledger_text : Shelf → MonthQuery → Moment → Ledger → Bytes
ledger_text b q t ledger =
    month_rows_text b q t (charge_rows ledger) (by_number (buckets_at (validity_of b) t ledger))

-- the line of an account that isn't there
abbrev pub unknown_line : Bytes
unknown_line = answer_line (Refused AccountUnknown)

-- what is printed of an account by its history, and how that ends: one that wasn't opened is
-- refused
-- rule: statement.month-told
abbrev pub month_text : Shelf → MonthQuery → Moment → History → Bytes
month_text b q t h = if h.opened then ledger_text b q t h.ledger else unknown_line

-- rule: statement.month-told
abbrev pub month_status : History → Status
month_status h = if h.opened then Done else Failed

-- ---- what is written

-- the text is written, and it ends so; at a fault a beginning of the text is
pub record WritesAndEnds (ends : Status) (old new : Option Bytes) (text : Bytes)
    (result : Result Status OfficeFault) : Type 0 where
  pub whole : IfOk result (λ status. (status ≡ ends) × Appends old new text)
  pub beginning : OnErr result (WritesBeginning old new text)

-- so the month is printed as of the moment of a command, for every list of accepted commands whose
-- tables a keeper holds
-- rule: statement.month-told: an account's month is stated, or that there is no account
abbrev pub IsMonthTold : Shelf → MonthQuery → Moment → Tables → Option Bytes → Option Bytes →
    Result Status OfficeFault → Type 0
IsMonthTold b q t tables old new result =
    (list : List Accepted) → IsInTime list → AreTables b list tables →
    WritesAndEnds (month_status (history b q.account list)) old new
    (month_text b q (moment_of list t) (history b q.account list)) result

-- ---- what is written, whatever a keeper holds

-- the text of an account's month with some charges and buckets, as of some moment
pub record WritesMonth (b : Shelf) (q : MonthQuery) (Writes : Bytes → Type 0) : Type 0 where
  pub moment : Moment
  pub charges : List ChargeColumns
  pub buckets : List BucketRow
  pub written : Writes (month_rows_text b q moment charges buckets)

-- it is written where all is done; where it is refused, that the account isn't there
-- rule: statement.month-told
abbrev pub PrintsMonth : Shelf → MonthQuery → Option Bytes → Option Bytes → Status → Type 0
PrintsMonth b q old new Done = WritesMonth b q (Appends old new)
PrintsMonth b q old new Failed = Appends old new unknown_line
PrintsMonth b q old new Unread = ⊥

-- or a beginning of one of them
-- rule: statement.month-told
abbrev pub BeginsMonth : Shelf → MonthQuery → Option Bytes → Option Bytes → Type 0
BeginsMonth b q old new =
    WritesMonth b q (WritesBeginning old new) ⊎ WritesBeginning old new unknown_line

-- ---- what is read

-- a fault of a statement among those of an office
abbrev pub month_fault : StatementFault → OfficeFault
month_fault statement.Memory = Write stream.Memory
month_fault statement.Store = Store store.Store
month_fault statement.Write = Write stream.Write

-- what writing a month ends with
abbrev pub month_ended : {A : Type 0} → Result A StatementFault → Result Status OfficeFault
month_ended (Ok written) = Ok Done
month_ended (Err fault) = Err (month_fault fault)

-- the tables are as before, and so is what a stop leaves; store fault 2 comes only with a cause
-- rule: statement.month-told
pub record OnlyReadsMonth (old new : Seen) (result : Result Status OfficeFault) : Type 0 where
  pub same : new.clean → new.tables ≡ old.tables
  pub left : new.honest → (tables : Tables) → new.left tables → old.left tables
  pub cleanness : new.clean → old.clean
  pub honesty : new.honest → old.honest
  pub kept : old.failed ≤ new.failed
  pub cause : IsErrOf result (Store store.Store) → min (old.failed + 1) max_failures ≤ new.failed

-- ---- over a keeper

-- an account's month is printed, or that there is no account; nothing is changed
-- rule: statement.month-told
pub record ServesStatement {W : Type 0} (contents : W → Option Bytes)
    (b : Shelf) (q : MonthQuery) (t : Moment) (old new : Seen) (before after : W)
    (result : Result Status OfficeFault) : Type 0 where
  -- rule: statement.month-told
  pub told : new.clean → IsMonthTold b q t old.tables (contents before) (contents after) result
  pub ended : IfOk result (IsEnded (Appends (contents before) (contents after) unknown_line))
  -- rule: statement.month-told
  pub printed : IfOk result (PrintsMonth b q (contents before) (contents after))
  -- rule: statement.month-told
  pub begun : OnErr result (BeginsMonth b q (contents before) (contents after))
  -- rule: statement.month-told
  pub reads : OnlyReadsMonth old new result
  pub stands : new.honest → OnOk result new.clean
  pub fault : (fault : StreamFault) → result ≡ Err (Write fault) → fault ≢ stream.Read
