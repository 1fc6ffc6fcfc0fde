-- What a run of commands promises, on one page: from the shelf of tariff books and the commands
-- that were accepted before, all answers and all tables follow.
-- Source: the ledger and its sums: TS 32.296; answers: RFC 8506; what is kept of them: profile.
use Rattle.std.specs.Prelude.{◌≡◌, ◌≤◌, ◌<◌, ◌+◌, ◌⊎◌, ℕ, List, [], Option, Some, take, length, min}
use Rattle.std.specs.Prelude.{IfNone, IfSome, if◌then◌else◌, option_map}
use Rattle.identifiers.specs.Words.{AccountName}
use Rattle.shelves.specs.Shelves.{Shelf}
use Rattle.buckets.specs.Kinds.{most_of}
use Rattle.buckets.specs.Words.{BucketNumber}
use Rattle.buckets.specs.Row.{IsBalanced}
use Rattle.buckets.specs.Spend.{Each}
use Rattle.ledger.specs.Pricing.{validity_of, cycle_at}
use Rattle.ledger.specs.Balance.{buckets_at}
use Rattle.keepers.specs.Faults.{max_failures}
use Rattle.keepers.specs.Seen.{Seen}
use Rattle.keepers.specs.Tables.{Head, Tables, Rows, no_rows, charge_in, group_row, held_of}
use Rattle.keepers.specs.declared.fault.StoreFault.{StoreFault}
use Rattle.keepers.specs.declared.fault.StoreFault.TheVariants.{Store}
use Rattle.charging.specs.declared.answers.Run.{Run}
use Rattle.charging.specs.declared.running.DatedCommand.{DatedCommand}
use Rattle.charging.specs.Accepted.{Accepted, IsInTime, last_moment, account_count, as_of}
use Rattle.charging.specs.Served.{history, voucher}
use Rattle.charging.specs.Runs.{answers_to, after_commands}
use Rattle.charging.specs.Paid.{reports_of, ArePaid, AreQuotasPaid}
use Rattle.charging.specs.Histories.{History, kept_under}
use Rattle.ledger.specs.Charges.{charge_rows}
use Rattle.ledger.specs.Ledger.{is_barred, next_bucket, next_charge}
use Rattle.reserving.specs.Left.{bucket_in}
use Rattle.reserving.specs.Sessions.{session_at, group_at, counter_at}
use Rattle.units.specs.Words.{Moment, Seconds}

-- ---- tables are a function of the accepted commands

-- an account's rows by its history, at a moment
abbrev pub rows_of : Shelf → Moment → History → Rows
rows_of shelf t h = if h.opened then record {
  head = Some (record {
    as_of = t;
    barred = is_barred h.ledger;
    next_bucket = next_bucket h.ledger;
    next_charge = next_charge h.ledger;
  });
  buckets = λ n. bucket_in n (buckets_at v t h.ledger);
  counters = λ g c. counter_at (cycle_at shelf g) h.ledger g c;
  sessions = λ s. session_at v t h.ledger s;
  groups = λ s g. option_map group_row (group_at v t h.ledger s g);
  holds = λ s g n. held_of n (group_at v t h.ledger s g);
} else no_rows
  where
    v : Moment → Seconds
    v = validity_of shelf

-- the tables that accepted commands leave
abbrev pub tables_after : Shelf → List Accepted → Tables
tables_after shelf list = record {
  last = last_moment list;
  rows = λ a. rows_of shelf (as_of a list) (history shelf a list);
  answers = λ a k. kept_under k (history shelf a list);
  charges = λ a n. charge_in n (charge_rows (history shelf a list).ledger);
  vouchers = λ code. voucher shelf code list;
  count = account_count list;
}

-- no bucket was opened with more than its kind's most
abbrev pub AreBucketsInRange : Tables → Type 0
AreBucketsInRange tables = (a : AccountName) (n : BucketNumber) →
    IfSome ((tables.rows a).buckets n) (λ b. b.credited ≤ most_of b.kind)

-- of each list of accepted commands whose tables these are
abbrev pub From : Shelf → Tables → (List Accepted → Type 0) → Type 0
From shelf tables says = (list : List Accepted) → IsInTime list → AreBucketsInRange tables →
    tables ≡ tables_after shelf list → says list

-- ---- what is paid

-- each bucket is available, reserved, charged or expired; each use has the price of its report or
-- of its debit, and what isn't collected of it nobody had; a use within its grant is collected whole
-- rule: ledger.runs-over
pub record IsAccountPaid (shelf : Shelf) (a : AccountName) (head : Head) (list : List Accepted)
    : Type 0 where
  pub balanced : Each IsBalanced
      (buckets_at (validity_of shelf) head.as_of (history shelf a list).ledger)
  pub uses : ArePaid shelf (reports_of shelf a list) (history shelf a list).ledger
  pub quotas : AreQuotasPaid shelf (history shelf a list).ledger

-- so each account of the tables
abbrev pub AreAccountsPaid : Shelf → Tables → List Accepted → Type 0
AreAccountsPaid shelf tables list = (a : AccountName) (head : Head) →
    (tables.rows a).head ≡ Some head → IsAccountPaid shelf a head list

-- ---- a keeper over a call

-- a store that is clean, or honest, was so before; over an honest one that was clean no other fault
-- than those that are counted ends the call, and without a fault it is clean again
-- rule: stop-run
pub record Carries (old new : Seen) (fault : Option StoreFault) : Type 0 where
  pub clean : new.clean → old.clean
  pub honest : new.honest → old.honest
  pub stands : new.honest → old.clean → IfNone fault new.clean
  pub failures : old.failed ≤ new.failed
  pub cause : fault ≡ Some Store → min (old.failed + 1) max_failures ≤ new.failed

-- ---- a run

-- the commands that a run answered
abbrev pub answered : List DatedCommand → Run → List DatedCommand
answered commands run = take (length run.answers.items) commands

-- all of them, or those up to a store fault
-- rule: store-faults
pub record EndsAs (commands : List DatedCommand) (run : Run) : Type 0 where
  pub whole : IfNone run.fault (length run.answers.items ≡ length commands)
  pub stopped : IfSome run.fault (λ fault. length run.answers.items < length commands)

-- tables are those of the accepted commands, and no bucket of them is out of range
pub record AreAfter (shelf : Shelf) (list : List Accepted) (tables : Tables) : Type 0 where
  pub are : tables ≡ tables_after shelf list
  pub ranges : AreBucketsInRange tables
  pub time : IsInTime list

-- a stop leaves the tables of the commands that were answered, or of one more, and no bucket of
-- them is out of range
-- rule: stop-run: a run over a store that stops answering: the answers until then, and what is
--   found again has each command that was answered, and at most one more
pub record IsFound (shelf : Shelf) (commands : List DatedCommand) (run : Run) (left : Tables)
    (list : List Accepted) : Type 0 where
  pub count : ℕ
  pub all : length run.answers.items ≤ count
  pub one_more : count ≤ length run.answers.items + 1
  pub tables : left ≡ tables_after shelf (after_commands shelf list (take count commands))
  pub ranges : AreBucketsInRange left

-- from tables of accepted commands on, the answers are those to the commands, each after those
-- before it, and the tables are those of all that were accepted
-- rule: ledger.runs-over: each account is accounted for
-- rule: store-faults: a run gives all answers, or those of a beginning up to a store fault
pub record RunsOver (shelf : Shelf) (commands : List DatedCommand) (old new : Seen) (run : Run)
    : Type 0 where
  pub ends : EndsAs commands run
  -- rule: stop-run
  pub answers : new.honest → From shelf old.tables
      (λ list. run.answers.items ≡ answers_to shelf list (answered commands run))
  pub tables : new.clean → From shelf old.tables
      (λ list. AreAfter shelf (after_commands shelf list (answered commands run)) new.tables)
  pub paid : new.clean → From shelf old.tables
      (λ list. AreAccountsPaid shelf new.tables
      (after_commands shelf list (answered commands run)))
  pub unchanged : new.clean → run.answers.items ≡ [] → new.tables ≡ old.tables
  -- rule: stop-run
  pub stop : new.honest → (left : Tables) → new.left left →
      (old.clean → From shelf old.tables (IsFound shelf commands run left))
      × (old.left left ⊎ From shelf old.tables (IsFound shelf commands run left))
  pub keeper : Carries old new run.fault
