-- What a keeper holds, each row under its key.
-- Source: profile.
use Rattle.std.specs.Prelude.{◌≡◌, ℕ, ◌==◌, Bool, List, Option, Some, None, option_map, sum_by}
use Rattle.std.specs.Prelude.{if◌then◌else◌}
use Rattle.std.specs.List.{find}
use Rattle.units.specs.Words.{Moment, UnitCount, GroupId, CycleNumber}
use Rattle.identifiers.specs.Words.{SessionName, AccountName, VoucherCode}
use Rattle.buckets.specs.Words.{BucketNumber, BucketAmount}
use Rattle.ledger.specs.Words.{ChargeNumber}
use Rattle.buckets.specs.declared.holds.HeldAmount.{HeldAmount}
use Rattle.buckets.specs.Row.{BucketRow}
use Rattle.ledger.specs.declared.terms.Terms.{Terms}
use Rattle.ledger.specs.declared.charge.ChargeRow.{ChargeRow}
use Rattle.reserving.specs.declared.session.Session.{Session}
use Rattle.reserving.specs.declared.session.SessionGroup.{SessionGroup}
use Rattle.reserving.specs.declared.session.Counter.{Counter}
use Rattle.reserving.specs.Sessions.{session_in, group_in, counter_in, holds_in}
use Rattle.reserving.specs.Left.{bucket_in}
use Rattle.reserving.specs.Stored.{StoredRows}
use Rattle.voucher_rules.specs.declared.voucher.Voucher.{Voucher}
use Rattle.commands.specs.declared.key.Key.{Key}
use Rattle.keepers.specs.declared.kept_answer.KeptAnswer.{KeptAnswer}

-- what is kept of an account once
pub record Head : Type 0 where
  pub as_of : Moment
  pub barred : Bool
  pub next_bucket : BucketNumber
  pub next_charge : ChargeNumber

-- what a session has of a group: its use, and the terms of its reservation where it has one
pub record GroupRow : Type 0 where
  pub used : UnitCount
  pub terms : Option Terms

-- an account's rows: a bucket by its number, a counter by group and cycle, a session by its name,
-- what it has of a group by name and group, and what its reservation there holds of a bucket by the
-- bucket's number too, 0 where it holds nothing
pub record Rows : Type 0 where
  pub head : Option Head
  pub buckets : BucketNumber → Option BucketRow
  pub counters : GroupId → CycleNumber → Option Counter
  pub sessions : SessionName → Option Session
  pub groups : SessionName → GroupId → Option GroupRow
  pub holds : SessionName → GroupId → BucketNumber → BucketAmount

-- no account
abbrev pub no_rows : Rows
no_rows = record {
  head = None;
  buckets = λ n. None;
  counters = λ g c. None;
  sessions = λ s.
      None;
  groups = λ s g. None;
  holds = λ s g n. 0;
}

-- the tables; accounts are known by the bytes of their numbers
pub record Tables : Type 0 where
  -- the moment of the last accepted command
  pub last : Moment
  -- the rows of accounts
  pub rows : AccountName → Rows
  -- what is kept under the keys of an account
  pub answers : AccountName → Key → Option KeptAnswer
  -- the charges of an account, by their numbers
  pub charges : AccountName → ChargeNumber → Option ChargeRow
  -- what is under the code of a voucher
  pub vouchers : VoucherCode → Option Voucher
  -- how many accounts there are
  pub count : ℕ

-- before any command
abbrev pub no_tables : Tables
no_tables = record {
  last = 0;
  rows = λ a. no_rows;
  answers = λ a k. None;
  charges = λ a n.
      None;
  vouchers = λ code. None;
  count = 0;
}

-- ---- lists of rows

abbrev pub head_of : StoredRows → Head
head_of w = record {
  as_of = w.as_of;
  barred = w.barred;
  next_bucket = w.next_bucket;
  next_charge = w.next_charge;
}

abbrev pub group_row : SessionGroup → GroupRow
group_row r = record { used = r.used; terms = option_map (λ x. x.terms) r.reservation }

abbrev pub held_at : BucketNumber → List HeldAmount → BucketAmount
held_at n holds = sum_by (λ h. if h.bucket == n then h.amount else 0) holds

-- what is held of a bucket
abbrev pub held_of : BucketNumber → Option SessionGroup → BucketAmount
held_of n None = 0
held_of n (Some r) = held_at n (holds_in r.reservation)

-- the rows are those of the list, whatever its order
pub record AreListed (w : StoredRows) (r : Rows) : Type 0 where
  pub head : r.head ≡ Some (head_of w)
  pub buckets : (n : BucketNumber) → r.buckets n ≡ bucket_in n w.buckets
  pub counters : (g : GroupId) (c : CycleNumber) → r.counters g c ≡ counter_in g c w.counters
  pub sessions : (s : SessionName) → r.sessions s ≡ session_in s w.sessions
  pub groups : (s : SessionName) (g : GroupId) →
      r.groups s g ≡ option_map group_row (group_in s g w.groups)
  pub holds : (s : SessionName) (g : GroupId) (n : BucketNumber) →
      r.holds s g n ≡ held_of n (group_in s g w.groups)

abbrev pub charge_in : ChargeNumber → List ChargeRow → Option ChargeRow
charge_in n rows = find (λ c. c.number == n) rows
