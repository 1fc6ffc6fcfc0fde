-- What a keeper loads of an account, and what a commit and a sweep leave.
-- Source: profile.
use Rattle.std.specs.Prelude.{◌≡◌, ◌+◌, ◌==◌, ◌≤◌, ◌||◌, Bool, false, not, Option}
use Rattle.std.specs.Prelude.{Some, None, List, is_some, option_map, if◌then◌else◌}
use Rattle.std.specs.List.Sorted.{IsNonDecreasingBy}
use Rattle.units.specs.Words.{Moment, GroupId, CycleNumber}
use Rattle.identifiers.specs.Words.{SessionName, AccountName, VoucherCode}
use Rattle.buckets.specs.Words.{BucketNumber, BucketAmount}
use Rattle.ledger.specs.Words.{ChargeNumber}
use Rattle.identifiers.specs.Texts.{same_name}
use Rattle.buckets.specs.Row.{BucketRow}
use Rattle.shelves.specs.Shelves.{Shelf}
use Rattle.reserving.specs.declared.session.SessionGroup.{SessionGroup}
use Rattle.ledger.specs.Ledger.{Ledger}
use Rattle.ledger.specs.Pricing.{cycle_at}
use Rattle.reserving.specs.Sessions.{is_open, session_in, group_in, counter_in}
use Rattle.reserving.specs.Rows.{AccountRows, AreApart, IsRowsOf}
use Rattle.reserving.specs.Stored.{StoredRows, IsStored, stored, priced, advanced_stored}
use Rattle.reserving.specs.Left.{is_dead, is_open_row, only, first_of, bucket_in}
use Rattle.voucher_rules.specs.declared.terms.VoucherTerms.{VoucherTerms}
use Rattle.voucher_rules.specs.declared.voucher.Voucher.{Voucher}
use Rattle.voucher_rules.specs.Standing.{unspent}
use Rattle.commands.specs.declared.key.Key.{Key}
use Rattle.commands.specs.Keys.{same_key, key_of}
use Rattle.keepers.specs.declared.kept_answer.KeptAnswer.{KeptAnswer}
use Rattle.keepers.specs.declared.loaded.Loaded.{Loaded}
use Rattle.keepers.specs.declared.loaded.Change.{Change}
use Rattle.keepers.specs.declared.loaded.Redeemed.{Redeemed}
use Rattle.keepers.specs.Keyed.{same_bucket}
use Rattle.keepers.specs.Tables.{Rows, Tables, GroupRow, head_of, group_row, held_of}
use Rattle.keepers.specs.Tables.{AreListed, charge_in}

-- ---- load

abbrev pub has_reservation : Option GroupRow → Bool
has_reservation None = false
has_reservation (Some r) = is_some r.terms

-- a group's row and what is held there are loaded
abbrev pub is_loaded : Rows → SessionName → GroupId → Bool
is_loaded r s g = is_open_row (r.sessions s) || has_reservation (r.groups s g)

-- the account is what may still change at the moment: the buckets that aren't dead, the open
-- sessions, what they have of groups and whatever holds a reservation, and the counters of the
-- cycles at the moment
-- rule: database-loads.loaded-from: what is loaded of an account, and what is left
pub record IsLoadedFrom (shelf : Shelf) (t : Moment) (r : Rows) (a : AccountRows) : Type 0 where
  pub priced_by : a.shelf ≡ shelf
  pub head : r.head ≡ Some (head_of (stored a))
  pub buckets : (n : BucketNumber) →
      bucket_in n a.buckets ≡ only (λ b. not (is_dead b)) (r.buckets n)
  pub sessions : (s : SessionName) →
      session_in s a.sessions ≡ only (λ x. is_open x.state) (r.sessions s)
  pub groups : (s : SessionName) (g : GroupId) → option_map group_row (group_in s g a.groups) ≡
      (if is_loaded r s g then r.groups s g else None)
  pub holds : (s : SessionName) (g : GroupId) (n : BucketNumber) →
      held_of n (group_in s g a.groups) ≡
      (if is_loaded r s g then r.holds s g n else 0)
  pub counters : (g : GroupId) (c : CycleNumber) → counter_in g c a.counters ≡
      (if c == cycle_at shelf g t then r.counters g c else None)

abbrev pub IsLoad : Shelf → Moment → AccountName → Rows → Option Loaded → Type 0
IsLoad shelf t n r None = r.head ≡ None
IsLoad shelf t n r (Some l) = (l.number ≡ n) × IsLoadedFrom shelf t r l.account
    × (l.before ≡ stored l.account)

-- the same without a copy of what was loaded
abbrev pub IsView : Shelf → Moment → Rows → Option AccountRows → Type 0
IsView shelf t r None = r.head ≡ None
IsView shelf t r (Some a) = IsLoadedFrom shelf t r a

-- the buckets that can't be used any more, each once, in the order of their numbers
pub record AreDeadOf (r : Rows) (rows : List BucketRow) : Type 0 where
  pub found : (n : BucketNumber) → bucket_in n rows ≡ only is_dead (r.buckets n)
  pub apart : AreApart same_bucket rows
  pub order : IsNonDecreasingBy (λ b. b.number) rows

-- ---- a commit

-- what is held of a bucket, where a change may name the group
abbrev pub held_over : BucketNumber → Option SessionGroup → BucketAmount → BucketAmount
held_over n None before = before
held_over n (Some r) before = held_of n (Some r)

-- the change's rows over those that are there
abbrev pub over : StoredRows → Rows → Rows
over w r = record {
  head = Some (head_of w);
  buckets = λ n. first_of (bucket_in n w.buckets) (r.buckets n);
  counters = λ g c. first_of (counter_in g c w.counters) (r.counters g c);
  sessions = λ s. first_of (session_in s w.sessions) (r.sessions s);
  groups = λ s g. first_of (option_map group_row (group_in s g w.groups)) (r.groups s g);
  holds = λ s g n. held_over n (group_in s g w.groups) (r.holds s g n);
}

-- what is found under a key once an answer more is kept
abbrev pub kept_after : Option KeptAnswer → Key → Option KeptAnswer → Option KeptAnswer
kept_after None k before = before
kept_after (Some kept) k before = if same_key (key_of kept.content) k then Some kept else before

-- what is under a code once a voucher was redeemed
-- rule: redeem.redeem-outcome
abbrev pub redeemed_over : Option Redeemed → VoucherCode → Option Voucher → Option Voucher
redeemed_over None code before = before
redeemed_over (Some redeemed) code before =
    if same_name redeemed.code code then Some redeemed.voucher else before

-- rule: database-writes.changed: a keeper changes by exactly the change
abbrev pub changed : Change → Tables → Tables
changed change tables = record {
  last = change.moment;
  rows = λ a. if same_name change.number a then over change.rows (tables.rows a)
      else tables.rows a;
  answers = λ a k. if same_name change.number a then kept_after change.kept k (tables.answers a k)
      else tables.answers a k;
  charges = λ a n. if same_name change.number a
      then first_of (tables.charges a n) (charge_in n change.charges.items) else tables.charges a n;
  vouchers = λ code. redeemed_over change.redeemed code (tables.vouchers code);
  count = if is_some (tables.rows change.number).head then tables.count else tables.count + 1;
}

-- ---- a voucher that is added

-- an unspent voucher is under the code, from the moment on
-- rule: voucher-add.with-voucher: what a keeper holds after an addition
abbrev pub with_voucher : VoucherCode → VoucherTerms → Moment → Tables → Tables
with_voucher code terms moment tables = record {
  last = moment;
  rows = tables.rows;
  answers = tables.answers;
  charges = tables.charges;
  vouchers = λ k. if same_name code k then Some (unspent terms) else tables.vouchers k;
  count = tables.count;
}

-- ---- a sweep

-- from each ledger whose rows the account has at a moment, its rows at the later one
pub record AreRowsAt (shelf : Shelf) (ledger : Ledger) (t : Moment) (r : Rows) : Type 0 where
  pub listed : StoredRows
  pub are : AreListed listed r
  pub kept : IsStored listed
  pub moment : listed.as_of ≡ t
  pub rows : IsRowsOf ledger (priced shelf listed)

-- from any list of an account's rows that isn't of a later moment, of no ledger too: its rows at
-- the moment
-- rule: sweep.brought-to: a sweep brings each stored account that isn't of a later moment to it,
--   of no ledger too
abbrev pub AreBroughtTo : Shelf → Moment → Rows → Rows → Type 0
AreBroughtTo shelf t old new = (w : StoredRows) → AreListed w old → IsStored w → w.as_of ≤ t →
    AreListed (advanced_stored shelf t w) new

-- what is kept beside the rows of accounts stays as it is
pub record StaysBesideRows (old new : Tables) : Type 0 where
  pub answers : (a : AccountName) (k : Key) → new.answers a k ≡ old.answers a k
  pub charges : (a : AccountName) (n : ChargeNumber) → new.charges a n ≡ old.charges a n
  pub vouchers : (code : VoucherCode) → new.vouchers code ≡ old.vouchers code
  pub count : new.count ≡ old.count

-- rule: sweep: sweep
-- rule: sweep.brought-to
pub record IsSwept (shelf : Shelf) (t : Moment) (old new : Tables) : Type 0 where
  pub last : new.last ≡ t
  pub none : (a : AccountName) → (old.rows a).head ≡ None → new.rows a ≡ old.rows a
  pub rows : (a : AccountName) (ledger : Ledger) (u : Moment) → u ≤ t →
      AreRowsAt shelf ledger u (old.rows a) →
      AreRowsAt shelf ledger t (new.rows a)
  pub listed : (a : AccountName) → AreBroughtTo shelf t (old.rows a) (new.rows a)
  pub beside : StaysBesideRows old new
