-- Rows that differ from those before: a change names them alone.
-- Source: profile.
use Rattle.std.specs.Prelude.{◌≡◌, ◌==◌, ◌&&◌, Bool, true, false, Option, Some}
use Rattle.std.specs.Prelude.{None, not}
use Rattle.std.specs.Cmp.Lexicographic.{pointwise}
use Rattle.units.specs.Words.{GroupId, CycleNumber}
use Rattle.identifiers.specs.Words.{SessionName}
use Rattle.buckets.specs.Words.{BucketNumber}
use Rattle.buckets.specs.declared.holds.HeldAmount.{HeldAmount}
use Rattle.buckets.specs.Row.{BucketRow}
use Rattle.rating.specs.declared.grant.Periods.{Periods}
use Rattle.buckets.specs.declared.kind.BucketKind.{BucketKind}
use Rattle.buckets.specs.declared.kind.BucketKind.TheVariants.{Money, Blocks}
use Rattle.ledger.specs.declared.terms.Terms.{Terms}
use Rattle.reserving.specs.declared.session.Session.{Session}
use Rattle.reserving.specs.declared.session.SessionState.{SessionState}
use Rattle.reserving.specs.declared.session.SessionState.TheVariants.{Open, Ended, NeverOpened}
use Rattle.reserving.specs.declared.session.SessionGroup.{SessionGroup}
use Rattle.reserving.specs.declared.session.Reservation.{Reservation}
use Rattle.reserving.specs.declared.session.Counter.{Counter}
use Rattle.ledger.specs.Ledger.{is_same}
use Rattle.reserving.specs.Sessions.{session_in, group_in}
use Rattle.reserving.specs.Sessions.{counter_in}
use Rattle.reserving.specs.Others.{own_sessions, own_groups}
use Rattle.reserving.specs.Stored.{StoredRows}
use Rattle.reserving.specs.Left.{bucket_in, differing}
use Rattle.keepers.specs.Tables.{Rows, group_row, held_of}
use Rattle.keepers.specs.Change.{over}
use Rattle.keepers.specs.Naming.{AreRowsApart}

-- ---- rows that are equal

abbrev pub same_scope : Option GroupId → Option GroupId → Bool
same_scope None None = true
same_scope (Some x) (Some y) = x == y
same_scope x y = false

abbrev pub same_kind : BucketKind → BucketKind → Bool
same_kind Money Money = true
same_kind Blocks Blocks = true
same_kind x y = false

abbrev pub equal_bucket : BucketRow → BucketRow → Bool
equal_bucket x y =
    x.number == y.number && same_kind x.kind y.kind && x.from == y.from && x.until == y.until
    && same_scope x.scope y.scope && x.credited == y.credited && x.available == y.available
    && x.reserved == y.reserved && x.charged == y.charged && x.expired == y.expired

abbrev pub equal_counter : Counter → Counter → Bool
equal_counter x y = x.group == y.group && x.cycle == y.cycle && x.blocks == y.blocks

abbrev pub same_state : SessionState → SessionState → Bool
same_state Open Open = true
same_state Ended Ended = true
same_state NeverOpened NeverOpened = true
same_state x y = false

abbrev pub equal_session : Session → Session → Bool
equal_session x y =
    is_same x.id y.id && x.last_number == y.last_number && x.touched == y.touched
    && same_state x.state y.state

abbrev pub equal_periods : Periods → Periods → Bool
equal_periods x y = x.before.0 == y.before.0 && x.after.0 == y.after.0

abbrev pub equal_terms : Terms → Terms → Bool
equal_terms x y = x.book == y.book && equal_periods x.periods y.periods

abbrev pub equal_hold : HeldAmount → HeldAmount → Bool
equal_hold x y = x.bucket == y.bucket && x.amount == y.amount

abbrev pub equal_reservation : Option Reservation → Option Reservation → Bool
equal_reservation None None = true
equal_reservation (Some x) (Some y) =
    equal_terms x.terms y.terms && pointwise equal_hold x.holds y.holds
equal_reservation x y = false

abbrev pub equal_group : SessionGroup → SessionGroup → Bool
equal_group x y =
    is_same x.session y.session && x.group == y.group && x.used == y.used
    && equal_reservation x.reservation y.reservation

-- ---- the rows of a change

-- what is kept of the account once, and of its rows those that differ from all before
-- rule: database-writes: a change names each row once, and of those that were loaded only rows
--   that differ
abbrev pub named_rows : StoredRows → StoredRows → StoredRows
named_rows before after = record after {
  buckets = differing equal_bucket before.buckets after.buckets;
  counters = differing equal_counter before.counters after.counters;
  sessions = differing equal_session before.sessions after.sessions;
  groups = differing equal_group before.groups after.groups;
}

-- the same of one session's rows alone
-- rule: database-writes.quiet-at
abbrev pub named_rows_of : SessionName → StoredRows → StoredRows → StoredRows
named_rows_of s before after = record after {
  buckets = differing equal_bucket before.buckets after.buckets;
  counters = differing equal_counter before.counters after.counters;
  sessions = differing equal_session (own_sessions s before.sessions)
      (own_sessions s after.sessions);
  groups = differing equal_group (own_groups s before.groups) (own_groups s after.groups);
}

-- the rows of all sessions, or of one alone where no other may have changed
-- rule: database-writes.quiet-at
abbrev pub named_for : Option SessionName → StoredRows → StoredRows → StoredRows
named_for None = named_rows
named_for (Some s) = named_rows_of s

-- whether the row of a session differs from what it was
abbrev pub is_changed : Option Session → Session → Bool
is_changed None x = true
is_changed (Some y) x = not (equal_session x y)

-- rows that were loaded are there
pub record AreThere (before : StoredRows) (r : Rows) : Type 0 where
  pub buckets : (n : BucketNumber) (x : BucketRow) → bucket_in n before.buckets ≡ Some x →
      r.buckets n ≡ Some x
  pub counters : (g : GroupId) (c : CycleNumber) (x : Counter) →
      counter_in g c before.counters ≡ Some x →
      r.counters g c ≡ Some x
  pub sessions : (s : SessionName) (x : Session) → session_in s before.sessions ≡ Some x →
      r.sessions s ≡ Some x
  pub groups : (s : SessionName) (g : GroupId) (x : SessionGroup) →
      group_in s g before.groups ≡ Some x →
      r.groups s g ≡ Some (group_row x)
  pub holds : (s : SessionName) (g : GroupId) (n : BucketNumber) (x : SessionGroup) →
      group_in s g before.groups ≡ Some x →
      r.holds s g n ≡ held_of n (Some x)

-- so to name the rows that differ from them is to name all
-- rule: database-writes
abbrev pub IsNamedOver : Type 0
IsNamedOver = (before after : StoredRows) (r : Rows) → AreRowsApart before → AreRowsApart after →
    AreThere before r → over (named_rows before after) r ≡ over after r
