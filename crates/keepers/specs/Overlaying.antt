-- What the keeper in memory makes live of an account by a change: the change's rows, and of those
-- that are there the ones that may still change. Of private functions alone.
use Rattle.std.specs.Prelude.{◌≡◌, Bool, false, not, ◌==◌, ◌&&◌, ◌||◌, ◌++◌, List, [], None}
use Rattle.std.specs.Prelude.{Some, filter, is_some, if◌then◌else◌}
use Rattle.std.specs.List.{list_any}
use Rattle.std.specs.List.Sorted.{IsPermutation}
use Rattle.units.specs.Words.{GroupId}
use Rattle.identifiers.specs.Words.{SessionName}
use Rattle.buckets.specs.Words.{BucketNumber}
use Rattle.buckets.specs.Row.{BucketRow}
use Rattle.reserving.specs.declared.session.Session.{Session}
use Rattle.reserving.specs.declared.session.SessionGroup.{SessionGroup}
use Rattle.reserving.specs.declared.session.Counter.{Counter}
use Rattle.reserving.specs.Sessions.{is_open, session_in, group_in}
use Rattle.reserving.specs.Rows.{AreApart}
use Rattle.reserving.specs.Stored.{StoredRows}
use Rattle.ledger.specs.Laws.{IsDead}
use Rattle.reserving.specs.Left.{is_dead, bucket_in}
use Rattle.reserving.specs.declared.restoring.GivenRows.{GivenRows}
use Rattle.reserving.specs.Restored.{given, FindsSame}
use Rattle.keepers.specs.Tables.{Rows, GroupRow, head_of}
use Rattle.keepers.specs.Differing.{AreThere}
use Rattle.keepers.specs.Named.{Names, Numbers, is_named, is_numbered}
use Rattle.keepers.specs.Keyed.{same_bucket}

-- ---- of the rows that are there, those that stay live beside the ones that are named

abbrev pub stays_bucket : List BucketRow → BucketRow → Bool
stays_bucket named b = not (is_dead b) && not (is_some (bucket_in b.number named))

-- the counter of the group that isn't named is one of a past cycle
abbrev pub stays_counter : List Counter → Counter → Bool
stays_counter named c = not (list_any (λ x. x.group == c.group) named)

abbrev pub stays_session : List Session → Session → Bool
stays_session named r = is_open r.state && not (is_some (session_in r.id named))

-- a group stays with its reservation, or where its session is among these
abbrev pub stays_group : List SessionGroup → List Session → SessionGroup → Bool
stays_group named sessions r = not (is_some (group_in r.session r.group named)) &&
    (is_some r.reservation || is_some (session_in r.session sessions))

-- the groups that were left, where the session of one may be named
abbrev pub back_from : Names → List Session → List SessionGroup → List SessionGroup
back_from names sessions left =
    if list_any (λ r. is_named names r.id) sessions then left else []

-- ---- all of them

abbrev pub sessions_over : List Session → List Session → List Session
sessions_over named live = filter (stays_session named) live ++ named

abbrev pub groups_over : List SessionGroup → List Session → List SessionGroup →
    List SessionGroup → List SessionGroup
groups_over named sessions back live =
    (filter (stays_group named sessions) back ++ filter (stays_group named sessions) live) ++ named

abbrev pub rows_over : StoredRows → List SessionGroup → StoredRows → StoredRows
rows_over named back live = record named {
  buckets = filter (stays_bucket named.buckets) live.buckets ++ named.buckets;
  counters = filter (stays_counter named.counters) live.counters ++ named.counters;
  sessions = sessions_over named.sessions live.sessions;
  groups = groups_over named.groups (sessions_over named.sessions live.sessions) back live.groups;
}

-- the rows are those of a change, and their buckets all that are live after it
pub record IsGivenOver (named : StoredRows) (live : List BucketRow) (rows : GivenRows)
    : Type 0 where
  pub same : record (given rows) { buckets = named.buckets } ≡ named
  pub buckets : IsPermutation (filter (stays_bucket named.buckets) live ++ named.buckets) rows.purse

-- none of the rows has a name or a cycle of one that was left
abbrev pub is_fresh : Names → Numbers → StoredRows → Bool
is_fresh names cycles w =
    not (list_any (λ r. is_named names r.id) w.sessions)
    && not (list_any (λ r. is_named names r.session) w.groups)
    && not (list_any (λ c. is_numbered cycles c.cycle) w.counters)

-- an account has these rows, whatever their order
pub record IsAccountOf (w v : StoredRows) : Type 0 where
  pub head : head_of v ≡ head_of w
  pub buckets : AreApart same_bucket w.buckets → (n : BucketNumber) →
      bucket_in n v.buckets ≡ bucket_in n w.buckets
  pub others : FindsSame w v

-- ---- and of what isn't live any more

-- it can't change any more
pub record IsRestDead (after : StoredRows) (r : Rows) : Type 0 where
  pub dead : (n : BucketNumber) (x : BucketRow) → r.buckets n ≡ Some x →
      bucket_in n after.buckets ≡ None → IsDead x
  pub ended : (s : SessionName) (x : Session) → r.sessions s ≡ Some x →
      session_in s after.sessions ≡ None → is_open x.state ≡ false
  pub free : (s : SessionName) (g : GroupId) (x : GroupRow) → r.groups s g ≡ Some x →
      group_in s g after.groups ≡ None → (x.terms ≡ None) × (session_in s after.sessions ≡ None)

-- ---- rows that are put in the place of all that were loaded

-- the rows before are there, and what isn't among those after it can't change any more
pub record IsMadeFrom (before after : StoredRows) (r : Rows) : Type 0 where
  pub there : AreThere before r
  pub rest : IsRestDead after r
