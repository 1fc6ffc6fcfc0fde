-- What each call makes of an account's rows.
-- Source: profile; they follow the ledger's definitions.
use Rattle.std.specs.Prelude.{◌+◌, ◌*◌, ◌≤◌, Bool, false, not, ◌&&◌, nat_lt, nat_le}
use Rattle.std.specs.Prelude.{if◌then◌else◌, List, [], ◌∷◌, Option, Some, None, map, unwrap_or}
use Rattle.std.specs.Prelude.{option_map}
use Rattle.units.specs.Words.{Moment, Seconds, UnitCount, BlockCount, Place, GroupId, CycleNumber}
use Rattle.units.specs.Words.{CcRequestNumber, Micros}
use Rattle.identifiers.specs.Words.{SessionName}
use Rattle.buckets.specs.Words.{BucketAmount}
use Rattle.units.specs.declared.blocks.UsedPart.{UsedPart}
use Rattle.buckets.specs.declared.holds.HeldAmount.{HeldAmount}
use Rattle.buckets.specs.Row.{BucketRow, is_eligible, with_end, with_release, new_row}
use Rattle.buckets.specs.declared.kind.BucketKind.{BucketKind}
use Rattle.buckets.specs.declared.kind.BucketKind.TheVariants.{Blocks}
use Rattle.buckets.specs.declared.kind.Due.{Due}
use Rattle.buckets.specs.Share.{sum_in}
use Rattle.buckets.specs.Spend.{Each, inserted, held_rows, funds, allowance}
use Rattle.buckets.specs.Holding.{settled_rows, released_rows, holds_of, held_sum, uncollected}
use Rattle.reserving.specs.declared.session.Session.{Session}
use Rattle.reserving.specs.declared.session.SessionState.{SessionState}
use Rattle.reserving.specs.declared.session.SessionState.TheVariants.{Open, Ended}
use Rattle.reserving.specs.declared.session.SessionGroup.{SessionGroup}
use Rattle.reserving.specs.declared.session.Reservation.{Reservation}
use Rattle.reserving.specs.declared.session.Counter.{Counter}
use Rattle.ledger.specs.Ledger.{is_same}
use Rattle.ledger.specs.declared.terms.Terms.{Terms}
use Rattle.rating.specs.declared.grant.Grant.{Grant}
use Rattle.rating.specs.declared.report.Rated.{Rated}
use Rattle.ledger.specs.Pricing.{tariff_at, cycle_at, periods_at, terms_at, validity_of, grant_with}
use Rattle.reserving.specs.Keyed.{put}
use Rattle.reserving.specs.Sessions.{is_session, is_of, group_in, is_counter, counter_in, is_open}
use Rattle.reserving.specs.Sessions.{is_live_in, held_by, holds_in}
use Rattle.ledger.specs.Settlement.{reported, price_of, due_of, passes}
use Rattle.ledger.specs.Debiting.{untagged}
use Rattle.reserving.specs.Rows.{AccountRows}
use Rattle.reserving.specs.Sessions.{group_before, session_before, counter_before}

-- ---- time goes on: sessions whose supervision time is over end, what they held is given up, and
-- what is left of buckets that ended is expired

abbrev pub lapse : (Moment → Seconds) → Moment → Session → Session
lapse v t r =
    if is_open r.state && not (nat_lt t (r.touched + 2 * v r.touched))
    then record r { state = Ended } else r

-- a group of a session that doesn't keep its reservations
abbrev pub lapse_group : (SessionName → Bool) → SessionGroup → SessionGroup
lapse_group keeps r = if keeps r.session then r else record r { reservation = None }

-- what the reservations of sessions that don't keep them hold of a bucket
abbrev pub lapsed_in : (SessionName → Bool) → List SessionGroup → BucketRow → BucketAmount
lapsed_in keeps groups b = held_by (λ s. not (keeps s)) groups b

-- rule: going-on.advanced-alike
abbrev pub advanced : Moment → AccountRows → AccountRows
advanced t a = record a {
  as_of = t;
  buckets =
      map (λ b. with_end t
      (with_release t b (lapsed_in (is_live_in (validity_of a.shelf) t a.sessions) a.groups b)))
      a.buckets;
  sessions = map (lapse (validity_of a.shelf) t) a.sessions;
  groups = map (lapse_group (is_live_in (validity_of a.shelf) t a.sessions)) a.groups;
}

-- ---- sessions

abbrev pub session_put : SessionName → CcRequestNumber → Moment → SessionState → List Session →
    List Session
session_put s number t state rows =
    put session_before (is_session s)
    (record { id = s; last_number = number; touched = t; state = state }) rows

abbrev pub with_session : SessionName → CcRequestNumber → Moment → SessionState → AccountRows →
    AccountRows
with_session s number t state a = record a { sessions = session_put s number t state a.sessions }

abbrev pub touched_session : SessionName → CcRequestNumber → Moment → Session → Session
touched_session s number t r =
    if is_session s r then record r { last_number = number; touched = t; state = Open } else r

abbrev pub touched_account : SessionName → CcRequestNumber → AccountRows → AccountRows
touched_account s number a =
    record a { sessions = map (touched_session s number a.as_of) a.sessions }

-- ---- groups and counters

abbrev pub new_group : SessionName → GroupId → SessionGroup
new_group s g = record { session = s; group = g; used = 0; reservation = None }

abbrev pub group_or_new : SessionName → GroupId → List SessionGroup → SessionGroup
group_or_new s g rows = unwrap_or (group_in s g rows) (new_group s g)

abbrev pub used_in : SessionName → GroupId → List SessionGroup → UnitCount
used_in s g rows = (group_or_new s g rows).used

abbrev pub reserved_in : SessionName → GroupId → List SessionGroup → List HeldAmount
reserved_in s g rows = holds_in (group_or_new s g rows).reservation

abbrev pub count_in : GroupId → CycleNumber → List Counter → Place
count_in g c rows = unwrap_or (option_map (λ r. r.blocks) (counter_in g c rows)) 0

abbrev pub with_use : SessionName → GroupId → UnitCount → List SessionGroup → List SessionGroup
with_use s g units rows =
    put group_before (is_of s g)
    (record { session = s; group = g; used = used_in s g rows + units; reservation = None }) rows

abbrev pub with_count : GroupId → CycleNumber → BlockCount → List Counter → List Counter
with_count g c blocks rows =
    put counter_before (is_counter g c)
    (record { group = g; cycle = c; blocks = count_in g c rows + blocks }) rows

-- ---- settlement

-- the group's reservation alone ends
abbrev pub ended_group : SessionName → GroupId → SessionGroup → SessionGroup
ended_group s g r = if is_of s g r then record r { reservation = None } else r

abbrev pub ended_rows : SessionName → GroupId → AccountRows → AccountRows
ended_rows s g a = record a {
  buckets = released_rows (reserved_in s g a.groups) a.as_of a.buckets;
  groups = map (ended_group s g) a.groups;
}

abbrev pub settled_account : SessionName → GroupId → UnitCount → BlockCount → Due → AccountRows →
    AccountRows
settled_account s g units blocks due a = record a {
  buckets = settled_rows (reserved_in s g a.groups) g a.as_of due a.buckets;
  counters = with_count g (cycle_at a.shelf g a.as_of) blocks a.counters;
  groups = with_use s g units a.groups;
  next_charge = a.next_charge + 1;
}

-- the terms of the group's reservation
abbrev pub terms_in : SessionName → GroupId → List SessionGroup → Option Terms
terms_in s g rows = option_map (λ r. r.terms) (group_or_new s g rows).reservation

-- the blocks that may cover a report, by the rows
abbrev pub coverable_in : SessionName → GroupId → Moment → AccountRows → BlockCount
coverable_in s g t a =
    held_sum Blocks (reserved_in s g a.groups) a.buckets
    + allowance g t (advanced t a).buckets

-- what a report costs, by the rows
abbrev pub price_in : SessionName → GroupId → Moment → List UsedPart → AccountRows → Rated
price_in s g t used_parts a =
    price_of a.shelf t g (terms_in s g a.groups) (used_in s g a.groups)
    (count_in g (cycle_at a.shelf g t) a.counters) (coverable_in s g t a) used_parts

-- what of it neither the reservation nor any eligible bucket pays
abbrev pub missing_in : SessionName → GroupId → Moment → List UsedPart → AccountRows → Micros
missing_in s g t used_parts a =
    uncollected (reserved_in s g (advanced t a).groups) g t (price_in s g t used_parts a).amount.0
    (advanced t a).buckets

-- a stored number would pass its limit, by the rows
-- rule: grant-units.passes-in: limits, what is covered and what is granted, of any account's rows,
--   also of no ledger
abbrev pub passes_in : SessionName → GroupId → Moment → List UsedPart → AccountRows → Bool
passes_in s g t [] a = false
passes_in s g t (p ∷ ps) a =
    passes (used_in s g a.groups) (reported (p ∷ ps)) (count_in g (cycle_at a.shelf g t) a.counters)
    (price_in s g t (p ∷ ps) a).blocks a.next_charge

abbrev pub settled_by_rows : SessionName → GroupId → List UsedPart → AccountRows → AccountRows
settled_by_rows s g [] a = ended_rows s g a
settled_by_rows s g (p ∷ ps) a =
    settled_account s g (reported (p ∷ ps)) (price_in s g a.as_of (p ∷ ps) a).blocks
    (due_of (price_in s g a.as_of (p ∷ ps) a)) a

-- ---- debits

-- what an event's units cost, by the rows, where so many blocks are covered
abbrev pub event_price_in : GroupId → BlockCount → UnitCount → Moment → AccountRows → Rated
event_price_in g covered units t a =
    price_of a.shelf t g None 0 (count_in g (cycle_at a.shelf g t) a.counters) covered
    (untagged units)

-- what they cost beside the allowance
abbrev pub rest_price_in : GroupId → UnitCount → Moment → AccountRows → Rated
rest_price_in g units t a = event_price_in g (allowance g t (advanced t a).buckets) units t a

-- the eligible buckets have this price
-- rule: grant-units.passes-in
abbrev pub is_covered_in : GroupId → UnitCount → Moment → AccountRows → Bool
is_covered_in g units t a =
    nat_le (rest_price_in g units t a).amount.0 (funds g t (advanced t a).buckets)

-- a stored number would pass its limit
-- rule: grant-units.passes-in
abbrev pub debit_passes_in : SessionName → GroupId → UnitCount → Moment → AccountRows → Bool
debit_passes_in s g units t a =
    passes (used_in s g a.groups) units (count_in g (cycle_at a.shelf g t) a.counters)
    (rest_price_in g units t a).blocks a.next_charge

-- an event's use leaves the group's reservation as it is
abbrev pub with_event : SessionName → GroupId → UnitCount → List SessionGroup → List SessionGroup
with_event s g units rows =
    put group_before (is_of s g)
    (record {
      session = s;
      group = g;
      used = used_in s g rows + units;
      reservation = (group_or_new s g rows).reservation;
    }) rows

abbrev pub debited_account : SessionName → GroupId → UnitCount → BlockCount → Due → AccountRows →
    AccountRows
debited_account s g units blocks due a = record a {
  buckets = settled_rows [] g a.as_of due a.buckets;
  counters = with_count g (cycle_at a.shelf g a.as_of) blocks a.counters;
  groups = with_event s g units a.groups;
  next_charge = a.next_charge + 1;
}

-- ---- reservation

-- what a session would be granted, by the rows
-- rule: grant-units.passes-in
abbrev pub granted_in : SessionName → GroupId → Moment → Option UnitCount → AccountRows → Grant
granted_in s g t requested a =
    grant_with (tariff_at a.shelf t g) (periods_at a.shelf t) (used_in s g a.groups)
    (count_in g (cycle_at a.shelf g t) a.counters) requested (funds g t (advanced t a).buckets)
    (allowance g t (advanced t a).buckets)

abbrev pub with_reservation : SessionName → GroupId → Terms → List HeldAmount → List SessionGroup →
    List SessionGroup
with_reservation s g terms holds rows =
    put group_before (is_of s g)
    (record {
      session = s;
      group = g;
      used = used_in s g rows;
      reservation = Some (record { terms = terms; holds = holds });
    }) rows

abbrev pub reserved_account : SessionName → GroupId → Due → AccountRows → AccountRows
reserved_account s g due a = record a {
  buckets = held_rows g a.as_of due a.buckets;
  groups = with_reservation s g (terms_at a.shelf a.as_of) (holds_of g a.as_of due a.buckets)
      a.groups;
}

-- ---- credit

abbrev pub credited_account : BucketKind → Moment → Moment → Option GroupId → BucketAmount →
    AccountRows → AccountRows
credited_account kind from until scope amount a = record a {
  buckets = inserted (new_row kind a.next_bucket from until scope amount) a.buckets;
  next_bucket = a.next_bucket + 1;
}

-- ---- the end of a session

-- the other sessions keep their reservations
abbrev pub is_other : SessionName → SessionName → Bool
is_other s x = not (is_same x s)

abbrev pub closed_session : SessionName → Session → Session
closed_session s r = if is_session s r then record r { state = Ended } else r

abbrev pub closed_account : SessionName → AccountRows → AccountRows
closed_account s a = record a {
  buckets = map (λ b. with_release a.as_of b (lapsed_in (is_other s) a.groups b)) a.buckets;
  sessions = map (closed_session s) a.sessions;
  groups = map (lapse_group (is_other s)) a.groups;
}

-- ---- the same, one reservation after another

abbrev pub lapse_from : Bool → Moment → Option Reservation → List BucketRow → List BucketRow
lapse_from live t reservation rows =
    if live then rows else released_rows (holds_in reservation) t rows

abbrev pub lapsed_rows : (SessionName → Bool) → Moment → List SessionGroup → List BucketRow →
    List BucketRow
lapsed_rows keeps t [] rows = rows
lapsed_rows keeps t (r ∷ rs) rows =
    lapsed_rows keeps t rs (lapse_from (keeps r.session) t r.reservation rows)

-- what the remaining reservations hold is within what is reserved
abbrev pub AreLapsable : (SessionName → Bool) → List SessionGroup → List BucketRow → Type 0
AreLapsable p groups rows = Each (λ b. held_by p groups b ≤ b.reserved) rows

-- ---- funds at a later moment

-- what a bucket has available for a group at a later moment, with what ended sessions held of it
abbrev pub amount_later : GroupId → (Moment → Seconds) → Moment → List Session → List SessionGroup →
    BucketRow → BucketAmount
amount_later group v t sessions groups b =
    if is_eligible group t b then b.available + lapsed_in (is_live_in v t sessions) groups b else 0

abbrev pub funds_later : BucketKind → GroupId → (Moment → Seconds) → Moment → List Session →
    List SessionGroup → List BucketRow → BucketAmount
funds_later kind group v t sessions groups rows =
    sum_in kind (amount_later group v t sessions groups) rows
