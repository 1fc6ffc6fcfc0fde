-- What a settlement makes of an account's rows: those of the ledger with the settlement.
use Rattle.std.proofs.Common.{◌≡◌, ℕ, ◌+◌, ◌<◌, ◌≤◌, Bool, true, false, List, [], ◌∷◌, ◌++◌}
use Rattle.buckets.specs.declared.kind.BucketKind.TheVariants.{Blocks}
use Rattle.buckets.specs.Spend.{allowance}
use Rattle.buckets.specs.Holding.{held_sum}
use Rattle.ledger.specs.Settlement.{due_of, coverable, charge_facts, settled, settled_by, reported}
use Rattle.ledger.specs.Settlement.{price_of, report_price}
use Rattle.reserving.specs.Changes.{coverable_in}
use Rattle.reserving.proofs.Advancing.{IsRowsOf-advanced}
use Rattle.buckets.specs.declared.kind.Due.{Due}
use Rattle.std.proofs.Common.{map, refl, sym, ap, subst, ◌∙◌, arith, Option, Some, None}
use Rattle.std.specs.Prelude.{if◌then◌else◌, ◌==◌, ◌&&◌, ◌||◌, not, unwrap_or, option_map}
use Rattle.std.proofs.lemmas.Bool.{or_parts}
use Rattle.units.specs.declared.blocks.UsedPart.{UsedPart}
use Rattle.shelves.specs.Shelves.{Shelf}
use Rattle.buckets.specs.declared.holds.HeldAmount.{HeldAmount}
use Rattle.buckets.specs.Row.{BucketRow, with_release}
use Rattle.buckets.specs.Share.{parts}
use Rattle.buckets.specs.Spend.{IsSound, IsBelow, DiffersFromAll}
use Rattle.buckets.specs.Holding.{held_in, paid, settled_row}
use Rattle.buckets.specs.Holding.{settled_rows, released_rows}
use Rattle.buckets.proofs.Parts.{sum_at_none}
use Rattle.buckets.proofs.SharesAlong.{with_release_number}
use Rattle.reserving.specs.declared.session.SessionGroup.{SessionGroup}
use Rattle.reserving.specs.declared.session.Reservation.{Reservation}
use Rattle.reserving.specs.declared.session.Counter.{Counter}
use Rattle.ledger.specs.declared.terms.Terms.{Terms}
use Rattle.ledger.specs.Ledger.{Dated, Ledger, or_else, open_grant, held, only, used, counter}
use Rattle.ledger.specs.Ledger.{has_group, has_counter, inner, is_live, is_same, UseOf, GrantOf}
use Rattle.ledger.specs.Ledger.{EndOf, counts as counts_of, number_of, test_of}
use Rattle.ledger.specs.Parts.{blocks_by}
use Rattle.ledger.specs.Ledger.{telling}
use Rattle.ledger.specs.Parts.{is_use_in, told_of, units_in, names_group, grant_in}
use Rattle.ledger.specs.Ledger.{newest, total}
use Rattle.ledger.specs.Parts.{counts_group, blocks_in, uses_in, credits_in}
use Rattle.ledger.specs.Ledger.{next_bucket, next_charge}
use Rattle.ledger.specs.Ledger.Fact.{Charge}
use Rattle.ledger.specs.Pricing.{cycle_at, validity_of}
use Rattle.reserving.specs.Keyed.{put}
use Rattle.ledger.specs.Balance.{buckets_at, holds_at}
use Rattle.reserving.specs.Sessions.{is_of, group_in, group_at, is_counter, counter_in, counter_at}
use Rattle.reserving.specs.Sessions.{reservation_of, reservation_at}
use Rattle.rating.specs.declared.report.Rated.{Rated}
use Rattle.reserving.specs.Changes.{new_group, used_in, reserved_in, terms_in, price_in, count_in}
use Rattle.reserving.specs.Changes.{with_use, with_count, ended_group, ended_rows, settled_account}
use Rattle.reserving.specs.Changes.{settled_by_rows}
use Rattle.ledger.specs.SoundLedger.{IsUnknown, IsSoundLedger}
use Rattle.reserving.specs.Rows.{AccountRows, IsAccount, IsRowsOf}
use Rattle.reserving.specs.Sessions.{group_before, counter_before}
use Rattle.reserving.proofs.Lists.{find-put, find-put_other, find-map}
use Rattle.reserving.proofs.Keys.{is_key, own_key, key_session, key_group, key_of, other_row}
use Rattle.reserving.proofs.Keys.{is_cycle, own_cycle, cycle_group, cycle_cycle, other_counter}
use Rattle.reserving.proofs.Keys.{same_tests, not_true}
use Rattle.ledger.proofs.Holds.{one_if, held_split, held_same}
use Rattle.reserving.proofs.Counted.{is_named, unnamed_grant, none_units}
use Rattle.ledger.proofs.Fronts.{is_barred-front, total-front, newest-front, any-front}
use Rattle.ledger.proofs.Fronts.{any_dated-front, each_charge, held-charge_facts}
use Rattle.ledger.proofs.Fronts.{charged-charge_facts, SameSessions, same_touched}
use Rattle.reserving.proofs.SettledFacts.{IsMoved, SameGroup}
use Rattle.reserving.proofs.SettledFacts.{same_session, same_group}
use Rattle.ledger.proofs.SettledBuckets.{with_end, buckets_at-settled, buckets_at-ended}
use Rattle.ledger.proofs.SettledBuckets.{same_sessions-settled, same_sessions-ended}
use Rattle.reserving.proofs.rows.Complete.{row_with, reserved_in_is}
use Rattle.reserving.proofs.kept.Settled.{settled_number}

-- ---- what wasn't named is 0

pub used_none : (s : List ℕ) (g : ℕ) (ledger : Ledger) → has_group s g ledger ≡ false →
    used s g ledger ≡ 0
used_none s g [] h = refl
used_none s g (d ∷ older) h =
    omega (
      arith,
      none_units s g d.fact (or_parts (names_group s g d.fact) (has_group s g older) h).0,
      used_none s g older (or_parts (names_group s g d.fact) (has_group s g older) h).1,
    )

either_used : (h : Bool) (x : SessionGroup) (s : List ℕ) (g : ℕ) → (h ≡ false → x.used ≡ 0) →
    (unwrap_or (if h then Some x else None) (new_group s g)).used ≡ x.used
either_used true x s g k = refl
either_used false x s g k = sym (k refl)

-- a session's use so far
pub used_in_is : (ledger : Ledger) (a : AccountRows) (s : List ℕ) (g : ℕ) → IsRowsOf ledger a →
    used_in s g a.groups ≡ used s g ledger
used_in_is ledger a s g rows =
    ap (λ o. (unwrap_or o (new_group s g)).used) (rows.groups s g)
    ∙ either_used (has_group s g ledger)
    (record {
      session = s;
      group = g;
      used = used s g ledger;
      reservation = reservation_at (validity_of a.shelf) a.as_of ledger s g;
    }) s g
    (used_none s g ledger)

-- without a grant or a use of the group there is no open grant
grant_ended : (k : Bool) (o : Option (Option Terms)) → inner o ≡ None →
    inner (or_else (if k then Some None else None) o) ≡ None
grant_ended true o h = refl
grant_ended false o h = h

pub open_none : (s : List ℕ) (g : ℕ) (ledger : Ledger) → has_group s g ledger ≡ false →
    open_grant s g ledger ≡ None
open_none s g [] h = refl
open_none s g (d ∷ older) h =
    by_grant (counts_of d.fact).usage (counts_of d.fact).grant (counts_of d.fact).end
    (or_parts (names_group s g d.fact) (has_group s g older) h).0
    (open_none s g older (or_parts (names_group s g d.fact) (has_group s g older) h).1)
  where
    by_grant : (u : Option UseOf) (x : Option GrantOf) (e : Option EndOf) →
        is_named s g u x ≡ false → inner (newest (grant_in s g) older) ≡ None →
        inner (or_else (told_of (λ y. y.terms) s g (telling x e)) (newest (grant_in s g) older))
        ≡ None
    by_grant u (Some x) e k r =
        (λ i. inner (or_else (if unnamed_grant s g u x k i then Some (Some x.terms) else None)
        (newest (grant_in s g) older)))
        ∙ r
    by_grant u None (Some e) k r =
        grant_ended (is_same e.session s && e.group == g) (newest (grant_in s g) older) r
    by_grant u None None k r = r

either_periods : (h l : Bool) (hs : List HeldAmount) (p : Option Terms) (used : ℕ) (s : List ℕ)
    (g : ℕ)
    → l ≡ true → (h ≡ false → p ≡ None) →
    (let x : SessionGroup = row_with s g used (if l then reservation_of hs p else None) in
    option_map (λ (r : Reservation). r.terms)
    (unwrap_or (if h then Some x else None) (new_group s g)).reservation ≡ p)
either_periods true true hs None used s g e k = refl
either_periods true true hs (Some p) used s g e k = refl
either_periods true false hs p used s g e k = cc
either_periods false l hs p used s g e k = sym (k refl)

-- the periods of a live session's reservation
pub periods_in_is : (ledger : Ledger) (a : AccountRows) (s : List ℕ) (g : ℕ) → IsRowsOf ledger a →
    is_live (validity_of a.shelf) a.as_of ledger s ≡ true →
    terms_in s g a.groups ≡ open_grant s g ledger
periods_in_is ledger a s g rows live =
    ap (λ o. option_map (λ (r : Reservation). r.terms) (unwrap_or o (new_group s g)).reservation)
    (rows.groups s g)
    ∙ either_periods (has_group s g ledger) (is_live (validity_of a.shelf) a.as_of ledger s)
    (holds_at (validity_of a.shelf) a.as_of s g ledger) (open_grant s g ledger)
    (used s g ledger) s g
    live (open_none s g ledger)

pub if_none : (t : Bool) → (let z : ℕ = 0 in (if t then z else z) ≡ z)
if_none true = refl
if_none false = refl

none_blocks : (f : ℕ → ℕ) (g c : ℕ) (d : Dated) → counts_group f g c d ≡ false →
    (if f d.at == c then blocks_in g d.fact else 0) ≡ 0
none_blocks f g c d h = by_use d.at (counts_of d.fact).usage h
  where
    both : (t u : Bool) (n : ℕ) → (u && t) ≡ false → (if t then (if u then n else 0) else 0) ≡ 0
    both true true n e = cc
    both true false n e = refl
    both false u n e = refl

    by_use : (at : ℕ) (o : Option UseOf) → test_of (is_use_in f g c at) o ≡ false →
        (if f at == c then number_of (blocks_by g) o else 0) ≡ 0
    by_use at None e = if_none (f at == c)
    by_use at (Some u) e = both (f at == c) (u.group == g) u.blocks e

counter_none : (f : ℕ → ℕ) (g c : ℕ) (ledger : Ledger) → has_counter f g c ledger ≡ false →
    counter f g c ledger ≡ 0
counter_none f g c [] h = refl
counter_none f g c (d ∷ older) h =
    omega (
      arith,
      none_blocks f g c d (or_parts (counts_group f g c d) (has_counter f g c older) h).0,
      counter_none f g c older (or_parts (counts_group f g c d) (has_counter f g c older) h).1,
    )

either_count : (h : Bool) (x : Counter) → (h ≡ false → x.blocks ≡ 0) →
    unwrap_or (option_map (λ (r : Counter). r.blocks) (if h then Some x else None)) 0 ≡ x.blocks
either_count true x k = refl
either_count false x k = sym (k refl)

-- the account's counter of a group and cycle
pub count_in_is : (ledger : Ledger) (a : AccountRows) (g c : ℕ) → IsRowsOf ledger a →
    count_in g c a.counters ≡ counter (cycle_at a.shelf g) g c ledger
count_in_is ledger a g c rows =
    ap (λ o. unwrap_or (option_map (λ (r : Counter). r.blocks) o) 0) (rows.counters g c)
    ∙ either_count (has_counter (cycle_at a.shelf g) g c ledger)
    (record { group = g; cycle = c; blocks = counter (cycle_at a.shelf g) g c ledger })
    (counter_none (cycle_at a.shelf g) g c ledger)

-- ---- charges, and a use in front of them

charges_first : (f : Dated → ℕ) (t : ℕ) (hs : List HeldAmount) (ledger : Ledger) →
    ((b n : ℕ) → f (record { at = t; fact = Charge b n }) ≡ 0) →
    total f (charge_facts t hs ++ ledger) ≡ total f ledger
charges_first f t hs ledger none =
    total-front f (charge_facts t hs) ledger (each_charge (λ d. f d ≡ 0) t hs none)

pub next_bucket-charges : (t : ℕ) (hs : List HeldAmount) (ledger : Ledger) →
    next_bucket (charge_facts t hs ++ ledger) ≡ next_bucket ledger
next_bucket-charges t hs ledger =
    ap (λ n. n + 1) (charges_first (λ d. credits_in d.fact) t hs ledger (λ b n. refl))

pub next_charge-charges : (t : ℕ) (hs : List HeldAmount) (ledger : Ledger) →
    next_charge (charge_facts t hs ++ ledger) ≡ next_charge ledger
next_charge-charges t hs ledger =
    ap (λ n. n + 1) (charges_first (λ d. uses_in d.fact) t hs ledger (λ b n. refl))

-- the use is the session's
pub own_named : (s : List ℕ) (g : ℕ) (ledger : Ledger) →
    (is_key s g s g || has_group s g ledger) ≡ true
own_named s g ledger = λ i. own_key s g i || has_group s g ledger

pub own_used : (s : List ℕ) (g units t : ℕ) (hs : List HeldAmount) (ledger : Ledger) →
    (if is_key s g s g then units else 0) + used s g (charge_facts t hs ++ ledger)
    ≡ used s g ledger + units
own_used s g units t hs ledger =
    let all : (if is_key s g s g then units else 0) ≡ units = rw (own_key s g) refl in
    omega (arith, charges_first (λ d. units_in s g d.fact) t hs ledger (λ b n. refl))

-- the use is another session's or another group's
pub other_named : (session : List ℕ) (group : ℕ) (s : List ℕ) (g t : ℕ) (hs : List HeldAmount)
    (ledger : Ledger) → is_key session group s g ≡ false →
    (is_key session group s g || has_group s g (charge_facts t hs ++ ledger)) ≡ has_group s g ledger
other_named session group s g t hs ledger h =
    (λ i. h i || has_group s g (charge_facts t hs ++ ledger))
    ∙ any-front (names_group s g) (charge_facts t hs) ledger (each_charge _ t hs (λ b n. refl))

pub other_used : (session : List ℕ) (group units : ℕ) (s : List ℕ) (g t : ℕ) (hs : List HeldAmount)
    (ledger : Ledger) → is_key session group s g ≡ false →
    (if is_key session group s g then units else 0) + used s g (charge_facts t hs ++ ledger)
    ≡ used s g ledger
other_used session group units s g t hs ledger h =
    let none : (if is_key session group s g then units else 0) ≡ 0 = rw h refl in
    omega (arith, charges_first (λ d. units_in s g d.fact) t hs ledger (λ b n. refl))

-- ---- the groups of the ledger with the settlement

-- an end of one reservation leaves the others
ended_other : (s : List ℕ) (g : ℕ) (s' : List ℕ) (g' : ℕ) → is_key s g s' g' ≡ false →
    (a : List ℕ) (b : ℕ) → (only s' g' a b && not (is_same a s && b == g)) ≡ only s' g' a b
ended_other s g s' g' h a b =
    same_tests (only s' g' a b && not (is_same a s && b == g)) (only s' g' a b)
    (λ e. first (only s' g' a b) (is_same a s && b == g) e)
    (λ e. whole (only s' g' a b) (is_same a s && b == g) e (conflict e))
  where
    first : (x y : Bool) → (x && not y) ≡ true → x ≡ true
    first true y e = refl
    first false y e = e

    whole : (x y : Bool) → x ≡ true → (y ≡ true → ⊥) → (x && not y) ≡ true
    whole x true e k = absurd (k refl)
    whole true false e k = refl
    whole false false e k = e

    conflict : only s' g' a b ≡ true → (is_same a s && b == g) ≡ true → ⊥
    conflict e q =
        let same : is_key s g s' g' ≡ true =
        key_of s g s' g' (sym (key_session a b s g q) ∙ key_session a b s' g' e)
        (sym (key_group a b s g q) ∙ key_group a b s' g' e) in
        cc

abbrev pub parts_paid : (ℕ → ℕ) → ℕ → List ℕ → ℕ → Due → Ledger → List HeldAmount
parts_paid v t session group due ledger =
    parts (paid (holds_at v t session group ledger) group t due (buckets_at v t ledger))
    (buckets_at v t ledger)

pub other_settled : (v : ℕ → ℕ) (t : ℕ) (session : List ℕ) (group units blocks : ℕ)
    (due : Due) (ledger : Ledger)
    (s : List ℕ) (g : ℕ) → is_key session group s g ≡ false →
    SameGroup s g ledger (settled v t session group units blocks due ledger)
other_settled v t session group units blocks due ledger s g h =
    let hs : List HeldAmount = parts_paid v t session group due ledger in
    record {
      named = other_named session group s g t hs ledger h;
      used = omega (arith, other_used session group units s g t hs ledger h);
      grant = (λ i. inner
          (or_else (if h i then Some None else None)
          (newest (grant_in s g) (charge_facts t hs ++ ledger))))
          ∙ ap inner
          (newest-front (grant_in s g) (charge_facts t hs) ledger
          (each_charge _ t hs (λ b n. refl)));
      held = λ n. omega (
        arith,
        held_same (λ a b. only s g a b && not (is_same a session && b == group))
            (only s g) n (charge_facts t hs ++ ledger) (ended_other session group s g h),
        held-charge_facts (only s g) n t hs ledger,
      );
    }

either_none : (l : Bool) (hs : List HeldAmount) (p : Option (Option _)) → p ≡ Some None →
    (if l then reservation_of hs (inner p) else None) ≡ None
either_none true hs p e = ap (λ x. reservation_of hs (inner x)) e
either_none false hs p e = refl

pub own_row : (s : List ℕ) (g : ℕ) (h : Bool) (u w : ℕ) (o p : Option Reservation) → h ≡ true →
    u ≡ w → o ≡ p → (if h then Some (row_with s g u o) else None) ≡ Some (row_with s g w p)
own_row s g h u w o p named used kept =
    λ i. if named i then Some (row_with s g (used i) (kept i)) else None

own_settled : (v : ℕ → ℕ) (t : ℕ) (session : List ℕ) (group units blocks : ℕ)
    (due : Due) (ledger : Ledger) →
    group_at v t (settled v t session group units blocks due ledger) session group
    ≡ Some (record {
      session = session;
      group = group;
      used = used session group ledger + units;
      reservation = None;
    })
own_settled v t session group units blocks due ledger =
    let after : Ledger = settled v t session group units blocks due ledger in
    let hs : List HeldAmount = parts_paid v t session group due ledger in
    let named : has_group session group after ≡ true =
    own_named session group (charge_facts t hs ++ ledger) in
    let so_far : used session group after ≡ used session group ledger + units =
    omega (arith, own_used session group units t hs ledger) in
    let none : reservation_at v t after session group ≡ None =
    either_none (is_live v t after session) (holds_at v t session group after)
    (newest (grant_in session group) after)
    (λ i. or_else (if own_key session group i then Some None else None)
    (newest (grant_in session group) (charge_facts t hs ++ ledger))) in
    own_row session group _ _ _ _ _ named so_far none

groups-settled : (v : ℕ → ℕ) (t : ℕ) (session : List ℕ) (group units blocks : ℕ)
    (due : Due) (ledger : Ledger)
    (does : BucketRow → BucketRow) (rows : List SessionGroup) →
    IsMoved does v t ledger (settled v t session group units blocks due ledger) →
    used_in session group rows ≡ used session group ledger →
    ((s : List ℕ) (g : ℕ) → group_in s g rows ≡ group_at v t ledger s g) →
    (s : List ℕ) (g : ℕ) →
    group_in s g (with_use session group units rows)
    ≡ group_at v t (settled v t session group units blocks due ledger) s g
groups-settled v t session group units blocks due ledger does rows moved so_far h s g =
    by_test (is_key session group s g) refl
  where
    after : Ledger
    after = settled v t session group units blocks due ledger

    row : SessionGroup
    row = record {
      session = session;
      group = group;
      used = used_in session group rows + units;
      reservation = None;
    }

    by_test : (e : Bool) → is_key session group s g ≡ e →
        group_in s g (put group_before (is_of session group) row rows) ≡ group_at v t after s g
    by_test true q =
        let es : session ≡ s = key_session session group s g q in
        let eg : group ≡ g = key_group session group s g q in
        let used_is :
        (let r : SessionGroup =
        record {
          session = session;
          group = group;
          used = used_in session group rows + units;
          reservation = None;
        } in r)
        ≡ (let r : SessionGroup =
        record {
          session = session;
          group = group;
          used = used session group ledger + units;
          reservation = None;
        } in r) =
        λ i. record {
          session = session;
          group = group;
          used = so_far i + units;
          reservation = None;
        } in
        (λ i. group_in (sym es i) (sym eg i) (put group_before (is_of session group) row rows))
        ∙ find-put group_before (is_of session group) row rows (own_key session group)
        ∙ (λ i. Some (used_is i))
        ∙ sym (own_settled v t session group units blocks due ledger)
        ∙ (λ i. group_at v t after (es i) (eg i))
    by_test false q =
        find-put_other group_before (is_of session group) (is_of s g) row rows q
        (other_row session group s g q)
        ∙ h s g
        ∙ sym (same_group does v t ledger after s g moved
        (same_sessions-settled v t session group units blocks due ledger)
        (other_settled v t session group units blocks due ledger s g q))

-- ---- its counters

not_counted : (t u : Bool) (n : ℕ) → (u && t) ≡ false → (if t then (if u then n else 0) else 0) ≡ 0
not_counted true true n e = cc
not_counted true false n e = refl
not_counted false u n e = refl

counted_once : (t u : Bool) (n : ℕ) → (u && t) ≡ true → (if t then (if u then n else 0) else 0) ≡ n
counted_once true true n e = refl
counted_once true false n e = cc
counted_once false true n e = cc
counted_once false false n e = cc

pub counter-settled : (f : ℕ → ℕ) (g c : ℕ) (v : ℕ → ℕ) (t : ℕ) (session : List ℕ)
    (group units blocks : ℕ) (due : Due)
    (ledger : Ledger) →
    counter f g c (settled v t session group units blocks due ledger)
    ≡ counter f g c ledger + (if f t == c then (if group == g then blocks else 0) else 0)
counter-settled f g c v t session group units blocks due ledger =
    omega (
      arith,
      if_none (f t == c),
      total-front (λ d. if f d.at == c then blocks_in g d.fact else 0)
          (charge_facts t (parts_paid v t session group due ledger)) ledger
          (each_charge _ t (parts_paid v t session group due ledger) (λ b n. if_none (f t == c))),
    )

has_counter-settled : (f : ℕ → ℕ) (g c : ℕ) (v : ℕ → ℕ) (t : ℕ) (session : List ℕ)
    (group units blocks : ℕ) (due : Due)
    (ledger : Ledger) →
    has_counter f g c (settled v t session group units blocks due ledger)
    ≡ ((group == g && f t == c) || has_counter f g c ledger)
has_counter-settled f g c v t session group units blocks due ledger =
    ap (λ x. (group == g && f t == c) || x)
    (any_dated-front (counts_group f g c)
    (charge_facts t (parts_paid v t session group due ledger)) ledger
    (each_charge _ t (parts_paid v t session group due ledger) (λ b n. refl)))

-- the cycle of a group is that of an equal group
same_cycle : (f : ℕ → ℕ) (group g c : ℕ) → is_cycle group (f group) g c ≡ (group == g && f g == c)
same_cycle f group g c = same_tests (is_cycle group (f group) g c) (group == g && f g == c)
    (λ q. (λ i. is_cycle group (f (sym (cycle_group group (f group) g c q) i)) g c) ∙ q)
    (λ q. (λ i. is_cycle group (f (cycle_group group (f g) g c q i)) g c) ∙ q)

-- the counters of a ledger with one use more
-- rule: counters, use-counts
pub counters_used : (cycle_of : ℕ → ℕ → ℕ) (t group blocks : ℕ) (ledger after : Ledger)
    (rows : List Counter) →
    ((f : ℕ → ℕ) (g c : ℕ) →
    counter f g c after
    ≡ counter f g c ledger + (if f t == c then (if group == g then blocks else 0) else 0)) →
    ((f : ℕ → ℕ) (g c : ℕ) →
    has_counter f g c after ≡ ((group == g && f t == c) || has_counter f g c ledger)) →
    count_in group (cycle_of group t) rows
    ≡ counter (cycle_of group) group (cycle_of group t) ledger →
    ((g c : ℕ) → counter_in g c rows ≡ counter_at (cycle_of g) ledger g c) →
    (g c : ℕ) →
    counter_in g c (with_count group (cycle_of group t) blocks rows)
    ≡ counter_at (cycle_of g) after g c
counters_used cycle_of t group blocks ledger after rows counts names so_far h g c =
    by_test (is_cycle group (cycle_of group t) g c) refl
  where
    cycle : ℕ
    cycle = cycle_of group t

    row : Counter
    row = record { group = group; cycle = cycle; blocks = count_in group cycle rows + blocks }

    own : counter_at (cycle_of group) after group cycle ≡ Some row
    own =
        let key : (group == group && cycle_of group t == cycle) ≡ true = own_cycle group cycle in
        let named : has_counter (cycle_of group) group cycle after ≡ true =
        names (cycle_of group) group cycle
        ∙ ap (λ x. x || has_counter (cycle_of group) group cycle ledger) key in
        let count : counter (cycle_of group) group cycle after
        ≡ count_in group cycle rows + blocks =
        counts (cycle_of group) group cycle
        ∙ (λ i. sym so_far i
        + counted_once (cycle_of group t == cycle) (group == group) blocks key i) in
        let same :
        (let r : Counter =
        record {
          group = group;
          cycle = cycle;
          blocks = counter (cycle_of group) group cycle after;
        } in r)
        ≡ row = λ i. record { group = group; cycle = cycle; blocks = count i } in
        λ i. (if named i then Some (same i) else None)

    by_test : (e : Bool) → is_cycle group cycle g c ≡ e →
        counter_in g c (put counter_before (is_counter group cycle) row rows)
        ≡ counter_at (cycle_of g) after g c
    by_test true q =
        let eg : group ≡ g = cycle_group group cycle g c q in
        let ec : cycle ≡ c = cycle_cycle group cycle g c q in
        (λ i. counter_in (sym eg i) (sym ec i)
        (put counter_before (is_counter group cycle) row rows))
        ∙ find-put counter_before (is_counter group cycle) row rows (own_cycle group cycle)
        ∙ sym own
        ∙ (λ i. counter_at (cycle_of (eg i)) after (eg i) (ec i))
    by_test false q =
        let key : (group == g && cycle_of g t == c) ≡ false =
        sym (same_cycle (λ x. cycle_of x t) group g c) ∙ q in
        let named : has_counter (cycle_of g) g c after ≡ has_counter (cycle_of g) g c ledger =
        names (cycle_of g) g c ∙ ap (λ x. x || has_counter (cycle_of g) g c ledger) key in
        let none : (if cycle_of g t == c then (if group == g then blocks else 0) else 0) ≡ 0 =
        not_counted (cycle_of g t == c) (group == g) blocks key in
        let count : counter (cycle_of g) g c after ≡ counter (cycle_of g) g c ledger =
        omega (arith, counts (cycle_of g) g c, none) in
        let same :
        (let r : Counter =
        record { group = g; cycle = c; blocks = counter (cycle_of g) g c after } in r)
        ≡ (let r : Counter =
        record { group = g; cycle = c; blocks = counter (cycle_of g) g c ledger } in r) =
        λ i. record { group = g; cycle = c; blocks = count i } in
        find-put_other counter_before (is_counter group cycle) (is_counter g c) row rows q
        (other_counter group cycle g c q)
        ∙ h g c
        ∙ sym (λ i. (if named i then Some (same i) else None))

counters-settled : (cycle_of : ℕ → ℕ → ℕ) (v : ℕ → ℕ) (t : ℕ) (session : List ℕ)
    (group units blocks : ℕ) (due : Due) (ledger : Ledger) (rows : List Counter) →
    count_in group (cycle_of group t) rows
    ≡ counter (cycle_of group) group (cycle_of group t) ledger →
    ((g c : ℕ) → counter_in g c rows ≡ counter_at (cycle_of g) ledger g c) →
    (g c : ℕ) →
    counter_in g c (with_count group (cycle_of group t) blocks rows)
    ≡ counter_at (cycle_of g) (settled v t session group units blocks due ledger) g c
counters-settled cycle_of v t session group units blocks due ledger rows so_far h =
    counters_used cycle_of t group blocks ledger
    (settled v t session group units blocks due ledger) rows
    (λ f g c. counter-settled f g c v t session group units blocks due ledger)
    (λ f g c. has_counter-settled f g c v t session group units blocks due ledger) so_far h

-- ---- the buckets' numbers

pub differs_above : (next n : ℕ) (rows : List BucketRow) → IsBelow next rows → next ≤ n →
    DiffersFromAll n rows
differs_above next n [] h le = tt
differs_above next n (b ∷ bs) h le = let less : b.number < next = h.0 in
    ((λ e. omega arith), differs_above next n bs h.1 le)

-- ---- sessions that aren't known

split_by : (p k : Bool) → one_if p ≡ one_if (p && not k) + one_if (p && k)
split_by true true = refl
split_by true false = refl
split_by false k = refl

held_part : (p k : List ℕ → ℕ → Bool) (n : ℕ) (ledger : Ledger) → held p n ledger ≡ 0 →
    held (λ s g. p s g && not (k s g)) n ledger ≡ 0
held_part p k n ledger h =
    omega (
      arith,
      held_split p (λ s g. p s g && not (k s g)) (λ s g. p s g && k s g) n ledger
          (λ s g. split_by (p s g) (k s g)),
    )

unknown-settled : (v : ℕ → ℕ) (t : ℕ) (session : List ℕ) (group units blocks : ℕ)
    (due : Due) (ledger : Ledger)
    (s : List ℕ) → IsUnknown s ledger →
    IsUnknown s (settled v t session group units blocks due ledger)
unknown-settled v t session group units blocks due ledger s h =
    let hs : List HeldAmount = parts_paid v t session group due ledger in
    let p : List ℕ → ℕ → Bool = λ x g. is_same x s in
    let k : List ℕ → ℕ → Bool = λ x g. is_same x session && g == group in
    record {
      closed = (same_sessions-settled v t session group units blocks due ledger).closed s
          ∙ h.closed;
      held = λ n. omega (
        arith,
        held-charge_facts (λ x g. p x g && not (k x g)) n t hs ledger,
        held_part p k n ledger (h.held n),
      );
      granted =
          λ g. grant_ended (is_key session group s g)
          (newest (grant_in s g) (charge_facts t hs ++ ledger))
          (ap inner
          (newest-front (grant_in s g) (charge_facts t hs) ledger
          (each_charge _ t hs (λ b n. refl))) ∙ h.granted g);
    }

unknown-ended : (t : ℕ) (session : List ℕ) (group : ℕ) (ledger : Ledger) (s : List ℕ) →
    IsUnknown s ledger → IsUnknown s (with_end t session group ledger)
unknown-ended t session group ledger s h =
    let p : List ℕ → ℕ → Bool = λ x g. is_same x s in
    let k : List ℕ → ℕ → Bool = λ x g. is_same x session && g == group in
    record {
      closed = h.closed;
      held = λ n. omega (arith, held_part p k n ledger (h.held n));
      granted =
          λ g. grant_ended (is_key session group s g) (newest (grant_in s g) ledger) (h.granted g);
    }

-- ---- the ledger stays sound

-- an account's buckets are made
pub made_in : (ledger : Ledger) (a : AccountRows) → IsAccount a → IsRowsOf ledger a →
    IsBelow (next_bucket ledger) (buckets_at (validity_of a.shelf) a.as_of ledger)
made_in ledger a account rows =
    subst (λ n. IsBelow n (buckets_at (validity_of a.shelf) a.as_of ledger)) rows.next_bucket
    (subst (IsBelow a.next_bucket) rows.buckets account.below)

pub IsSoundLedger-settled : (v : ℕ → ℕ) (t : ℕ) (session : List ℕ)
    (group units blocks : ℕ) (due : Due)
    (ledger : Ledger) → IsBelow (next_bucket ledger) (buckets_at v t ledger) →
    IsSoundLedger ledger → IsSoundLedger (settled v t session group units blocks due ledger)
IsSoundLedger-settled v t session group units blocks due ledger below sound =
    let now : List BucketRow = buckets_at v t ledger in
    let holds : List HeldAmount = holds_at v t session group ledger in
    let hs : List HeldAmount = parts (paid holds group t due now) now in
    let after : Ledger = settled v t session group units blocks due ledger in
    let same : SameSessions ledger after =
    same_sessions-settled v t session group units blocks due ledger in
    let next : next_bucket after ≡ next_bucket ledger =
    omega (arith, next_bucket-charges t hs ledger) in
    record {
      touched = same_touched ledger after same sound.touched;
      unknown =
          λ s e. unknown-settled v t session group units blocks due ledger s
          (sound.unknown s (sym (same.recording s) ∙ e));
      fresh = λ n le.
          let made : next_bucket ledger ≤ n = subst (λ (m : ℕ). m ≤ n) next le in
          omega (
            arith,
            charged-charge_facts n t hs ledger,
            sum_at_none (paid holds group t due now) n now
                (differs_above (next_bucket ledger) n now below made),
            sound.fresh n made,
          );
      free = λ n counts le. omega (
        arith,
        held-charge_facts (λ s g. counts s g && not (is_same s session && g == group)) n t
            hs ledger,
        sound.free n (λ s g. counts s g && not (is_same s session && g == group))
            (subst (λ (m : ℕ). m ≤ n) next le),
      );
    }

pub IsSoundLedger-ended : (t : ℕ) (session : List ℕ) (group : ℕ) (ledger : Ledger) →
    IsSoundLedger ledger → IsSoundLedger (with_end t session group ledger)
IsSoundLedger-ended t session group ledger sound = record {
  touched = sound.touched;
  unknown = λ s e. unknown-ended t session group ledger s (sound.unknown s e);
  fresh = λ n le. omega (arith, sound.fresh n (omega (arith, le)));
  free = λ n counts le. omega (
    arith,
    sound.free n (λ s g. counts s g && not (is_same s session && g == group))
        (omega (arith, le)),
  );
}

-- ---- the rows of the ledger with the settlement

pub IsRowsOf-settled : (ledger : Ledger) (a : AccountRows) (session : List ℕ)
    (group units blocks : ℕ) (due : Due) →
    IsAccount a → IsRowsOf ledger a → is_live (validity_of a.shelf) a.as_of ledger session ≡ true →
    IsRowsOf (settled (validity_of a.shelf) a.as_of session group units blocks due ledger)
    (settled_account session group units blocks due a)
IsRowsOf-settled ledger a session group units blocks due account rows live =
    let v : ℕ → ℕ = (validity_of a.shelf) in
    let t : ℕ = a.as_of in
    let after : Ledger = settled v t session group units blocks due ledger in
    let now : List BucketRow = buckets_at v t ledger in
    let holds : List HeldAmount = holds_at v t session group ledger in
    let hs : List HeldAmount = parts (paid holds group t due now) now in
    let sound : IsSound now = subst IsSound rows.buckets account.sound in
    let same : SameSessions ledger after =
    same_sessions-settled v t session group units blocks due ledger in
    let moved : buckets_at v t after ≡ settled_rows holds group t due now =
    buckets_at-settled v t session group units blocks due ledger live sound.balanced
    sound.distinct in
    let held_is : reserved_in session group a.groups ≡ holds =
    reserved_in_is ledger a session group account rows live in
    let is_moved : IsMoved (settled_row holds group t due now) v t ledger after =
    record { rows = moved; number = settled_number holds group t due now } in
    record {
      barred = rows.barred
          ∙ sym (is_barred-front (charge_facts t hs) ledger (each_charge _ t hs (λ b n. refl)));
      buckets = (λ i. settled_rows (held_is i) group t due (rows.buckets i)) ∙ sym moved;
      sessions = λ s. rows.sessions s ∙ sym (same_session v t ledger after same s);
      groups = groups-settled v t session group units blocks due ledger
          (settled_row holds group t due now) a.groups is_moved
          (used_in_is ledger a session group rows) rows.groups;
      counters =
          counters-settled (cycle_at a.shelf) v t session group units blocks due ledger a.counters
          (count_in_is ledger a group (cycle_at a.shelf group t) rows) rows.counters;
      next_bucket = rows.next_bucket ∙ omega (arith, next_bucket-charges t hs ledger);
      next_charge =
          ap (λ n. n + 1) rows.next_charge ∙ omega (arith, next_charge-charges t hs ledger);
      sound = IsSoundLedger-settled v t session group units blocks due ledger
          (made_in ledger a account rows) rows.sound;
    }

-- ---- the rows of the ledger with the reservation's end

ended_key : (t : Bool) (r : SessionGroup) (s : List ℕ) (g : ℕ) →
    is_of s g (if t then record r { reservation = None } else r) ≡ is_of s g r
ended_key true r s g = refl
ended_key false r s g = refl

groups-ended : (v : ℕ → ℕ) (t : ℕ) (session : List ℕ) (group : ℕ) (ledger : Ledger)
    (does : BucketRow → BucketRow)
    (rows : List SessionGroup) →
    IsMoved does v t ledger (with_end t session group ledger) →
    ((s : List ℕ) (g : ℕ) → group_in s g rows ≡ group_at v t ledger s g) →
    (s : List ℕ) (g : ℕ) →
    group_in s g (map (ended_group session group) rows)
    ≡ group_at v t (with_end t session group ledger) s g
groups-ended v t session group ledger does rows moved h s g =
    find-map (is_of s g) (ended_group session group) rows
    (λ r. ended_key (is_of session group r) r s g)
    ∙ ap (option_map (ended_group session group)) (h s g)
    ∙ by_test (is_key session group s g) refl
  where
    after : Ledger
    after = with_end t session group ledger

    old : SessionGroup
    old = record {
      session = s;
      group = g;
      used = used s g ledger;
      reservation = reservation_at v t ledger s g;
    }

    ended : (n : Bool) (k : Bool) → is_of session group old ≡ k →
        option_map (ended_group session group) (if n then Some old else None)
        ≡ (if n then Some (if k then record old { reservation = None } else old) else None)
    ended true k e = λ i. Some (if e i then record old { reservation = None } else old)
    ended false k e = refl

    by_test : (e : Bool) → is_key session group s g ≡ e →
        option_map (ended_group session group) (group_at v t ledger s g) ≡ group_at v t after s g
    by_test true q =
        let key : is_of session group old ≡ true =
        key_of s g session group (sym (key_session session group s g q))
        (sym (key_group session group s g q)) in
        let so_far : used s g after ≡ used s g ledger = omega arith in
        let none : reservation_at v t after s g ≡ None =
        either_none (is_live v t after s) (holds_at v t s g after) (newest (grant_in s g) after)
        (λ i. or_else (if q i then Some None else None) (newest (grant_in s g) ledger)) in
        let row :
        (let r : SessionGroup =
        record { session = s; group = g; used = used s g ledger; reservation = None } in r)
        ≡ (let r : SessionGroup =
        record {
          session = s;
          group = g;
          used = used s g after;
          reservation = reservation_at v t after s g;
        } in r) =
        λ i. record { session = s; group = g; used = sym so_far i; reservation = sym none i } in
        ended (has_group s g ledger) true key
        ∙ (λ i. (if has_group s g ledger then Some (row i) else None))
    by_test false q =
        let key : is_of session group old ≡ false =
        not_true (is_of session group old)
        (λ e. let same : is_key session group s g
        ≡ true = key_of session group s g (sym (key_session s g session group e))
        (sym (key_group s g session group e)) in cc) in
        let others : SameGroup s g ledger after = record {
          named = refl;
          used = omega arith;
          grant = λ i. inner
              (or_else (if q i then Some None else None) (newest (grant_in s g) ledger));
          held = λ n. omega (
            arith,
            held_same (λ a b. only s g a b && not (is_same a session && b == group))
                (only s g) n ledger (ended_other session group s g q),
          );
        } in
        ended (has_group s g ledger) false key
        ∙ sym (same_group does v t ledger after s g moved
        (same_sessions-ended t session group ledger) others)

counter_ended : (f : ℕ → ℕ) (t : ℕ) (session : List ℕ) (group : ℕ) (ledger : Ledger) (g c : ℕ) →
    counter_at f ledger g c ≡ counter_at f (with_end t session group ledger) g c
counter_ended f t session group ledger g c =
    let count : counter f g c ledger ≡ counter f g c (with_end t session group ledger) =
    omega (arith, if_none (f t == c)) in
    let same : (let r : Counter = record { group = g; cycle = c; blocks = counter f g c ledger } in
    r) ≡ (let r : Counter =
    record { group = g; cycle = c; blocks = counter f g c (with_end t session group ledger) } in
    r) = λ i. record { group = g; cycle = c; blocks = count i } in
    λ i. (if has_counter f g c ledger then Some (same i) else None)

pub IsRowsOf-ended : (ledger : Ledger) (a : AccountRows) (session : List ℕ) (group : ℕ) →
    IsAccount a → IsRowsOf ledger a → is_live (validity_of a.shelf) a.as_of ledger session ≡ true →
    IsRowsOf (with_end a.as_of session group ledger) (ended_rows session group a)
IsRowsOf-ended ledger a session group account rows live =
    let v : ℕ → ℕ = (validity_of a.shelf) in
    let t : ℕ = a.as_of in
    let after : Ledger = with_end t session group ledger in
    let now : List BucketRow = buckets_at v t ledger in
    let holds : List HeldAmount = holds_at v t session group ledger in
    let sound : IsSound now = subst IsSound rows.buckets account.sound in
    let same : SameSessions ledger after = same_sessions-ended t session group ledger in
    let moved : buckets_at v t after ≡ released_rows holds t now =
    buckets_at-ended v t session group ledger live sound.balanced sound.distinct in
    let held_is : reserved_in session group a.groups ≡ holds =
    reserved_in_is ledger a session group account rows live in
    let is_moved : IsMoved (λ b. with_release t b (held_in holds b)) v t ledger after =
    record { rows = moved; number = λ b. with_release_number t b (held_in holds b) } in
    record {
      barred = rows.barred;
      buckets = (λ i. released_rows (held_is i) t (rows.buckets i)) ∙ sym moved;
      sessions = λ s. rows.sessions s ∙ sym (same_session v t ledger after same s);
      groups = groups-ended v t session group ledger (λ b. with_release t b (held_in holds b))
          a.groups is_moved rows.groups;
      counters =
          λ g c. rows.counters g c ∙ counter_ended (cycle_at a.shelf g) t session group ledger g c;
      next_bucket = rows.next_bucket ∙ omega arith;
      next_charge = rows.next_charge ∙ omega arith;
      sound = IsSoundLedger-ended t session group ledger rows.sound;
    }

-- ---- a report's settlement

pub IsSoundLedger-settled_by : (b : Shelf) (t : ℕ) (session : List ℕ) (group : ℕ)
    (used_parts : List UsedPart) (ledger : Ledger) →
    IsBelow (next_bucket ledger) (buckets_at (validity_of b) t ledger) → IsSoundLedger ledger →
    IsSoundLedger (settled_by b t session group used_parts ledger)
IsSoundLedger-settled_by b t session group [] ledger below sound =
    IsSoundLedger-ended t session group ledger sound
IsSoundLedger-settled_by b t session group (p ∷ ps) ledger below sound =
    IsSoundLedger-settled (validity_of b) t session group (reported (p ∷ ps))
    (report_price b t session group (p ∷ ps) ledger).blocks
    (due_of (report_price b t session group (p ∷ ps) ledger)) ledger below sound

-- the blocks that may cover a report are by the rows what they are by the ledger
coverable_in_is : (ledger : Ledger) (a : AccountRows) (s : List ℕ) (g : ℕ) → IsAccount a →
    IsRowsOf ledger a → is_live (validity_of a.shelf) a.as_of ledger s ≡ true →
    coverable_in s g a.as_of a ≡ coverable (validity_of a.shelf) a.as_of s g ledger
coverable_in_is ledger a s g account rows live =
    let now : a.as_of ≤ a.as_of = omega arith in
    λ i. held_sum Blocks (reserved_in_is ledger a s g account rows live i) (rows.buckets i)
    + allowance g a.as_of ((IsRowsOf-advanced ledger a a.as_of account rows now).buckets i)

-- a report costs by the rows what it costs by the ledger
pub price_in_is : (ledger : Ledger) (a : AccountRows) (s : List ℕ) (g : ℕ)
    (used_parts : List UsedPart) → IsAccount a → IsRowsOf ledger a →
    is_live (validity_of a.shelf) a.as_of ledger s ≡ true →
    price_in s g a.as_of used_parts a ≡ report_price a.shelf a.as_of s g used_parts ledger
price_in_is ledger a s g used_parts account rows live =
    λ i. price_of a.shelf a.as_of g (periods_in_is ledger a s g rows live i)
    (used_in_is ledger a s g rows i) (count_in_is ledger a g (cycle_at a.shelf g a.as_of) rows i)
    (coverable_in_is ledger a s g account rows live i) used_parts

-- rule: settle-order
pub IsRowsOf-settled_by : (ledger : Ledger) (a : AccountRows) (session : List ℕ) (group : ℕ)
    (used_parts : List UsedPart) →
    IsAccount a → IsRowsOf ledger a → is_live (validity_of a.shelf) a.as_of ledger session ≡ true →
    IsRowsOf (settled_by a.shelf a.as_of session group used_parts ledger)
    (settled_by_rows session group used_parts a)
IsRowsOf-settled_by ledger a session group [] account rows live =
    IsRowsOf-ended ledger a session group account rows live
IsRowsOf-settled_by ledger a session group (p ∷ ps) account rows live =
    let cost : price_in session group a.as_of (p ∷ ps) a
    ≡ report_price a.shelf a.as_of session group (p ∷ ps) ledger =
    price_in_is ledger a session group (p ∷ ps) account rows live in
    let x : Rated = price_in session group a.as_of (p ∷ ps) a in
    subst (λ (y : Rated). IsRowsOf
    (settled (validity_of a.shelf) a.as_of session group (reported (p ∷ ps)) y.blocks (due_of y)
    ledger) (settled_by_rows session group (p ∷ ps) a)) cost
    (IsRowsOf-settled ledger a session group (reported (p ∷ ps)) x.blocks (due_of x) account rows
    live)
