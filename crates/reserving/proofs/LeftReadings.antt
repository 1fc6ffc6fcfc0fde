-- What is read of an account beside the rows that were left: funds, prices, quotas and limits.
use Rattle.std.proofs.Common.{◌≡◌, ℕ, ◌+◌, ◌-◌, arith, ◌≤◌, true, false, List, [], ◌∷◌, refl, sym}
use Rattle.std.proofs.Common.{ap, subst, ◌∙◌, Option, None}
use Rattle.std.specs.Prelude.{option_map, nat_le}
use Rattle.units.specs.declared.blocks.UsedPart.{UsedPart}
use Rattle.buckets.specs.declared.holds.HeldAmount.{HeldAmount}
use Rattle.buckets.specs.Row.{BucketRow}
use Rattle.buckets.specs.Spend.{Each, funds, allowance}
use Rattle.buckets.specs.Holding.{held_in, uncollected}
use Rattle.rating.specs.declared.grant.Grant.{Grant}
use Rattle.rating.specs.declared.grant.Periods.{Periods}
use Rattle.buckets.specs.declared.kind.BucketKind.TheVariants.{Money}
use Rattle.buckets.specs.declared.kind.Due.{Due}
use Rattle.shelves.specs.Shelves.{book_at}
use Rattle.reserving.specs.declared.session.SessionGroup.{SessionGroup}
use Rattle.reserving.specs.declared.session.Reservation.{Reservation}
use Rattle.ledger.specs.Ledger.{Ledger, is_live, used, counter}
use Rattle.ledger.specs.Balance.{buckets_at}
use Rattle.ledger.specs.Pricing.{cycle_at, periods_at, validity_of, tariff_at, grant_with}
use Rattle.reserving.specs.Quotas.{IsQuota}
use Rattle.ledger.specs.Reservation.{grant_for}
use Rattle.reserving.specs.Sessions.{is_of, is_live_in}
use Rattle.ledger.specs.Settlement.{reported, price_of, passes, passes_limit, passes_after}
use Rattle.ledger.specs.Debiting.{untagged, event_price, rest_price, is_covered, debit_passes}
use Rattle.reserving.specs.Changes.{advanced, used_in, count_in, price_in, event_price_in}
use Rattle.reserving.specs.Changes.{rest_price_in, is_covered_in, passes_in, granted_in}
use Rattle.ledger.specs.Lists.{EachIn}
use Rattle.reserving.specs.Rows.{AccountRows}
use Rattle.ledger.specs.Laws.{IsDead}
use Rattle.reserving.specs.Left.{LeftRows, merged, joined, IsLeft, AreOfOtherCycles, IsWith}
use Rattle.reserving.proofs.Advancing.{IsRowsOf-advanced, is_live_in-is}
use Rattle.reserving.proofs.SettledRows.{used_in_is, count_in_is}
use Rattle.reserving.proofs.PassedLimits.{passes_after-none}
use Rattle.reserving.proofs.calls.Settled.{passes_after_is}
use Rattle.reserving.proofs.calls.Debited.{event_price_is, rest_price_is, debit_passes_is}
use Rattle.reserving.proofs.ReservedCall.{new_told, QuotaOf}
use Rattle.reserving.proofs.LeftMerged.{funds_merged, allowance_merged, sum_in-merged}
use Rattle.reserving.proofs.LeftFrames.{cover_same, live, not_of_live, row_same, count_beside}
use Rattle.reserving.proofs.LeftFrames.{advanced_joined}

-- ---- funds

pub funds_joined : (left : LeftRows) (a : AccountRows) (g t : ℕ) → IsLeft left a →
    funds g t (advanced t (joined left a)).buckets ≡ funds g t (advanced t a).buckets
funds_joined left a g t h =
    ap (λ (x : AccountRows). funds g t x.buckets) (advanced_joined t left a h)
    ∙ funds_merged g t left.buckets (advanced t a).buckets h.dead

pub funds_told : (ledger : Ledger) (left : LeftRows) (t : ℕ) (a : AccountRows) (g : ℕ) →
    a.as_of ≤ t → IsWith ledger left t a →
    funds g t (advanced t a).buckets ≡ funds g t (buckets_at (validity_of a.shelf) t ledger)
funds_told ledger left t a g le h =
    sym (funds_joined left a g t h.apart)
    ∙ ap (funds g t) (IsRowsOf-advanced ledger (joined left a) t h.apart.whole h.rows le).buckets

pub allowance_joined : (left : LeftRows) (a : AccountRows) (g t : ℕ) → IsLeft left a →
    allowance g t (advanced t (joined left a)).buckets ≡ allowance g t (advanced t a).buckets
allowance_joined left a g t h =
    ap (λ (x : AccountRows). allowance g t x.buckets) (advanced_joined t left a h)
    ∙ allowance_merged g t left.buckets (advanced t a).buckets h.dead

pub allowance_told : (ledger : Ledger) (left : LeftRows) (t : ℕ) (a : AccountRows) (g : ℕ) →
    a.as_of ≤ t → IsWith ledger left t a →
    allowance g t (advanced t a).buckets ≡ allowance g t (buckets_at (validity_of a.shelf) t ledger)
allowance_told ledger left t a g le h =
    sym (allowance_joined left a g t h.apart)
    ∙ ap (allowance g t) (IsRowsOf-advanced ledger (joined left a) t h.apart.whole
    h.rows le).buckets

-- ---- whether a session is live

pub live_told : (ledger : Ledger) (left : LeftRows) (t u : ℕ) (a : AccountRows) (s : List ℕ) →
    a.as_of ≤ u → IsWith ledger left t a →
    is_live_in (validity_of a.shelf) u a.sessions s ≡ is_live (validity_of a.shelf) u ledger s
live_told ledger left t u a s le h =
    sym (live left a h.apart u s) ∙ is_live_in-is ledger (joined left a) u s h.rows le

-- ---- an event

event_price_joined : (left : LeftRows) (a : AccountRows) (g covered units t : ℕ) →
    AreOfOtherCycles a.shelf t left.counters →
    event_price_in g covered units t (joined left a) ≡ event_price_in g covered units t a
event_price_joined left a g covered units t cycles =
    λ i. price_of a.shelf t g None 0 (count_beside a.shelf t g left.counters a.counters cycles i)
    covered (untagged units)

pub event_price_told : (ledger : Ledger) (left : LeftRows) (t : ℕ) (a : AccountRows)
    (g covered units : ℕ) → IsWith ledger left t a →
    event_price_in g covered units t a ≡ event_price a.shelf t g covered units ledger
event_price_told ledger left t a g covered units h =
    sym (event_price_joined left a g covered units t h.cycles)
    ∙ event_price_is ledger (joined left a) g covered units t h.rows

pub rest_price_joined : (left : LeftRows) (a : AccountRows) (g units t : ℕ) → IsLeft left a →
    AreOfOtherCycles a.shelf t left.counters →
    rest_price_in g units t (joined left a) ≡ rest_price_in g units t a
rest_price_joined left a g units t apart cycles =
    ap (λ n. event_price_in g n units t (joined left a)) (allowance_joined left a g t apart)
    ∙ event_price_joined left a g (allowance g t (advanced t a).buckets) units t cycles

pub rest_price_told : (ledger : Ledger) (left : LeftRows) (t : ℕ) (a : AccountRows) (g units : ℕ) →
    a.as_of ≤ t → IsWith ledger left t a →
    rest_price_in g units t a ≡ rest_price a.shelf t g units ledger
rest_price_told ledger left t a g units le h =
    sym (rest_price_joined left a g units t h.apart h.cycles)
    ∙ rest_price_is ledger (joined left a) g units t h.apart.whole h.rows le

pub used_joined : (left : LeftRows) (a : AccountRows) (s : List ℕ) (g : ℕ) → IsLeft left a →
    EachIn (λ r. is_of s g r ≡ false) left.groups →
    used_in s g (joined left a).groups ≡ used_in s g a.groups
used_joined left a s g h not_of = ap (λ (r : SessionGroup). r.used) (row_same left a h s g not_of)

pub debit_passes_told : (ledger : Ledger) (left : LeftRows) (t : ℕ) (a : AccountRows) (s : List ℕ)
    (g units : ℕ) → EachIn (λ r. is_of s g r ≡ false) left.groups → a.as_of ≤ t →
    IsWith ledger left t a →
    debit_passes a.shelf t s g units ledger
    ≡ passes (used_in s g a.groups) units (count_in g (cycle_at a.shelf g t) a.counters)
    (rest_price_in g units t a).blocks a.next_charge
debit_passes_told ledger left t a s g units not_of le h =
    debit_passes_is ledger (joined left a) s g units t h.apart.whole h.rows le
    ∙ (λ i. passes (used_joined left a s g h.apart not_of i) units
    (count_beside a.shelf t g left.counters a.counters h.cycles i)
    (rest_price_joined left a g units t h.apart h.cycles i).blocks a.next_charge)

pub covered_told : (ledger : Ledger) (left : LeftRows) (t : ℕ) (a : AccountRows) (g units : ℕ) →
    a.as_of ≤ t → IsWith ledger left t a →
    is_covered a.shelf t g units ledger ≡ is_covered_in g units t a
covered_told ledger left t a g units le h =
    λ i. nat_le (sym (rest_price_told ledger left t a g units le h) i).amount.0
    (sym (funds_told ledger left t a g le h) i)

-- ---- a report

pub price_joined : (left : LeftRows) (a : AccountRows) (s : List ℕ) (g t : ℕ)
    (used_parts : List UsedPart) → IsLeft left a → AreOfOtherCycles a.shelf t left.counters →
    EachIn (λ r. is_of s g r ≡ false) left.groups →
    price_in s g t used_parts (joined left a) ≡ price_in s g t used_parts a
price_joined left a s g t used_parts h cycles not_of =
    λ i. price_of a.shelf t g
    (option_map (λ (r : Reservation). r.terms) (row_same left a h s g not_of i).reservation)
    (row_same left a h s g not_of i).used
    (count_beside a.shelf t g left.counters a.counters cycles i)
    (cover_same left a h s g not_of t i) used_parts

pub passes_after_told : (charges : ℕ) (ledger : Ledger) (left : LeftRows) (t : ℕ) (a : AccountRows)
    (s : List ℕ) (g : ℕ) (used_parts : List UsedPart) → a.as_of ≤ t → IsWith ledger left t a →
    is_live_in (validity_of a.shelf) t a.sessions s ≡ true → (used_parts ≡ [] → ⊥) →
    passes_after charges a.shelf t s g used_parts ledger
    ≡ passes (used_in s g a.groups) (reported used_parts)
    (count_in g (cycle_at a.shelf g t) a.counters) (price_in s g t used_parts a).blocks
    (a.next_charge + charges)
passes_after_told charges ledger left t a s g used_parts le h alive some =
    let not_of : EachIn (λ r. is_of s g r ≡ false) left.groups =
    not_of_live left a t s g h.apart alive in
    passes_after_is charges ledger (joined left a) s g t used_parts h.apart.whole h.rows le
    (live left a h.apart t s ∙ alive) some
    ∙ (λ i. passes (used_joined left a s g h.apart not_of i) (reported used_parts)
    (count_beside a.shelf t g left.counters a.counters h.cycles i)
    (price_joined left a s g t used_parts h.apart h.cycles not_of i).blocks
    (a.next_charge + charges))

pub passes_told : (ledger : Ledger) (left : LeftRows) (t : ℕ) (a : AccountRows) (s : List ℕ) (g : ℕ)
    (used_parts : List UsedPart) → a.as_of ≤ t → IsWith ledger left t a →
    is_live_in (validity_of a.shelf) t a.sessions s ≡ true → (used_parts ≡ [] → ⊥) →
    passes_limit a.shelf t s g used_parts ledger
    ≡ passes (used_in s g a.groups) (reported used_parts)
    (count_in g (cycle_at a.shelf g t) a.counters) (price_in s g t used_parts a).blocks
    a.next_charge
passes_told ledger left t a s g used_parts le h alive some =
    let next : a.next_charge + 0 ≡ a.next_charge = omega arith in
    sym (passes_after-none a.shelf t s g used_parts ledger)
    ∙ passes_after_told 0 ledger left t a s g used_parts le h alive some
    ∙ ap (passes (used_in s g a.groups) (reported used_parts)
    (count_in g (cycle_at a.shelf g t) a.counters) (price_in s g t used_parts a).blocks) next

-- so it does by the rows
pub passes_in_told : (ledger : Ledger) (left : LeftRows) (t : ℕ) (a : AccountRows) (s : List ℕ)
    (g : ℕ) (used_parts : List UsedPart) → a.as_of ≤ t → IsWith ledger left t a →
    is_live_in (validity_of a.shelf) t a.sessions s ≡ true →
    passes_limit a.shelf t s g used_parts ledger ≡ passes_in s g t used_parts a
passes_in_told ledger left t a s g [] le h alive = refl
passes_in_told ledger left t a s g (p ∷ ps) le h alive =
    passes_told ledger left t a s g (p ∷ ps) le h alive (λ e. (let no : p ∷ ps ≡ [] = e in cc))

-- what is collected of an amount doesn't know of dead buckets
pub uncollected_merged : (holds : List HeldAmount) (g t : ℕ) (due : Due)
    (left rows : List BucketRow) →
    Each IsDead left → Each (λ b. held_in holds b ≡ 0) left →
    uncollected holds g t due.money (merged left rows) ≡ uncollected holds g t due.money rows
uncollected_merged holds g t due left rows dead none =
    λ i. due.money - sum_in-merged Money (held_in holds) left rows none i
    - funds_merged g t left rows dead i

-- ---- a quota

pub quota_joined : (left : LeftRows) (a : AccountRows) (used used' g t : ℕ) (requested : Option ℕ)
    (units : ℕ) (grant : Grant) → IsLeft left a → AreOfOtherCycles a.shelf t left.counters →
    used' ≡ used →
    IsQuota (book_at a.shelf t) used g requested (periods_at a.shelf t)
    (count_in g (cycle_at a.shelf g t) a.counters) (funds g t (advanced t a).buckets)
    (allowance g t (advanced t a).buckets) units grant
    →
    IsQuota (book_at a.shelf t) used' g requested (periods_at a.shelf t)
    (count_in g (cycle_at a.shelf g t) (joined left a).counters)
    (funds g t (advanced t (joined left a)).buckets)
    (allowance g t (advanced t (joined left a)).buckets) units grant
quota_joined left a used used' g t requested units grant h cycles e q =
    let p : Periods = periods_at a.shelf t in
    let c : ℕ = cycle_at a.shelf g t in
    subst (λ n. IsQuota (book_at a.shelf t) n g requested p (count_in g c (joined left a).counters)
    (funds g t (advanced t (joined left a)).buckets)
    (allowance g t (advanced t (joined left a)).buckets) units grant) (sym e)
    (subst (λ n. IsQuota (book_at a.shelf t) used g requested p n
    (funds g t (advanced t (joined left a)).buckets)
    (allowance g t (advanced t (joined left a)).buckets) units grant)
    (sym (count_beside a.shelf t g left.counters a.counters cycles))
    (subst (λ n. IsQuota (book_at a.shelf t) used g requested p (count_in g c a.counters)
    n
    (allowance g t (advanced t (joined left a)).buckets) units grant)
    (sym (funds_joined left a g t h))
    (subst (λ n. IsQuota (book_at a.shelf t) used g requested p (count_in g c a.counters)
    (funds g t (advanced t a).buckets) n units grant)
    (sym (allowance_joined left a g t h)) q)))

pub new_told_beside : (ledger : Ledger) (left : LeftRows) (t : ℕ) (a : AccountRows) (g : ℕ)
    (requested : Option ℕ) (units : ℕ) (grant : Grant) → a.as_of ≤ t → IsWith ledger left t a →
    IsQuota (book_at a.shelf t) 0 g requested (periods_at a.shelf t)
    (count_in g (cycle_at a.shelf g t) a.counters)
    (funds g t (advanced t a).buckets) (allowance g t (advanced t a).buckets) units grant →
    grant ≡ grant_for a.shelf t g 0 requested ledger
new_told_beside ledger left t a g requested units grant le h q =
    new_told ledger (joined left a) g t requested units grant h.apart.whole h.rows le
    (quota_joined left a 0 0 g t requested units grant h.apart h.cycles refl q)

pub quota_of_joined : (left : LeftRows) (a : AccountRows) (s : List ℕ) (g t : ℕ)
    (requested : Option ℕ) (units : ℕ) (grant : Grant) → IsLeft left a →
    AreOfOtherCycles a.shelf t left.counters → EachIn (λ r. is_of s g r ≡ false) left.groups →
    QuotaOf a s g t requested units grant → QuotaOf (joined left a) s g t requested units grant
quota_of_joined left a s g t requested units grant h cycles not_of q =
    quota_joined left a (used_in s g a.groups) (used_in s g (joined left a).groups) g t requested
    units grant h cycles (used_joined left a s g h not_of) q

-- what is granted by the rows is what is granted of the ledger
pub granted_told : (ledger : Ledger) (left : LeftRows) (t : ℕ) (a : AccountRows) (s : List ℕ)
    (g : ℕ) (requested : Option ℕ) → a.as_of ≤ t → IsWith ledger left t a →
    is_live_in (validity_of a.shelf) t a.sessions s ≡ true →
    granted_in s g t requested a ≡ grant_for a.shelf t g (used s g ledger) requested ledger
granted_told ledger left t a s g requested le h alive =
    let not_of : EachIn (λ r. is_of s g r ≡ false) left.groups =
    not_of_live left a t s g h.apart alive in
    let before : used_in s g a.groups ≡ used s g ledger =
    sym (used_joined left a s g h.apart not_of) ∙ used_in_is ledger (joined left a) s g h.rows in
    let cycle : ℕ = cycle_at a.shelf g t in
    let count : count_in g cycle a.counters ≡ counter (cycle_at a.shelf g) g cycle ledger =
    sym (count_beside a.shelf t g left.counters a.counters h.cycles)
    ∙ count_in_is ledger (joined left a) g cycle h.rows in
    λ i. grant_with (tariff_at a.shelf t g) (periods_at a.shelf t) (before i) (count i) requested
    (funds_told ledger left t a g le h i) (allowance_told ledger left t a g le h i)
