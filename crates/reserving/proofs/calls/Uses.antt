-- A report's use as it is counted: the blocks that it starts whatever is covered of them, and what
-- the settlement of another group leaves of it.
use Rattle.std.proofs.Common.{◌≡◌, ℕ, ◌+◌, ◌<◌, Bool, true, false, List, [], ◌∷◌, map, refl, sym, ap}
use Rattle.std.proofs.Common.{◌∙◌, arith, Option, Some, None, subst}
use Rattle.std.specs.Prelude.{◌==◌, ◌&&◌, if◌then◌else◌, option_map, unwrap_or}
use Rattle.std.proofs.lemmas.Option.{none-some, same_Some}
use Rattle.units.specs.declared.blocks.UsedPart.{UsedPart}
use Rattle.units.specs.declared.blocks.TariffChangeUsage.TheVariants.{UnitBeforeTariffChange}
use Rattle.units.specs.declared.blocks.TariffChangeUsage.TheVariants.{UnitAfterTariffChange}
use Rattle.units.specs.declared.blocks.TariffChangeUsage.TheVariants.{UnitIndeterminate}
use Rattle.units.specs.Blocks.{started}
use Rattle.units.proofs.Started.{started-add}
use Rattle.tariffs.specs.Tariffs.{GroupTariff}
use Rattle.tariffs.specs.GroupPrices.{GroupPrices}
use Rattle.shelves.specs.Shelves.{tariff_in}
use Rattle.rating.specs.declared.grant.Periods.{Periods}
use Rattle.rating.specs.Rated.{report_blocks}
use Rattle.ledger.specs.Pricing.{prices_by, rated_with, four_parts, units_of}
use Rattle.ledger.specs.Pricing.{cycle_at, terms_now, validity_of}
use Rattle.ledger.specs.Settlement.{reported, price_of, passes, charge_count}
use Rattle.reserving.specs.declared.session.SessionGroup.{SessionGroup}
use Rattle.reserving.specs.declared.session.Reservation.{Reservation}
use Rattle.reserving.specs.declared.session.Counter.{Counter}
use Rattle.reserving.specs.declared.settle.CountedUse.{CountedUse}
use Rattle.reserving.specs.Sessions.{is_of, group_in, is_counter, is_live_in}
use Rattle.reserving.specs.Sessions.{group_before, counter_before}
use Rattle.reserving.specs.Rows.{AccountRows}
use Rattle.reserving.specs.Placed.{AreOfShelf}
use Rattle.reserving.specs.Changes.{advanced, ended_group, new_group, lapse_group, used_in, terms_in}
use Rattle.reserving.specs.Changes.{count_in, coverable_in, price_in, passes_in, settled_by_rows}
use Rattle.reserving.specs.Changes.{with_use, with_count}
use Rattle.reserving.specs.Uses.{IsCountedUse, IsUseOf, charged_more, LeavesUses}
use Rattle.reserving.proofs.Lists.{find-map, find-passes, find-put_other}
use Rattle.reserving.proofs.Keys.{other_row, is_key-sym, is_cycle, other_counter}
use Rattle.reserving.proofs.Reported.{reported_is}
use Rattle.reserving.proofs.PassedLimits.{blocks_alike, other_key}
use Rattle.reserving.proofs.calls.RowParts.{used_later, periods_later}
use Rattle.reserving.proofs.calls.Limits.{passes_in_some}

-- ---- the blocks of a report

-- its parts start what its units start as one
four_started : (block used a b c d : ℕ) → 0 < block →
    report_blocks block used (four_parts a b c d) ≡ started used (a + b + c + d) block
unfolding report_blocks
four_started block used a b c d h =
    let one : used + (a + b + c) ≡ used + a + b + c = omega arith in
    let two : used + (a + b) ≡ used + a + b = omega arith in
    omega (
      arith,
      started-add used (a + b + c) d block h,
      started-add used (a + b) c block h,
      started-add used a b block h,
      ap (λ n. started n d block) one,
      ap (λ n. started n c block) two,
    )

pub priced_blocks : (o : Option GroupTariff) (periods : Periods) (p : GroupPrices)
    (used place covered units : ℕ) (used_parts : List UsedPart) →
    option_map (λ x. prices_by x periods) o ≡ Some p → 0 < p.tariff.block →
    reported used_parts ≡ units →
    started used units p.tariff.block ≡ (rated_with o periods used place covered used_parts).blocks
priced_blocks None periods p used place covered units used_parts e some r =
    absurd (none-some p e)
priced_blocks (Some x) periods p used place covered units used_parts e some r =
    let same : prices_by x periods ≡ p = same_Some (prices_by x periods) p e in
    let block : x.block ≡ p.tariff.block = ap (λ (y : GroupPrices). y.tariff.block) same in
    let all : units_of None used_parts + units_of (Some UnitBeforeTariffChange) used_parts
    + units_of (Some UnitIndeterminate) used_parts + units_of (Some UnitAfterTariffChange) used_parts
    ≡ units = reported_is used_parts ∙ r in
    (λ i. started used (sym all i) (sym block i))
    ∙ sym (four_started x.block used (units_of None used_parts)
    (units_of (Some UnitBeforeTariffChange) used_parts)
    (units_of (Some UnitIndeterminate) used_parts) (units_of (Some UnitAfterTariffChange) used_parts)
    (subst (λ n. 0 < n) (sym block) some))

-- ---- a use that is settled next

pub none_more : (a : AccountRows) → charged_more 0 a ≡ a
none_more a =
    let next : a.next_charge + 0 ≡ a.next_charge = omega arith in λ i. record a { next_charge = next i }

-- what is counted with no charge before it stays within the limits
pub within_now : (s : List ℕ) (g t : ℕ) (used_parts : List UsedPart) (a : AccountRows)
    (u : CountedUse) → IsCountedUse s g used_parts 0 t a u → passes_in s g t used_parts a ≡ false
within_now s g t used_parts a u h =
    subst (λ x. passes_in s g t used_parts x ≡ false) (none_more a) h.within

pub limits_now : (s : List ℕ) (g t : ℕ) (used_parts : List UsedPart) (a : AccountRows)
    (u : CountedUse) → IsCountedUse s g used_parts 0 t a u →
    passes (used_in s g a.groups) (reported used_parts)
    (count_in g (cycle_at a.shelf g t) a.counters) (price_in s g t used_parts a).blocks
    a.next_charge ≡ false
limits_now s g t used_parts a u h =
    sym (passes_in_some s g t used_parts a h.some) ∙ within_now s g t used_parts a u h

-- ---- another group is settled

-- what it leaves of all that is counted of a use
record LeavesKey (s : List ℕ) (g charges t : ℕ) (a after : AccountRows) : Type 0 where
  pub shelf : after.shelf ≡ a.shelf
  pub used : used_in s g after.groups ≡ used_in s g a.groups
  pub terms : terms_in s g after.groups ≡ terms_in s g a.groups
  pub count : count_in g (cycle_at a.shelf g t) after.counters
      ≡ count_in g (cycle_at a.shelf g t) a.counters
  pub next : after.next_charge ≡ a.next_charge + charges

ended_other : (s : List ℕ) (g h : ℕ) (rows : List SessionGroup) → (h == g) ≡ false →
    group_in s g (map (ended_group s h) rows) ≡ group_in s g rows
ended_other s g h rows e =
    find-map (is_of s g) (ended_group s h) rows keep ∙ by_row (group_in s g rows) refl
  where
    keep : (r : SessionGroup) → is_of s g (ended_group s h r) ≡ is_of s g r
    keep r = elim (is_of s h r) as
        (λ l. is_of s g (if l then record r { reservation = None } else r) ≡ is_of s g r)
        [ true ↦ refl | false ↦ refl ]

    away : (r : SessionGroup) → is_of s g r ≡ true → is_of s h r ≡ false
    away r own = other_row s g s h (is_key-sym s g s h ∙ other_key s h g e) r own

    by_row : (o : Option SessionGroup) → group_in s g rows ≡ o →
        option_map (ended_group s h) o ≡ o
    by_row None k = refl
    by_row (Some r) k =
        ap (λ l. Some (if l then record r { reservation = None } else r))
        (away r (find-passes (is_of s g) rows r k))

use_other : (s : List ℕ) (g h units : ℕ) (rows : List SessionGroup) → (h == g) ≡ false →
    group_in s g (with_use s h units rows) ≡ group_in s g rows
use_other s g h units rows e =
    find-put_other group_before (is_of s h) (is_of s g)
    (record { session = s; group = h; used = used_in s h rows + units; reservation = None }) rows
    (other_key s h g e) (other_row s h s g (other_key s h g e))

count_other : (g c h d blocks : ℕ) (rows : List Counter) → (h == g) ≡ false →
    count_in g c (with_count h d blocks rows) ≡ count_in g c rows
count_other g c h d blocks rows e =
    let away : is_cycle h d g c ≡ false = ap (λ b. b && (d == c)) e in
    ap (λ o. unwrap_or (option_map (λ (r : Counter). r.blocks) o) 0)
    (find-put_other counter_before (is_counter h d) (is_counter g c)
    (record { group = h; cycle = d; blocks = count_in h d rows + blocks }) rows
    away (other_counter h d g c away))

leaves_key : (s : List ℕ) (g h t : ℕ) (parts : List UsedPart) (a : AccountRows) → (h == g) ≡ false →
    is_live_in (validity_of a.shelf) t a.sessions s ≡ true →
    LeavesKey s g (charge_count parts) t a (settled_by_rows s h parts (advanced t a))
leaves_key s g h t [] a e live =
    let keeps : List ℕ → Bool = is_live_in (validity_of a.shelf) t a.sessions in
    let rows : List SessionGroup = map (lapse_group keeps) a.groups in
    let same : group_in s g (map (ended_group s h) rows) ≡ group_in s g rows =
    ended_other s g h rows e in
    record {
      shelf = refl;
      used = ap (λ o. (unwrap_or o (new_group s g)).used) same ∙ used_later keeps s g a.groups;
      terms =
          ap (λ o. option_map (λ (y : Reservation). y.terms)
          (unwrap_or o (new_group s g)).reservation) same
          ∙ periods_later keeps s g a.groups live;
      count = refl;
      next = omega arith;
    }
leaves_key s g h t (p ∷ ps) a e live =
    let keeps : List ℕ → Bool = is_live_in (validity_of a.shelf) t a.sessions in
    let rows : List SessionGroup = map (lapse_group keeps) a.groups in
    let same : group_in s g (with_use s h (reported (p ∷ ps)) rows) ≡ group_in s g rows =
    use_other s g h (reported (p ∷ ps)) rows e in
    record {
      shelf = refl;
      used = ap (λ o. (unwrap_or o (new_group s g)).used) same ∙ used_later keeps s g a.groups;
      terms =
          ap (λ o. option_map (λ (y : Reservation). y.terms)
          (unwrap_or o (new_group s g)).reservation) same
          ∙ periods_later keeps s g a.groups live;
      count =
          count_other g (cycle_at a.shelf g t) h (cycle_at a.shelf h t)
          (price_in s h t (p ∷ ps) (advanced t a)).blocks a.counters e;
      next = refl;
    }

same_count : (s : List ℕ) (g charges t : ℕ) (a after : AccountRows) →
    LeavesKey s g charges t a after →
    count_in g (cycle_at after.shelf g t) after.counters
    ≡ count_in g (cycle_at a.shelf g t) a.counters
same_count s g charges t a after k =
    ap (λ b. count_in g (cycle_at b g t) after.counters) k.shelf ∙ k.count

same_blocks : (s : List ℕ) (g charges t : ℕ) (used_parts : List UsedPart) (a after : AccountRows) →
    LeavesKey s g charges t a after →
    (price_in s g t used_parts after).blocks ≡ (price_in s g t used_parts a).blocks
same_blocks s g charges t used_parts a after k =
    (λ i. (price_of (k.shelf i) t g (k.terms i) (k.used i) (same_count s g charges t a after k i)
    (coverable_in s g t after) used_parts).blocks)
    ∙ blocks_alike
    (tariff_in a.shelf (unwrap_or (terms_in s g a.groups) (terms_now a.shelf t)).book g) _
    (used_in s g a.groups) _ (coverable_in s g t after) (coverable_in s g t a) used_parts

same_limits : (s : List ℕ) (g charges more t : ℕ) (used_parts : List UsedPart)
    (a after : AccountRows) → LeavesKey s g charges t a after →
    passes_in s g t used_parts (charged_more more after)
    ≡ passes_in s g t used_parts (charged_more (charges + more) a)
same_limits s g charges more t [] a after k = refl
same_limits s g charges more t (p ∷ ps) a after k =
    let next : after.next_charge + more ≡ a.next_charge + (charges + more) =
    omega (arith, k.next) in
    λ i. passes (k.used i) (reported (p ∷ ps)) (same_count s g charges t a after k i)
    (same_blocks s g charges t (p ∷ ps) a after k i) (next i)

-- what was counted is counted still, with the settlement's own charges behind it
-- rule: stored-limits
use_left : (s : List ℕ) (g charges more t : ℕ) (used_parts : List UsedPart) (a after : AccountRows)
    (u : Option CountedUse) → LeavesKey s g charges t a after →
    IsUseOf s g used_parts (charges + more) t a u → IsUseOf s g used_parts more t after u
use_left s g charges more t used_parts a after None k h = h
use_left s g charges more t used_parts a after (Some u) k h = record {
  some = h.some;
  counted = record {
    units = h.counted.units;
    used = h.counted.used ∙ sym k.used;
    cycle = h.counted.cycle ∙ ap (λ b. cycle_at b g t) (sym k.shelf);
    place = h.counted.place ∙ sym (same_count s g charges t a after k);
    terms = h.counted.terms ∙ (λ i. unwrap_or (sym k.terms i) (terms_now (sym k.shelf i) t));
    of_shelf = subst (λ b. AreOfShelf b u.terms) (sym k.shelf) h.counted.of_shelf;
    blocks = h.counted.blocks ∙ sym (same_blocks s g charges t used_parts a after k);
  };
  within = same_limits s g charges more t used_parts a after k ∙ h.within;
}

-- rule: stored-limits
pub leaves_uses : (s : List ℕ) (h t : ℕ) (parts : List UsedPart) (a after : AccountRows) →
    is_live_in (validity_of a.shelf) t a.sessions s ≡ true →
    after ≡ settled_by_rows s h parts (advanced t a) →
    LeavesUses s h (charge_count parts) t a after
leaves_uses s h t parts a after live rows g used_parts more u e is =
    use_left s g (charge_count parts) more t used_parts a after u
    (subst (LeavesKey s g (charge_count parts) t a) (sym rows) (leaves_key s g h t parts a e live))
    is
