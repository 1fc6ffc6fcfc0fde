-- The limits of a report's stored numbers, before and after the settlement of another group of its
-- session.
use Rattle.std.proofs.Common.{◌≡◌, ℕ, ◌+◌, Bool, true, false, List, [], ◌∷◌, refl, ap, ◌∙◌, arith}
use Rattle.std.proofs.Common.{Option, Some, None}
use Rattle.std.specs.Prelude.{if◌then◌else◌, ◌==◌, ◌&&◌, unwrap_or}
use Rattle.std.proofs.Math.Bool.{and-false}
use Rattle.units.specs.declared.blocks.UsedPart.{UsedPart}
use Rattle.tariffs.specs.Tariffs.{GroupTariff}
use Rattle.shelves.specs.Shelves.{Shelf, tariff_in}
use Rattle.rating.specs.declared.grant.Periods.{Periods}
use Rattle.rating.specs.declared.report.Rated.{Rated}
use Rattle.buckets.specs.declared.kind.Due.{Due}
use Rattle.ledger.specs.Ledger.{Ledger, is_same, used, counter, open_grant, next_charge}
use Rattle.ledger.specs.Parts.{uses_in}
use Rattle.ledger.specs.Ledger.{inner, or_else, newest}
use Rattle.ledger.specs.Parts.{grant_in}
use Rattle.ledger.specs.Pricing.{cycle_at, validity_of, terms_now, rated_with}
use Rattle.ledger.specs.Settlement.{charge_facts, settled, settled_by, reported, price_of, due_of}
use Rattle.ledger.specs.Settlement.{coverable, report_price, passes, passes_limit, passes_after}
use Rattle.ledger.specs.Settlement.{charge_count}
use Rattle.reserving.proofs.Keys.{is_key}
use Rattle.ledger.proofs.Fronts.{total-front, each_charge}
use Rattle.reserving.proofs.SettledRows.{other_settled, counter-settled, parts_paid, if_none}

-- another group of the same session
pub other_key : (s : List ℕ) (h g : ℕ) → (h == g) ≡ false → is_key s h s g ≡ false
other_key s h g e = ap (λ t. is_same s s && t) e ∙ and-false (is_same s s)

none_counted : (t u : Bool) (n : ℕ) → u ≡ false → (if t then (if u then n else 0) else 0) ≡ 0
none_counted true u n e = rw e refl
none_counted false u n e = refl

next_settled : (v : ℕ → ℕ) (t : ℕ) (s : List ℕ) (g units blocks : ℕ) (due : Due) (ledger : Ledger) →
    next_charge (settled v t s g units blocks due ledger) ≡ next_charge ledger + 1
next_settled v t s g units blocks due ledger =
    omega (
      arith,
      total-front (λ d. uses_in d.fact) (charge_facts t (parts_paid v t s g due ledger)) ledger
          (each_charge _ t (parts_paid v t s g due ledger) (λ b n. refl)),
    )

-- what the settlement of another group leaves of all that limits a report
record IsBefore (b : Shelf) (t : ℕ) (s : List ℕ) (g charges : ℕ) (ledger after : Ledger) : Type 0
  where
    pub used : used s g after ≡ used s g ledger
    pub count : counter (cycle_at b g) g (cycle_at b g t) after
        ≡ counter (cycle_at b g) g (cycle_at b g t) ledger
    pub grant : open_grant s g after ≡ open_grant s g ledger
    pub next : next_charge after ≡ next_charge ledger + charges

before_other : (b : Shelf) (t : ℕ) (s : List ℕ) (g h : ℕ) (parts : List UsedPart)
    (ledger : Ledger) →
    (h == g) ≡ false →
    IsBefore b t s g (charge_count parts) ledger (settled_by b t s h parts ledger)
before_other b t s g h [] ledger e =
    let key : is_key s h s g ≡ false = other_key s h g e in
    record {
      used = omega arith;
      count = omega (arith, if_none (cycle_at b g t == cycle_at b g t));
      grant = λ i. inner
          (or_else (if key i then Some None else None) (newest (grant_in s g) ledger));
      next = omega arith;
    }
before_other b t s g h (p ∷ ps) ledger e =
    let key : is_key s h s g ≡ false = other_key s h g e in
    let price : Rated = report_price b t s h (p ∷ ps) ledger in
    let same =
    other_settled (validity_of b) t s h (reported (p ∷ ps)) price.blocks (due_of price) ledger s g
    key in
    let cycle : ℕ = cycle_at b g t in
    record {
      used = same.used;
      count = omega (
        arith,
        counter-settled (cycle_at b g) g cycle (validity_of b) t s h (reported (p ∷ ps))
            price.blocks (due_of price) ledger,
        none_counted (cycle == cycle) (h == g) price.blocks e,
      );
      grant = same.grant;
      next = next_settled (validity_of b) t s h (reported (p ∷ ps)) price.blocks
          (due_of price) ledger;
    }

-- what is covered of a report's blocks doesn't say how many they are
pub blocks_alike : (o : Option GroupTariff) (p : Periods) (before place c d : ℕ)
    (parts : List UsedPart) →
    (rated_with o p before place c parts).blocks ≡ (rated_with o p before place d parts).blocks
blocks_alike None p before place c d parts = refl
blocks_alike (Some x) p before place c d parts = refl

-- so it passes a limit after the settlement where it did before, behind the settlement's charge
pub passes_after-other : (charges : ℕ) (b : Shelf) (t : ℕ) (s : List ℕ) (g : ℕ)
    (parts : List UsedPart) (h : ℕ) (others : List UsedPart) (ledger : Ledger) → (h == g) ≡ false →
    passes_after charges b t s g parts (settled_by b t s h others ledger)
    ≡ passes_after (charge_count others + charges) b t s g parts ledger
passes_after-other charges b t s g [] h others ledger e = refl
passes_after-other charges b t s g (p ∷ ps) h others ledger e =
    let k : IsBefore b t s g (charge_count others) ledger (settled_by b t s h others ledger) =
    before_other b t s g h others ledger e in
    let next : next_charge (settled_by b t s h others ledger) + charges
    ≡ next_charge ledger + (charge_count others + charges) = omega (arith, k.next) in
    (λ i. passes (k.used i) (reported (p ∷ ps)) (k.count i)
    (price_of b t g (k.grant i) (k.used i) (k.count i)
    (coverable (validity_of b) t s g (settled_by b t s h others ledger)) (p ∷ ps)).blocks (next i))
    ∙ ap (λ n. passes (used s g ledger) (reported (p ∷ ps))
    (counter (cycle_at b g) g (cycle_at b g t) ledger) n
    (next_charge ledger + (charge_count others + charges)))
    (blocks_alike (tariff_in b (unwrap_or (open_grant s g ledger) (terms_now b t)).book g) _
    (used s g ledger) _
    (coverable (validity_of b) t s g (settled_by b t s h others ledger))
    (coverable (validity_of b) t s g ledger) (p ∷ ps))

pub passes_after-none : (b : Shelf) (t : ℕ) (s : List ℕ) (g : ℕ) (parts : List UsedPart)
    (ledger : Ledger) → passes_after 0 b t s g parts ledger ≡ passes_limit b t s g parts ledger
passes_after-none b t s g [] ledger = refl
passes_after-none b t s g (p ∷ ps) ledger =
    let next : next_charge ledger + 0 ≡ next_charge ledger = omega arith in
    λ i. passes (used s g ledger) (reported (p ∷ ps))
    (counter (cycle_at b g) g (cycle_at b g t) ledger)
    (report_price b t s g (p ∷ ps) ledger).blocks (next i)
