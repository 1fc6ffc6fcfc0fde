-- A bucket of which nothing is available and nothing reserved, under what is done to buckets.
use Rattle.std.proofs.Common.{◌≡◌, ℕ, ◌+◌, ◌-◌, Bool, true, false, List, refl, sym, ap, ◌∙◌, arith}
use Rattle.std.specs.Prelude.{if◌then◌else◌, nat_lt, min}
use Rattle.buckets.specs.declared.holds.HeldAmount.{HeldAmount}
use Rattle.buckets.specs.Row.{BucketRow, eligible_amount, is_eligible, with_charge}
use Rattle.buckets.specs.Row.{with_charge_of_hold, with_release, with_end}
use Rattle.buckets.specs.Holding.{held_in, paid_of_hold, paid_of_rest, settled_row}
use Rattle.buckets.specs.declared.kind.Due.{Due}
use Rattle.ledger.specs.Laws.{IsDead}

pub if_zero : (t : Bool) (n : ℕ) → n ≡ 0 → (if t then n else 0) ≡ 0
if_zero true n e = e
if_zero false n e = refl

pub release_none : (at : ℕ) (b : BucketRow) (n : ℕ) → n ≡ 0 → with_release at b n ≡ b
release_none at b n e = ap (with_release at b) e ∙ by_end (nat_lt at b.until)
  where
    r : b.reserved - 0 ≡ b.reserved
    r = omega arith

    a : b.available + 0 ≡ b.available
    a = omega arith

    x : b.expired + 0 ≡ b.expired
    x = omega arith

    by_end : (t : Bool) →
        (if t then record b { reserved = b.reserved - 0; available = b.available + 0 }
        else record b { reserved = b.reserved - 0; expired = b.expired + 0 }) ≡ b
    by_end true = λ i. record b { reserved = r i; available = a i }
    by_end false = λ i. record b { reserved = r i; expired = x i }

pub end_dead : (at : ℕ) (b : BucketRow) → IsDead b → with_end at b ≡ b
end_dead at b d = by_end (nat_lt at b.until)
  where
    x : b.expired + b.available ≡ b.expired
    x = omega (arith, d.available)

    by_end : (t : Bool) →
        (if t then b else record b { available = 0; expired = b.expired + b.available }) ≡ b
    by_end true = refl
    by_end false = λ i. record b { available = sym d.available i; expired = x i }

pub min_none : (m n : ℕ) → m ≡ 0 → min m n ≡ 0
min_none m n e = omega (arith, e)

-- a dead bucket pays nothing
pub settled_dead : (holds : List HeldAmount) (group at : ℕ) (due : Due) (rows : List BucketRow)
    (b : BucketRow) →
    IsDead b → held_in holds b ≡ 0 → settled_row holds group at due rows b ≡ b
settled_dead holds group at due rows b dead none =
    let p : paid_of_hold holds due rows b ≡ 0 = min_none (held_in holds b) _ none in
    let q : paid_of_rest holds group at due rows b ≡ 0 =
    min_none (eligible_amount group at b) _
    (if_zero (is_eligible group at b) b.available dead.available) in
    let rest : held_in holds b - paid_of_hold holds due rows b ≡ 0 = omega (arith, none) in
    let r0 : b.reserved - 0 ≡ b.reserved = omega arith in
    let a0 : b.available - 0 ≡ b.available = omega arith in
    let c0 : b.charged + 0 + 0 ≡ b.charged = omega arith in
    (λ i. with_release at (with_charge (with_charge_of_hold b (p i)) (q i)) (rest i))
    ∙ release_none at (with_charge (with_charge_of_hold b 0) 0) 0 refl
    ∙ (λ i. record b { reserved = r0 i; available = a0 i; charged = c0 i })
