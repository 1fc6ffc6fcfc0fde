-- Buckets out of their time or of another group give nothing.
use Rattle.std.proofs.Common.{◌≡◌, ℕ, Bool, true, false, List, refl, ap}
use Rattle.std.proofs.Common.{arith, inl, inr}
use Rattle.std.specs.Prelude.{if◌then◌else◌, nat_lt, nat_le, ◌&&◌}
use Rattle.std.proofs.lemmas.Bool.{le-ltb, lt-leb}
use Rattle.buckets.specs.declared.kind.Due.{Due}
use Rattle.buckets.specs.Row.{BucketRow, covers, is_eligible, eligible_amount}
use Rattle.buckets.specs.Share.{share}
use Rattle.buckets.specs.Holding.{unheld}
use Rattle.buckets.specs.Laws.{IsOutOfUse, IsUsedInItsTime}

one_fails : (begun left covered : Bool) → begun ≡ false → begun && left && covered ≡ false
one_fails begun left covered e = ap (λ t. t && left && covered) e

two_fails : (begun left covered : Bool) → left ≡ false → begun && left && covered ≡ false
two_fails true left covered e = ap (λ t. t && covered) e
two_fails false left covered e = refl

three_fail : (begun left covered : Bool) → covered ≡ false → begun && left && covered ≡ false
three_fail true true covered e = e
three_fail true false covered e = refl
three_fail false left covered e = refl

not_eligible : (group at : ℕ) (b : BucketRow) → IsOutOfUse group at b →
    is_eligible group at b ≡ false
not_eligible group at b (inl ended) =
    two_fails (nat_le b.from at) (nat_lt at b.until) (covers b.scope group)
    (le-ltb at b.until ended)
not_eligible group at b (inr (inl early)) =
    one_fails (nat_le b.from at) (nat_lt at b.until) (covers b.scope group)
    (lt-leb b.from at early)
not_eligible group at b (inr (inr other)) =
    three_fail (nat_le b.from at) (nat_lt at b.until) (covers b.scope group) other

nothing : (group at : ℕ) (b : BucketRow) → IsOutOfUse group at b → eligible_amount group at b ≡ 0
nothing group at b h = λ i. if not_eligible group at b h i then b.available else 0

no_share : (group at : ℕ) (due : Due) (rows : List BucketRow) (b : BucketRow) →
    IsOutOfUse group at b →
    share (eligible_amount group at) rows due b ≡ 0
no_share group at due rows b h = omega (arith, nothing group at b h)

-- rule: eligible.used-in-its-time
pub used_in_its_time : IsUsedInItsTime
used_in_its_time holds group at due rows b h =
    record {
      held = no_share group at due rows b h;
      paid = omega (arith, no_share group at (unheld holds due rows) rows b h);
    }
