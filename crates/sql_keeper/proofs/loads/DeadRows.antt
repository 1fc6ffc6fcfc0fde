-- The dead buckets of an account, by rows that rise.
use Rattle.std.proofs.Common.{◌≡◌, ◌<◌, ◌≤◌, ℕ, zero, suc, ◌==◌, List, [], ◌∷◌, length, Bool, true}
use Rattle.std.proofs.Common.{false, not, ◌||◌, ◌&&◌}
use Rattle.std.proofs.Common.{Option, Some, None, refl, ap}
use Rattle.std.proofs.Common.{arith, nat_lt, ltb-true, ltb-false, eqb-true}
use Rattle.std.proofs.lemmas.Bool.{eqb-false}
use Rattle.std.specs.Prelude.{if◌then◌else◌, slice_index_or}
use Rattle.std.specs.List.Sorted.{IsNonDecreasingBy}
use Rattle.buckets.specs.Row.{BucketRow}
use Rattle.ledger.specs.Lists.{EachIn}
use Rattle.reserving.specs.Rows.{AreApart}
use Rattle.reserving.specs.Left.{is_dead, only}
use Rattle.reserving.proofs.order.Searched.{no_less}
use Rattle.keepers.specs.Keyed.{same_bucket}
use Rattle.sql_tables.specs.Selects.{passing}
use Rattle.sql_rows.specs.Lists.{BucketsRise, is_dead_bucket}

some_or_none : (a : ℕ) (p q : Bool) → nat_lt 0 a ≡ p → (a == 0) ≡ q → p ≡ not q
some_or_none a true true e f =
    absurd (let less = ltb-true 0 a e in let none = eqb-true a 0 f in omega (arith, less, none))
some_or_none a true false e f = refl
some_or_none a false true e f = refl
some_or_none a false false e f =
    absurd (let less = ltb-false 0 a e in let some = eqb-false a 0 f in some (omega (arith, less)))

neither : (p q a b : Bool) → p ≡ not a → q ≡ not b → not (p || q) ≡ (a && b)
neither p q true b e f = rw (e, f) (twice b)
  where
    twice : (x : Bool) → not (not x) ≡ x
    twice true = refl
    twice false = refl
neither p q false b e f = rw e refl

-- the test of the rows is the ledger's
pub spent_is_dead : (b : BucketRow) → is_dead_bucket b ≡ is_dead b
spent_is_dead b = neither _ _ (b.available == 0) (b.reserved == 0)
    (some_or_none b.available _ _ refl refl) (some_or_none b.reserved _ _ refl refl)

-- of what is found, that which passes either test
pub those_are : {A : Type 0} (p q : A → Bool) → ((x : A) → p x ≡ q x) → (o : Option A)
    → passing p o ≡ only q o
those_are p q same None = refl
those_are p q same (Some x) = ap (λ (t : Bool). if t then Some x else None) (same x)

rises_over : (l m : BucketRow) (bs : List BucketRow) → l.number < m.number → BucketsRise (m ∷ bs) →
    BucketsRise (l ∷ bs)
rises_over l m [] less rise = tt
rises_over l m (b ∷ bs) less rise = (omega (arith, less, rise.0), rise.1)

other : (m b : BucketRow) → m.number < b.number → same_bucket m b ≡ false
other m b less = go (b.number == m.number) refl
  where
    go : (t : Bool) → (b.number == m.number) ≡ t → t ≡ false
    go true e = absurd (let same = eqb-true b.number m.number e in omega (arith, same, less))
    go false e = refl

others : (m : BucketRow) (bs : List BucketRow) → BucketsRise (m ∷ bs) →
    EachIn (λ y. same_bucket m y ≡ false) bs
others m [] rise = tt
others m (b ∷ bs) rise = (other m b rise.0, others m bs (rises_over m b bs rise.0 rise.1))

pub apart : (bs : List BucketRow) → BucketsRise bs → AreApart same_bucket bs
apart [] rise = tt
apart (b ∷ bs) rise = (others b bs rise, apart bs (tail b bs rise))
  where
    tail : (b : BucketRow) (bs : List BucketRow) → BucketsRise (b ∷ bs) → BucketsRise bs
    tail b [] rise = tt
    tail b (x ∷ xs) rise = rise.1

-- numbers that rise don't fall
pub in_order : (bs : List BucketRow) → BucketsRise bs → IsNonDecreasingBy (λ b. b.number) bs
in_order [] rise i j d le less = absurd (no_less j less)
in_order (b ∷ bs) rise zero j d le less = first b bs rise j d less
  where
    first : (b : BucketRow) (bs : List BucketRow) → BucketsRise (b ∷ bs) → (j : ℕ) (d : BucketRow) →
        j < length (b ∷ bs) → b.number ≤ (slice_index_or (b ∷ bs) j d).number
    first b bs rise zero d less = omega arith
    first b [] rise (suc j) d less = absurd (no_less j (omega (arith, less)))
    first b (x ∷ xs) rise (suc j) d less =
        omega (arith, rise.0, first x xs rise.1 j d (omega (arith, less)))
in_order (b ∷ bs) rise (suc i) zero d le less = absurd (no_less i le)
in_order (b ∷ bs) rise (suc i) (suc j) d le less =
    in_order bs (later b bs rise) i j d (omega (arith, le)) (omega (arith, less))
  where
    later : (b : BucketRow) (bs : List BucketRow) → BucketsRise (b ∷ bs) → BucketsRise bs
    later b [] rise = tt
    later b (x ∷ xs) rise = rise.1
