-- An account's buckets are no more than the numbers that they may have.
use Rattle.std.proofs.Common.{◌+◌, ◌*◌, subst}
use Rattle.std.specs.Prelude.{if◌then◌else◌}
use Rattle.buckets.specs.declared.kind.BucketKind.{BucketKind}
use Rattle.buckets.specs.declared.kind.BucketKind.TheVariants.{Money, Blocks}
use Rattle.buckets.specs.Kinds.{is_alike, most_of}
use Rattle.buckets.specs.Row.{is_eligible, eligible_amount}
use Rattle.buckets.specs.Share.{sum_in}
use Rattle.buckets.proofs.Dues.{sum_in-cons}
use Rattle.std.proofs.Common.{◌≡◌, ◌≢◌, ℕ, suc, ◌<◌, ◌≤◌, Bool, true, false, List, [], ◌∷◌, length}
use Rattle.std.proofs.Common.{map}
use Rattle.std.proofs.Common.{◌||◌, refl, sym, ap, eqb-true, arith}
use Rattle.std.specs.List.{list_any, IsDistinct, AllByRecursion}
use Rattle.std.proofs.Math.Dec.{eqb}
use Rattle.std.proofs.lemmas.Map.Steps.{length-le_from_distinct_below}
use Rattle.buckets.specs.Row.{BucketRow, IsBalanced}
use Rattle.buckets.specs.Spend.{Each, AreDistinct, DiffersFromAll, IsSound}

abbrev numbers : List BucketRow → List ℕ
numbers rows = map (λ b. b.number) rows

not_equal : (n m : ℕ) → m ≢ n → eqb n m ≡ false
not_equal n m other = at (eqb n m) refl
  where
    at : (t : Bool) → eqb n m ≡ t → t ≡ false
    at true e = absurd (other (sym (eqb-true n m e)))
    at false e = refl

apart : (n : ℕ) (rows : List BucketRow) → DiffersFromAll n rows →
    AllByRecursion (λ y. eqb n y ≡ false) (numbers rows)
apart n [] h = tt
apart n (b ∷ bs) h = (not_equal n b.number h.0, apart n bs h.1)

distinct : (rows : List BucketRow) → AreDistinct rows → IsDistinct eqb (numbers rows)
unfolding IsDistinct
distinct [] h = tt
distinct (b ∷ bs) h = (apart b.number bs h.0, distinct bs h.1)

below : (rows : List BucketRow) → Each IsBalanced rows → (q : ℕ) →
    list_any (eqb q) (numbers rows) ≡ true → q < 4_294_967_296
below [] h q e = absurd (let no_number : false ≡ true = e in cc)
below (b ∷ bs) h q e = at (eqb q b.number) refl e (below bs h.1 q)
  where
    at : (t : Bool) → eqb q b.number ≡ t → (t || list_any (eqb q) (numbers bs)) ≡ true →
        (list_any (eqb q) (numbers bs) ≡ true → q < 4_294_967_296) → q < 4_294_967_296
    at true same k rest =
        let is : q ≡ b.number = eqb-true q b.number same in
        let less : b.number < 4_294_967_296 = h.0.number in omega (arith, is, less)
    at false other k rest = rest k

counted : (rows : List BucketRow) → length (numbers rows) ≡ length rows
counted [] = refl
counted (b ∷ bs) = ap (λ n. suc n) (counted bs)

pub few : (rows : List BucketRow) → IsSound rows → length rows ≤ 4_294_967_296
few rows h =
    let most = length-le_from_distinct_below (numbers rows) 4_294_967_296
    (distinct rows h.distinct) (below rows h.balanced) in
    omega (arith, most, counted rows)

eligible_most : (kind : BucketKind) (group at : ℕ) (b : BucketRow) → IsBalanced b →
    (if is_alike b.kind kind then eligible_amount group at b else 0) ≤ most_of kind
eligible_most kind group at b h = by_kind b.kind kind refl
  where
    within : (e : Bool) → (if e then b.available else 0) ≤ most_of b.kind
    within true = omega (arith, h.sum, h.most)
    within false = omega arith

    by_kind : (j k : BucketKind) → b.kind ≡ j →
        (if is_alike j k then eligible_amount group at b else 0) ≤ most_of k
    by_kind Money Money e = subst (λ j. eligible_amount group at b ≤ most_of j) e
        (within (is_eligible group at b))
    by_kind Money Blocks e = omega arith
    by_kind Blocks Money e = omega arith
    by_kind Blocks Blocks e = subst (λ j. eligible_amount group at b ≤ most_of j) e
        (within (is_eligible group at b))

each_most : (kind : BucketKind) (group at : ℕ) (rows : List BucketRow) → Each IsBalanced rows →
    sum_in kind (eligible_amount group at) rows ≤ length rows * most_of kind
each_most kind group at [] h = omega arith
each_most kind group at (b ∷ bs) h =
    let here = eligible_most kind group at b h.0 in
    let rest = each_most kind group at bs h.1 in
    let more : (1 + length bs) * most_of kind ≡ most_of kind + length bs * most_of kind =
    omega arith in
    omega (arith, sum_in-cons kind (eligible_amount group at) b bs, here, rest, more)

-- what the eligible buckets of a kind have together
-- rule: eligible
pub sum_in-most : (kind : BucketKind) (group at : ℕ) (rows : List BucketRow) → IsSound rows →
    sum_in kind (eligible_amount group at) rows ≤ 4_294_967_296 * most_of kind
sum_in-most kind group at rows h = by_kind kind
  where
    count : length rows ≤ 4_294_967_296
    count = few rows h

    by_kind : (k : BucketKind) → sum_in k (eligible_amount group at) rows
        ≤ 4_294_967_296 * most_of k
    by_kind Money = omega (arith, count, each_most Money group at rows h.balanced)
    by_kind Blocks = omega (arith, count, each_most Blocks group at rows h.balanced)
