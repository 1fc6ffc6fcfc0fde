-- Sums over buckets, put in the order of their numbers.
use Rattle.std.proofs.Common.{◌≡◌, ℕ, ◌+◌, true, false, List, [], ◌∷◌, refl, sym, ap, ◌∙◌, arith}
use Rattle.std.specs.Prelude.{if◌then◌else◌, nat_lt, sum_by}
use Rattle.std.proofs.lemmas.List.Sums.{sum_by-cons}
use Rattle.buckets.specs.Row.{BucketRow}
use Rattle.charging.specs.Balances.{by_number, numbered}

sum_by-numbered : (f : BucketRow → ℕ) (b : BucketRow) (rows : List BucketRow) →
    sum_by f (numbered b rows) ≡ f b + sum_by f rows
sum_by-numbered f b [] = sum_by-cons f b []
sum_by-numbered f b (x ∷ xs) =
    elim (nat_lt b.number x.number) as
    (λ t. sum_by f (if t then b ∷ x ∷ xs else x ∷ numbered b xs) ≡ f b + sum_by f (x ∷ xs)) [
      | true ↦ sum_by-cons f b (x ∷ xs)
      | false ↦ omega (
        arith,
        sum_by-cons f x xs,
        sum_by-cons f x (numbered b xs),
        sum_by-numbered f b xs,
      )
    ]

-- rule: statement-sums
pub sum_by-by_number : (f : BucketRow → ℕ) (rows : List BucketRow) →
    sum_by f (by_number rows) ≡ sum_by f rows
sum_by-by_number f [] = refl
sum_by-by_number f (b ∷ bs) =
    sum_by-numbered f b (by_number bs)
    ∙ ap (λ n. f b + n) (sum_by-by_number f bs)
    ∙ sym (sum_by-cons f b bs)
