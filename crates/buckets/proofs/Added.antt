-- A new bucket stands in its place among those that are there.
use Rattle.std.proofs.Common.{Bool, true, false, [], ◌∷◌}
use Rattle.std.specs.Prelude.{if◌then◌else◌, nat_lt}
use Rattle.std.specs.List.Sorted.{IsPermutation}
use Rattle.std.proofs.lemmas.List.Sorted.{IsPermutation-refl, IsPermutation-cons}
use Rattle.std.proofs.lemmas.List.Sorted.{IsPermutation-trans}
use Rattle.std.proofs.lemmas.List.Sorted.{IsPermutation-to_front, IsPermutation-append_left}
use Rattle.buckets.specs.Spend.{inserted}
use Rattle.buckets.specs.Laws.{IsAddedAlone, IsAddedInOrder}
use Rattle.buckets.proofs.SharesAlong.{IsInOrder-inserted}

-- rule: bucket-order.added-alone
pub added_alone : IsAddedAlone
added_alone b [] = IsPermutation-refl (b ∷ [])
added_alone b (x ∷ xs) = at (nat_lt b.until x.until) (added_alone b xs)
  where
    at : (first : Bool) → IsPermutation (b ∷ xs) (inserted b xs) →
        IsPermutation (b ∷ x ∷ xs) (if first then b ∷ x ∷ xs else x ∷ inserted b xs)
    at true rest = IsPermutation-refl (b ∷ x ∷ xs)
    at false rest =
        IsPermutation-trans (b ∷ x ∷ xs) (x ∷ b ∷ xs) (x ∷ inserted b xs)
        (IsPermutation-append_left xs (b ∷ x ∷ []) (x ∷ b ∷ [])
        (IsPermutation-to_front (b ∷ []) x))
        (IsPermutation-cons x (b ∷ xs) (inserted b xs) rest)

-- rule: bucket-order.added-alone
pub added_in_order : IsAddedInOrder
added_in_order b rows below order = IsInOrder-inserted b rows below order
