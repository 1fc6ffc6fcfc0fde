-- Rows of which no rowid comes twice: in another order, and in that of their rowids.
use Rattle.std.proofs.Common.{◌≡◌, suc, ◌+◌, slice_index_or, arith, List, [], ◌∷◌, Bool, false}
use Rattle.std.proofs.Common.{Ordering, Less, Equal, Greater, is_eq, refl, sym, ap, subst, ◌∙◌}
use Rattle.std.specs.List.{IsDistinct}
use Rattle.std.specs.List.Sorted.{IsPermutation, IsSortedBy}
use Rattle.std.specs.Ordering.{is_lt, ordering_reverse}
use Rattle.std.proofs.lemmas.Map.Keys.{IsDistinct-IsPermutation}
use Rattle.sqlite_value.specs.Order.{Row, value_cmp}
use Rattle.sqlite_value.proofs.OrderLemmas.{value_cmp_total}
use Rattle.sqlite_trees.specs.Tree.{rowid, IsAscending}
use Rattle.sqlite_trees.proofs.ListLemmas.{all-permutation, all_weaker}
use Rattle.sql_tables.specs.Keyed.{IsStored}

abbrev pub same_id : Row → Row → Bool
same_id a b = is_eq (value_cmp (rowid a) (rowid b))

flips : (a b : Row) → same_id a b ≡ same_id b a
flips a b = ap is_eq (value_cmp_total.antisymm (rowid a) (rowid b))
    ∙ turned (value_cmp (rowid b) (rowid a))
  where
    turned : (o : Ordering) → is_eq (ordering_reverse o) ≡ is_eq o
    turned Less = refl
    turned Equal = refl
    turned Greater = refl

to_distinct : (rows : List Row) → IsAscending (λ a b. same_id a b ≡ false) rows →
    IsDistinct same_id rows
unfolding IsDistinct
to_distinct [] h = tt
to_distinct (r ∷ rows) h = (h.0, to_distinct rows h.1)

from_distinct : (rows : List Row) → IsDistinct same_id rows →
    IsAscending (λ a b. same_id a b ≡ false) rows
unfolding IsDistinct
from_distinct [] h = tt
from_distinct (r ∷ rows) h = (h.0, from_distinct rows h.1)

pub stored_permuted : (xs ys : List Row) → IsPermutation xs ys → IsStored xs → IsStored ys
stored_permuted xs ys p h = (
  from_distinct ys (IsDistinct-IsPermutation same_id flips xs ys p (to_distinct xs h.0)),
  all-permutation _ xs ys p h.1,
)

above : (o : Ordering) → is_lt o ≡ false → is_eq (ordering_reverse o) ≡ false →
    ordering_reverse o ≡ Less
above Less a b = absurd (cc a)
above Equal a b = absurd (cc b)
above Greater a b = refl

abbrev pub rises_by : Row → Row → Type 0
rises_by a b = value_cmp (rowid a) (rowid b) ≡ Less

pub climbs : (rows : List Row) → IsSortedBy (λ a b. is_lt (value_cmp (rowid a) (rowid b))) rows
    → IsAscending (λ a b. same_id a b ≡ false) rows → IsAscending rises_by rows
climbs [] sorted apart = tt
climbs (r ∷ []) sorted apart = (tt, tt)
climbs (r ∷ s ∷ rows) sorted apart =
    let rest = climbs (s ∷ rows) (λ k d low high.
    let next : suc k + 1 ≡ suc (k + 1) = omega arith in
    subst (λ n. is_lt (value_cmp (rowid (slice_index_or (r ∷ s ∷ rows) n d))
    (rowid (slice_index_or (s ∷ rows) k d))) ≡ false)
    next (sorted (suc k) d (omega arith) (omega (arith, high)))) apart.1 in
    let turned = value_cmp_total.antisymm (rowid r) (rowid s) in
    let less : rises_by r s =
    turned ∙ above (value_cmp (rowid s) (rowid r)) (sorted 0 r (omega arith) (omega arith))
    (ap is_eq (sym turned) ∙ apart.0.0) in (
      (
        less,
        all_weaker (rises_by s) (rises_by r)
            (λ t more. value_cmp_total.trans (rowid r) (rowid s) (rowid t) less more) rows rest.0,
      ),
      rest,
    )
