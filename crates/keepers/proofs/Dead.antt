-- The buckets that can't be used any more.
use Rattle.std.proofs.Common.{◌≡◌, ℕ, Bool, true, false, List, [], ◌++◌, refl, sym, subst, ◌∙◌}
use Rattle.std.proofs.Common.{arith}
use Rattle.std.specs.Prelude.{◌==◌, filter}
use Rattle.std.specs.List.Sorted.{IsNonDecreasingBy, IsPermutation}
use Rattle.std.proofs.lemmas.Bool.Decides.{nat_tests}
use Rattle.std.proofs.lemmas.List.Sorted.{IsNonDecreasingBy-short}
use Rattle.buckets.specs.Row.{BucketRow}
use Rattle.reserving.specs.Left.{is_dead}
use Rattle.ledger.proofs.Names.{number_same}
use Rattle.reserving.proofs.LeftTests.{find_filter, apart_filter}
use Rattle.reserving.proofs.Reordered.{find_reordered, apart_reordered}
use Rattle.keepers.specs.Keyed.{same_bucket}
use Rattle.keepers.specs.Tables.{no_rows}
use Rattle.keepers.specs.Change.{AreDeadOf}
use Rattle.keepers.specs.Parts.{Parts, AreParts, rows_of_parts}
use Rattle.keepers.proofs.Found.{one_bucket}

pub none_dead : (rows : List BucketRow) → rows ≡ [] → AreDeadOf no_rows rows
none_dead rows is = subst (AreDeadOf no_rows) (sym is) (record {
  found = λ n. refl;
  apart = tt;
  order = IsNonDecreasingBy-short (λ (b : BucketRow). b.number) [] (omega arith);
})

not_both : (a b : ℕ) → (a == b) ≡ true → (b == a) ≡ false → ⊥
not_both a b e k = grind (arith, nat_tests)

same_either_way : (a b : ℕ) → (a == b) ≡ (b == a)
same_either_way a b = at (a == b) (b == a) refl refl
  where
    at : (t u : Bool) → (a == b) ≡ t → (b == a) ≡ u → t ≡ u
    at true true e k = refl
    at true false e k = absurd (not_both a b e k)
    at false true e k = absurd (not_both b a k e)
    at false false e k = refl

pub parts_dead : (p : Parts) → AreParts p → (rows : List BucketRow) →
    IsPermutation (filter is_dead (p.left.buckets ++ p.live.buckets)) rows →
    IsNonDecreasingBy (λ b. b.number) rows → AreDeadOf (rows_of_parts p) rows
parts_dead p h rows same order =
    let all : List BucketRow = p.left.buckets ++ p.live.buckets in record {
      found = λ n.
          sym (find_reordered same_bucket (λ b. b.number == n) (one_bucket n) (filter is_dead all)
          rows same (apart_filter same_bucket is_dead all h.buckets))
          ∙ find_filter same_bucket (λ b. b.number == n) (one_bucket n) is_dead all h.buckets;
      apart = apart_reordered same_bucket (λ x. number_same x.number)
          (λ x y. same_either_way y.number x.number) (filter is_dead all) rows same
          (apart_filter same_bucket is_dead all h.buckets);
      order = order;
    }
