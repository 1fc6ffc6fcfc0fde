use Rattle.std.proofs.Common.{rules, ◌≡◌, Bool, true, false, List, ℕ, MatchBool, sym, ◌∙◌}
use Rattle.std.specs.List.{IsDistinct}
use Rattle.std.specs.List.Sorted.{IsPermutation, IsNonDecreasing, IsSortedByKey}
use Rattle.std.specs.Ordering.{nat_cmp}
use Rattle.std.proofs.lemmas.List.Sorted.{IsNonDecreasingBy-from_sort}
use Rattle.buckets.specs.Tested.{do_ascend, is_one_number}
use Rattle.buckets.proofs.Tests.{apart_before, apart_ascend}
use Rattle.buckets.proofs.purse.tested.are_apart.Goals as goal

told : (ns sorted : List ℕ) → IsPermutation ns sorted → IsNonDecreasing sorted → (test : Bool)
    → test ≡ do_ascend sorted
    → MatchBool test (IsDistinct is_one_number ns) (IsDistinct is_one_number ns → ⊥)
told ns sorted same rises true is = apart_before ns sorted same (sym is)
told ns sorted same rises false is = λ apart.
    let clash : false ≡ true = is ∙ apart_ascend ns sorted same rises apart in absurd (cc)

pub returns : goal.returns
returns c =
    let same : IsPermutation c.args.numbers.items c.deref.result.now = search rules in
    let sorted : IsSortedByKey (λ n. n) nat_cmp c.deref.result.now = search rules in
    told c.args.numbers.items c.deref.result.now same
    (IsNonDecreasingBy-from_sort (λ n. n) c.deref.result.now sorted)
    c.do_ascend.result c.do_ascend.ensures
