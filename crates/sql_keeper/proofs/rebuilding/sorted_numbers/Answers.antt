use Rattle.std.proofs.Common.{rules}
use Rattle.std.specs.List.Sorted.{IsSortedByKey}
use Rattle.std.specs.Ordering.{nat_cmp}
use Rattle.std.proofs.lemmas.List.Sorted.{IsNonDecreasingBy-from_sort}
use Rattle.sql_keeper.proofs.rebuilding.sorted_numbers.Goals as goal

pub returns-clause-order : goal.returns-clause-order
returns-clause-order c =
    let sorted : IsSortedByKey (λ n. n) nat_cmp c.sort_unstable.new.self.items = search rules in
    IsNonDecreasingBy-from_sort (λ n. n) c.sort_unstable.new.self.items sorted
