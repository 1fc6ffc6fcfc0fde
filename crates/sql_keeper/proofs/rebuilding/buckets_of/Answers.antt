use Rattle.std.proofs.Common.{arith, rules}
use Rattle.std.specs.List.Sorted.{IsPermutation}
use Rattle.sql_keeper.proofs.loads.CountedRows.{next_counted}
use Rattle.sql_keeper.proofs.reads.SortedNumbers.{among_sorted}
use Rattle.sql_keeper.proofs.rebuilding.buckets_of.Goals as goal

pub rows-preserved : goal.rows-preserved
rows-preserved c =
    let same : IsPermutation c.args.numbers.now c.deref.result.now = search rules in
    next_counted c.args.numbers.now c.args.rows.now c.rows.row-index c.row-item.result
    c.is_among.result c.rows.buckets.items c.push.new.self.items c.in_ok-bucket.bucket (omega arith)
    c.row-item.is c.in_ok-push.ensures.items c.rows.invariant
    (among_sorted c.args.numbers.now c.deref.result.now c.row-item.result.number c.is_among.result
    same c.is_among.ensures)
    c.in_ok-bucket.ensures
