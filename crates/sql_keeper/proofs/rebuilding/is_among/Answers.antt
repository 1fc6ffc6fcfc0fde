use Rattle.std.proofs.Common.{◌∙◌}
use Rattle.sql_keeper.proofs.reads.SortedNumbers.{among}
use Rattle.sql_keeper.proofs.rebuilding.is_among.Goals as goal

pub returns : goal.returns
returns c =
    c.is_ok.ensures.value ∙ among c.args.sorted.now c.args.number c.binary_search.result
    c.binary_search.ensures.position c.requires.order
