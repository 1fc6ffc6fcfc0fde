use Rattle.sql_keeper.proofs.kept.SeenFirst.{copy_covered}
use Rattle.sql_keeper.proofs.seen_first.copy_if_asked.Goals as goal

pub returns : goal.returns
returns c = λ r read.
    copy_covered c.args.first.now.asked c.args.asked r c.args.first.now.read
    c.copy_of_first.result c.if-not-are_covered.ensures c.copy_of_first.ensures read
