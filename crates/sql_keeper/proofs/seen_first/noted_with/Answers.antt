use Rattle.sql_keeper.proofs.kept.SeenFirst.{first_alone}
use Rattle.sql_keeper.proofs.seen_first.noted_with.Goals as goal

pub returns-in-None : goal.returns-in-None
returns-in-None c = λ trees seen read.
    first_alone c.args.account.now c.args.first c.first_alone.result c.first_alone.ensures trees
    read
