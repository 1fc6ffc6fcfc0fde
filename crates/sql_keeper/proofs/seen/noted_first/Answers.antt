use Rattle.sql_keeper.proofs.kept.SeenRows.{alone_seen}
use Rattle.sql_keeper.proofs.seen.noted_first.Goals as goal

pub returns-in-None : goal.returns-in-None
returns-in-None c = λ trees seen known.
    alone_seen c.args.account.now c.args.session.now c.unknown_alone.result
    c.unknown_alone.ensures trees known
