use Rattle.sql_keeper.proofs.kept.SeenRows.{alone_seen, noted}
use Rattle.sql_keeper.proofs.seen.noted.Goals as goal

pub returns-then-not-is_same_account : goal.returns-then-not-is_same_account
returns-then-not-is_same_account c = λ trees seen known.
    alone_seen c.args.account.now c.args.session.now c.unknown_alone.result
    c.unknown_alone.ensures trees known

pub returns : goal.returns
returns c = λ trees seen known.
    noted c.args.seen c.with_unknown.result c.args.account.now c.args.session.now
    c.with_unknown.ensures c.if-not-is_same_account.ensures trees seen known
