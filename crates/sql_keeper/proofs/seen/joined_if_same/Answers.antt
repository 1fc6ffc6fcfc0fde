use Rattle.sql_keeper.proofs.kept.SeenRows.{joined_seen}
use Rattle.sql_keeper.proofs.seen.joined_if_same.Goals as goal

pub returns : goal.returns
returns c = λ trees older newer.
    joined_seen c.args.older c.args.newer c.joined.result c.joined.ensures
    c.if-not-is_same_account.ensures trees older newer
