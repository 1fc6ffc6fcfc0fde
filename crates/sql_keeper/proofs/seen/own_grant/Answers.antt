use Rattle.sql_keeper.proofs.kept.SeenRows.{own_is}
use Rattle.sql_keeper.proofs.seen.own_grant.Goals as goal

pub returns : goal.returns
returns c =
    own_is c.args.row.now c.args.session.now c.grant_with.result c.grant_with.ensures
    c.if-not-is_own.ensures
