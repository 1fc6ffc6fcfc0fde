use Rattle.sql_keeper.proofs.kept.SeenRows.{name_open}
use Rattle.sql_keeper.proofs.seen.open_name.Goals as goal

pub returns : goal.returns
returns c =
    name_open c.copy_of.result c.args.session.now c.copy_of.ensures c.if-not-is_open.ensures
