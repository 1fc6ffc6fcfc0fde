use Rattle.std.proofs.Common.{refl}
use Rattle.sql_keeper.proofs.kept.SeenRows.{not_known}
use Rattle.sql_keeper.proofs.seen.seen_with.Goals as goal

pub returns : goal.returns
returns c = λ trees seen told.
    c.noted_first.ensures trees seen
    (not_known c.args.account.now c.args.session.now c.args.read.now
    (c.if-not-has_no_row.ensures refl) trees told)
