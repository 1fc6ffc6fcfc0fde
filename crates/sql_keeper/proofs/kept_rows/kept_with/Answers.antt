use Rattle.std.proofs.Common.{rules}
use Rattle.sql_keeper.specs.KeptRows.{AreReplaced, is_unknown_in}
use Rattle.sql_keeper.proofs.kept.KeptRows.{kept_changed}
use Rattle.sql_keeper.proofs.kept_rows.kept_with.Goals as goal

pub returns : goal.returns
returns c = λ names text old new becomes sees keeps.
    let change = c.args.change.now in
    let replaced : AreReplaced (is_unknown_in c.args.seen.now change.number) change.rows
    c.args.kept.rows c.in_ok-rows.rows = search rules in
    kept_changed names text change old new c.args.seen.now c.args.kept c.in_ok-rows.rows
    c.if-not-is_of.ensures becomes sees replaced keeps
