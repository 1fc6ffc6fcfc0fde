use Rattle.std.proofs.Common.{Err, ap, subst, sym, ◌∙◌}
use Rattle.std.proofs.lemmas.Result.{err_from_is_err_and}
use Rattle.sqlite.specs.Held.{state}
use Rattle.sql_rules.specs.Tables.{AreRuledBy, Tells}
use Rattle.sql_keeper.proofs.openings.RuledOpening.{retold, retold_err, untested}
use Rattle.sql_keeper.proofs.ruled_opening.test_rows.Goals as goal

pub returns-in_err-rules_of-clause-tells : goal.returns-in_err-rules_of-clause-tells
returns-in_err-rules_of-clause-tells g c =
    let p = err_from_is_err_and c.from_residual.result c.from_residual.ensures.1 in
    subst (Tells (AreRuledBy c.args.shelf.now c.args.last c.args.version) (state g.S.Store c.args.conn.now)
    (state g.S.Store c.rules_of.new.conn)) (sym (p.1 ∙ ap Err p.2))
    (retold_err _ _ _ _ c.in_err-rules_of.ensures)

pub returns-then-is_autocommit-clause-tells : goal.returns-then-is_autocommit-clause-tells
returns-then-is_autocommit-clause-tells g c = retold _ _ _ _ _ c.in_ok-rules_of.ensures

pub returns-else-is_autocommit-clause-tells : goal.returns-else-is_autocommit-clause-tells
returns-else-is_autocommit-clause-tells g c = untested _ _ _ _ c.in_ok-rules_of.ensures
