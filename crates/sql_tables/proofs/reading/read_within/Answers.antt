use Rattle.std.proofs.Common.{rules, arith, ap, sym, subst, ◌∙◌}
use Rattle.std.proofs.lemmas.Result.{err_from_is_err_and}
use Rattle.std.specs.Result.{result_from_control_flow}
use Rattle.sqlite.specs.Held.{state}
use Rattle.sqlite.specs.State.{IsUnchanged}
use Rattle.sqlite.specs.Values.{bound}
use Rattle.sql_tables.specs.Statements.{Attempts}
use Rattle.sql_tables.proofs.Keeps.{answers_within, attempt_err, attempt_ok, reads_within}
use Rattle.sql_tables.proofs.reading.read_within.Goals as goal

pub returns : goal.returns
returns g c = record {
  same_reference = search rules;
  answers = λ clean. answers_within c.args.sql.now (bound c.args.params.now)
      (state g.S.Store c.args.tx.now.conn.now)
      (state g.S.Store c.query_all.new.self.conn.now) _ c.requires.plain
      (c.requires.tables (omega (arith, c.query_all.ensures.survives.clean)))
      (c.requires.rules (omega (arith, c.query_all.ensures.survives.clean)))
      (c.in_ok-query_all.ensures.ok clean);
  still = attempt_ok IsUnchanged (state g.S.Store c.args.tx.now.conn.now)
      (state g.S.Store c.query_all.new.self.conn.now) c.query_all.result _
      (c.branch-query_all.ensures ∙ ap result_from_control_flow c.in_ok-query_all.is)
      (reads_within (λ rows. rows.items) c.args.sql.now (bound c.args.params.now)
      (state g.S.Store c.args.tx.now.conn.now) (state g.S.Store c.query_all.new.self.conn.now)
      c.query_all.result c.requires.plain c.requires.tables c.query_all.ensures.survives
      c.query_all.ensures.ok c.query_all.ensures.err);
  fault = search rules;
}

pub returns-in_err-query_all : goal.returns-in_err-query_all
returns-in_err-query_all g c =
    let p = err_from_is_err_and c.from_residual.result c.from_residual.ensures.1 in
    record {
      same_reference = search rules;
      answers = search rules;
      still = subst (Attempts IsUnchanged (state g.S.Store c.args.tx.now.conn.now)
          (state g.S.Store c.query_all.new.self.conn.now)) (sym p.1)
          (attempt_err IsUnchanged (state g.S.Store c.args.tx.now.conn.now)
          (state g.S.Store c.query_all.new.self.conn.now) c.query_all.result _ p.0
          (c.branch-query_all.ensures ∙ ap result_from_control_flow c.in_err-query_all.is)
          (reads_within (λ rows. rows.items) c.args.sql.now (bound c.args.params.now)
          (state g.S.Store c.args.tx.now.conn.now)
          (state g.S.Store c.query_all.new.self.conn.now) c.query_all.result c.requires.plain
          c.requires.tables c.query_all.ensures.survives c.query_all.ensures.ok
          c.query_all.ensures.err));
      fault = search rules;
    }
