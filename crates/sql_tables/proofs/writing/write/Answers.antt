use Rattle.std.proofs.Common.{inl, inr, OnOk, OnErr, sym, subst}
use Rattle.std.proofs.lemmas.Bool.{cases_Bool}
use Rattle.sqlite.specs.Held.{state}
use Rattle.sqlite.specs.State.{ExecutesInside, KeepsCommit}
use Rattle.sqlite.specs.Values.{bound}
use Rattle.sql_tables.proofs.Keeps.{spares, keeps_err, keeps_itself, on_ok}
use Rattle.sql_tables.proofs.writing.write.Goals as goal

pub returns-clause-runs : goal.returns-clause-runs
returns-clause-runs g c =
    let old = state g.S.Store c.args.tx.now.conn.now in
    let new = state g.S.Store c.execute.new.self.conn.now in
    record {
      done = λ clean. elim (cases_Bool old.in_transaction) [
        | inl open' ↦ on_ok c.execute.result (c.execute.ensures.runs clean open')
        | inr shut ↦ subst (λ r.
            OnOk r (ExecutesInside 0 c.args.sql.now (bound c.args.params.now) old new r))
            (sym (c.execute.ensures.ended shut).0) tt
      ];
      kept = λ clean. elim (cases_Bool old.in_transaction) [
        | inl open' ↦ keeps_err old new c.execute.result (spares _ _ old new c.execute.result
            (c.execute.ensures.runs clean open'))
        | inr shut ↦ subst (λ k. OnErr c.execute.result (KeepsCommit old (state g.S.Store k)))
            (sym (c.execute.ensures.ended shut).1) (keeps_itself old c.execute.result)
      ];
      survives = c.execute.ensures.survives;
    }
