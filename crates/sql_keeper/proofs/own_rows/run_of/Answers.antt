use Rattle.std.proofs.Common.{arith, sym, ap, ◌∙◌}
use Rattle.std.proofs.lemmas.Bool.{not-true}
use Rattle.sql_tables.specs.Keyed.{same_name}
use Rattle.sql_rows.specs.declared.session_hold_rows.SessionHold.{SessionHold}
use Rattle.sql_keeper.proofs.loads.HoldRuns.{ended}
use Rattle.sql_keeper.proofs.own_rows.run_of.Goals as goal

pub returns-then-ne : goal.returns-then-ne
returns-then-ne c =
    ended c.args.session.now c.rows.row-index c.args.rest.now c.row-item.result
    c.rows.own.items c.requires (omega arith)
    (ap (λ (x : SessionHold). same_name x.session c.args.session.now) (sym c.row-item.is)
    ∙ not-true (same_name c.row-item.result.session c.args.session.now)
    (sym c.ne.ensures ∙ c.if-ne.true)) c.rows.invariant
