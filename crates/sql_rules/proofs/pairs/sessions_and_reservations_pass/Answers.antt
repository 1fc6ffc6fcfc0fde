use Rattle.std.proofs.Common.{rules}
use Rattle.sqlite_trees.specs.Tree.{Trees}
use Rattle.sqlite.specs.Held.{state}
use Rattle.sql_tables.specs.Schema.{accounts, session_groups, sessions}
use Rattle.sql_rules.specs.Beside.{NoneWrong, is_touched_after, lacks_open_session}
use Rattle.sql_rules.proofs.Steps.{ours_then, tells_not, tells_then}
use Rattle.sql_rules.proofs.pairs.sessions_and_reservations_pass.Goals as goal

abbrev AreBoth : Trees → Type 0
AreBoth trees = NoneWrong is_touched_after accounts sessions trees
    × NoneWrong lacks_open_session session_groups sessions trees

pub returns-in_err-sessions_pass : goal.returns-in_err-sessions_pass
returns-in_err-sessions_pass g c =
    tells_not (NoneWrong is_touched_after accounts sessions) AreBoth (λ t w. w.0)
    (state g.S.Store c.args.conn.now) (state g.S.Store c.sessions_pass.new.conn)
    c.in_err-sessions_pass.field-0.0 c.from_residual.result (search rules)
    c.in_err-sessions_pass.ensures

pub reservations_pass-requires-clause-ours : goal.reservations_pass-requires-clause-ours
reservations_pass-requires-clause-ours g c =
    ours_then (NoneWrong is_touched_after accounts sessions) c.args.version
    (state g.S.Store c.args.conn.now) (state g.S.Store c.sessions_pass.new.conn)
    c.in_ok-sessions_pass.field-0 c.in_ok-sessions_pass.ensures c.requires.ours

pub returns : goal.returns
returns g c =
    tells_then (NoneWrong is_touched_after accounts sessions) (NoneWrong lacks_open_session session_groups sessions)
    AreBoth (λ t p q. (p, q)) (λ t w. w.1)
    (state g.S.Store c.args.conn.now) (state g.S.Store c.sessions_pass.new.conn)
    (state g.S.Store c.reservations_pass.new.conn) c.in_ok-sessions_pass.field-0
    c.reservations_pass.result c.in_ok-sessions_pass.ensures c.reservations_pass.ensures
