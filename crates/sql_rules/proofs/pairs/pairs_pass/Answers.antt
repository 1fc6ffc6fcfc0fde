use Rattle.std.proofs.Common.{rules}
use Rattle.sqlite_trees.specs.Tree.{Trees}
use Rattle.sqlite.specs.Held.{state}
use Rattle.sql_tables.specs.Schema.{accounts, buckets, charges, session_groups, sessions}
use Rattle.sql_rules.specs.Beside.{AreRightBeside, NoneWrong, is_ahead, is_bucket_ahead}
use Rattle.sql_rules.specs.Beside.{is_touched_after, lacks_open_session}
use Rattle.sql_rules.proofs.Steps.{ours_then, tells_not, tells_then}
use Rattle.sql_rules.proofs.pairs.pairs_pass.Goals as goal

abbrev AreNumbered : Trees → Type 0
AreNumbered trees = NoneWrong is_ahead accounts charges trees
    × NoneWrong is_bucket_ahead accounts buckets trees

abbrev AreSessionsRight : Trees → Type 0
AreSessionsRight trees = NoneWrong is_touched_after accounts sessions trees
    × NoneWrong lacks_open_session session_groups sessions trees

pub returns-in_err-numbers_pass : goal.returns-in_err-numbers_pass
returns-in_err-numbers_pass g c =
    tells_not AreNumbered AreRightBeside (λ t w. (w.numbers, w.buckets))
    (state g.S.Store c.args.conn.now) (state g.S.Store c.numbers_pass.new.conn)
    c.in_err-numbers_pass.field-0.0 c.from_residual.result (search rules)
    c.in_err-numbers_pass.ensures

pub sessions_and_reservations_pass-requires-clause-ours : goal.sessions_and_reservations_pass-requires-clause-ours
sessions_and_reservations_pass-requires-clause-ours g c =
    ours_then AreNumbered c.args.version
    (state g.S.Store c.args.conn.now) (state g.S.Store c.numbers_pass.new.conn)
    c.in_ok-numbers_pass.field-0 c.in_ok-numbers_pass.ensures c.requires.ours

pub returns : goal.returns
returns g c =
    tells_then AreNumbered AreSessionsRight AreRightBeside
    (λ t p q. record { numbers = p.0; buckets = p.1; moments = q.0; reservations = q.1 })
    (λ t w. (w.moments, w.reservations))
    (state g.S.Store c.args.conn.now) (state g.S.Store c.numbers_pass.new.conn)
    (state g.S.Store c.sessions_and_reservations_pass.new.conn) c.in_ok-numbers_pass.field-0
    c.sessions_and_reservations_pass.result c.in_ok-numbers_pass.ensures
    c.sessions_and_reservations_pass.ensures
