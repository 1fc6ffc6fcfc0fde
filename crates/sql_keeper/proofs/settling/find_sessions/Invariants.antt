use Rattle.std.proofs.Common.{take}
use Rattle.sqlite.specs.Held.{state}
use Rattle.sql_keeper.proofs.commits.Tested.{HasFound}
use Rattle.sql_keeper.proofs.settling.find_sessions.Given as goal

abbrev pub invariant-sessions : goal.invariant-sessions
invariant-sessions g l =
    HasFound l.groups l.account (take l.session-index l.sessions) l.are_new
    (state g.S.Store l.fn.conn) (state g.S.Store l.conn)
