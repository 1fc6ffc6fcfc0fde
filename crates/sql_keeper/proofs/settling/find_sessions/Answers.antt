use Rattle.std.proofs.Common.{arith}
use Rattle.sqlite.specs.Held.{state}
use Rattle.sql_keeper.proofs.reads.InTurn.{failed_then}
use Rattle.sql_keeper.proofs.kept.SeenRows.{seen_after}
use Rattle.sql_keeper.proofs.commits.Tested.{next_found, none_found, one_unsettled, sessions_found}
use Rattle.sql_keeper.proofs.settling.find_sessions.Goals as goal

pub sessions-init : goal.sessions-init
sessions-init g c = none_found c.args.groups.now c.args.account.now
    (state g.S.Store c.args.conn.now) c.requires.idle

pub find_session-requires-clause-idle : goal.find_session-requires-clause-idle
find_session-requires-clause-idle g c = c.sessions.invariant.reads.only.idle

pub find_session-requires-clause-seen : goal.find_session-requires-clause-seen
find_session-requires-clause-seen g c =
    seen_after c.args.seen.now (state g.S.Store c.args.conn.now) (state g.S.Store c.sessions.conn)
    c.requires.seen c.sessions.invariant.reads.only

pub returns-in_err-found : goal.returns-in_err-found
returns-in_err-found g c =
    failed_then _ (state g.S.Store c.args.conn.now) (state g.S.Store c.sessions.conn)
    (state g.S.Store c.find_session.new.conn) c.from_residual.result c.from_residual.ensures.0
    c.sessions.invariant.reads c.find_session.ensures.only c.find_session.ensures.survives

pub returns-then-not-is_settled : goal.returns-then-not-is_settled
returns-then-not-is_settled g c =
    one_unsettled c.args.groups.now c.args.account.now _ c.args.sessions.now
    c.sessions.session-index c.session-item.result c.sessions.are_new c.in_ok-found.found
    c.unsettled.result (state g.S.Store c.args.conn.now) (state g.S.Store c.sessions.conn)
    (state g.S.Store c.find_session.new.conn) (omega arith) c.session-item.is
    c.if-not-is_settled.ensures c.unsettled.ensures c.sessions.invariant c.in_ok-found.ensures

pub sessions-preserved : goal.sessions-preserved
sessions-preserved g c =
    next_found c.args.groups.now c.args.account.now c.args.sessions.now c.sessions.session-index
    c.session-item.result c.sessions.are_new c.both_new-are_new.result c.in_ok-found.found
    (state g.S.Store c.args.conn.now) (state g.S.Store c.sessions.conn)
    (state g.S.Store c.find_session.new.conn) (omega arith) c.session-item.is
    c.if-not-is_settled.ensures c.both_new-are_new.ensures c.sessions.invariant
    c.in_ok-found.ensures

pub returns : goal.returns
returns g c =
    sessions_found c.args.groups.now c.args.account.now c.args.sessions.now
    c.sessions.session-index c.sessions.are_new (state g.S.Store c.args.conn.now)
    (state g.S.Store c.sessions.conn) (omega arith) c.sessions.invariant
