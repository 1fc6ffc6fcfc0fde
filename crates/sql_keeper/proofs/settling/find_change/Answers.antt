use Rattle.std.proofs.Common.{refl}
use Rattle.sqlite.specs.Held.{state}
use Rattle.sql_keeper.specs.Content.{shelf_names}
use Rattle.sql_keeper.proofs.kept.SeenRows.{seen_after}
use Rattle.sql_keeper.proofs.commits.Tested.{change_found, change_unsettled}
use Rattle.sql_keeper.proofs.settling.find_change.Goals as goal

pub find_sessions-requires-clause-seen : goal.find_sessions-requires-clause-seen
find_sessions-requires-clause-seen g c =
    seen_after c.args.seen.now (state g.S.Store c.args.conn.now)
    (state g.S.Store c.find_head.new.conn) c.requires.seen c.in_ok-head.ensures.only

pub returns-then-not-may_be_written : goal.returns-then-not-may_be_written
returns-then-not-may_be_written g c =
    change_unsettled (shelf_names c.args.books.now) c.args.change.now c.in_ok-head.head
    c.unsettled.result (state g.S.Store c.args.conn.now) (state g.S.Store c.find_head.new.conn)
    c.unsettled.ensures c.in_ok-head.ensures c.if-not-may_be_written.ensures.back

pub returns : goal.returns
returns g c =
    change_found (shelf_names c.args.books.now) c.args.change.now c.in_ok-head.head
    c.sessions-sessions.result.now c.groups-groups.result.now c.in_ok-found.found
    c.found_with.result (state g.S.Store c.args.conn.now) (state g.S.Store c.find_head.new.conn)
    (state g.S.Store c.find_sessions.new.conn) c.sessions-sessions.ensures c.groups-groups.ensures
    c.found_with.ensures c.in_ok-head.ensures
    (c.if-not-may_be_written.ensures.reservations refl)
    (c.if-not-may_be_written.ensures.numbers refl) (c.if-not-may_be_written.ensures.buckets refl)
    (c.if-not-may_be_written.ensures.moment refl) (c.if-not-may_be_written.ensures.rules refl)
    c.in_ok-found.ensures
