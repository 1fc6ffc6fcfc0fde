use Rattle.std.proofs.Common.{◌∙◌, map, ap}
use Rattle.std.specs.List.{list_all}
use Rattle.sqlite.specs.Held.{state}
use Rattle.sql_rows.specs.Texts.{group_at}
use Rattle.sql_keeper.specs.Tests.{is_beside}
use Rattle.sql_keeper.proofs.commits.Tested.{all_map, found_groups, found_new, found_stays}
use Rattle.sql_keeper.proofs.settling.find_session.Goals as goal

pub returns-then-is_unknown : goal.returns-then-is_unknown
returns-then-is_unknown g c =
    found_new c.args.account.now c.args.groups.now c.args.session.now c.in_ok-before.before
    (state g.S.Store c.args.conn.now) (state g.S.Store c.find_standing.new.conn)
    c.in_ok-before.ensures c.if-is_unknown.ensures

pub returns-then-stays : goal.returns-then-stays
returns-then-stays g c =
    found_stays c.args.account.now c.args.groups.now c.args.session.now c.in_ok-before.before
    (state g.S.Store c.args.conn.now) (state g.S.Store c.find_standing.new.conn)
    c.in_ok-before.ensures c.if-stays.ensures

pub returns : goal.returns
returns g c =
    found_groups c.args.account.now c.args.groups.now c.args.session.now c.in_ok-before.before
    c.in_ok-rows.rows (λ xs. map group_at xs.items) c.are_beside.result
    (state g.S.Store c.args.conn.now) (state g.S.Store c.find_standing.new.conn)
    (state g.S.Store c.read_groups.new.conn) c.in_ok-before.ensures c.if-stays.ensures
    c.in_ok-rows.ensures.reads c.in_ok-rows.ensures.order
    (c.are_beside.ensures ∙ ap (λ (xs : _). list_all
    (λ (r : _). is_beside c.args.groups.now c.args.session.now.id (group_at r)) xs)
    c.deref.ensures.value ∙ all_map (is_beside c.args.groups.now c.args.session.now.id) group_at
    c.in_ok-rows.rows.items)
