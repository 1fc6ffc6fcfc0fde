use Rattle.std.proofs.Common.{rules, ◌≡◌, List, length, sym, ap, subst, ◌∙◌, arith}
use Rattle.reserving.specs.declared.session.SessionGroup.{SessionGroup}
use Rattle.reserving.specs.Sessions.{is_of, group_before}
use Rattle.reserving.specs.Rows.{AreAscending}
use Rattle.reserving.specs.Written.{groups_written}
use Rattle.reserving.proofs.WrittenOver.{no_rows}
use Rattle.reserving.proofs.order.Ascending.{ascending_put}
use Rattle.reserving.proofs.order.KeyRows.{own_group_key}
use Rattle.reserving.proofs.writing.write_groups.Goals as goal

pub write_group-requires-clause-room : goal.write_group-requires-clause-room
write_group-requires-clause-room c =
    omega (arith, ap length c.in-Some.ensures.steps.0, c.loop-row.invariant.room)

pub loop-row-preserved : goal.loop-row-preserved
loop-row-preserved c = record {
  rows = ap (groups_written c.next.new.self.rest.items) c.write_group.ensures.items
      ∙ sym (ap (λ (xs : List SessionGroup). groups_written xs c.loop-row.rows.items)
      c.in-Some.ensures.steps.0) ∙ c.loop-row.invariant.rows;
  room = omega (
    arith,
    ap length c.in-Some.ensures.steps.0,
    c.loop-row.invariant.room,
    c.write_group.ensures.len,
    c.write_group.ensures.room,
  );
  order = subst (AreAscending group_before) (sym c.write_group.ensures.items)
      (ascending_put group_before (is_of c.in-Some.row.session c.in-Some.row.group) c.in-Some.row
      (own_group_key c.in-Some.row) c.loop-row.rows.items c.loop-row.invariant.order);
}

pub returns : goal.returns
returns c =
    let none : length c.loop-row.row-iterator.rest.items ≡ 0 = search rules in
    sym (ap (λ (xs : List SessionGroup). groups_written xs c.loop-row.rows.items)
    (no_rows c.loop-row.row-iterator.rest.items none)) ∙ c.loop-row.invariant.rows
