use Rattle.std.proofs.Common.{rules, ◌≡◌, List, length, sym, ap, subst, ◌∙◌, arith}
use Rattle.reserving.specs.declared.session.Counter.{Counter}
use Rattle.reserving.specs.Sessions.{is_counter, counter_before}
use Rattle.reserving.specs.Rows.{AreAscending}
use Rattle.reserving.specs.Written.{counters_written}
use Rattle.reserving.proofs.WrittenOver.{no_rows}
use Rattle.reserving.proofs.order.Ascending.{ascending_put}
use Rattle.reserving.proofs.order.KeyRows.{own_counter_key}
use Rattle.reserving.proofs.writing.write_counters.Goals as goal

pub write_counter-requires-clause-room : goal.write_counter-requires-clause-room
write_counter-requires-clause-room c =
    omega (arith, ap length c.in-Some.ensures.steps.0, c.loop-row.invariant.room)

pub loop-row-preserved : goal.loop-row-preserved
loop-row-preserved c = record {
  rows = ap (counters_written c.next.new.self.rest.items) c.write_counter.ensures.items
      ∙ sym (ap (λ (xs : List Counter). counters_written xs c.loop-row.rows.items)
      c.in-Some.ensures.steps.0) ∙ c.loop-row.invariant.rows;
  room = omega (
    arith,
    ap length c.in-Some.ensures.steps.0,
    c.loop-row.invariant.room,
    c.write_counter.ensures.len,
    c.write_counter.ensures.room,
  );
  order = subst (AreAscending counter_before) (sym c.write_counter.ensures.items)
      (ascending_put counter_before (is_counter c.in-Some.row.group c.in-Some.row.cycle)
      c.in-Some.row
      (own_counter_key c.in-Some.row) c.loop-row.rows.items c.loop-row.invariant.order);
}

pub returns : goal.returns
returns c =
    let none : length c.loop-row.row-iterator.rest.items ≡ 0 = search rules in
    sym (ap (λ (xs : List Counter). counters_written xs c.loop-row.rows.items)
    (no_rows c.loop-row.row-iterator.rest.items none)) ∙ c.loop-row.invariant.rows
