use Rattle.std.proofs.Common.{rules, ◌≡◌, List, length, sym, ap, subst, ◌∙◌, arith}
use Rattle.reserving.specs.declared.session.Session.{Session}
use Rattle.reserving.specs.Sessions.{is_session, session_before}
use Rattle.reserving.specs.Rows.{AreAscending}
use Rattle.reserving.specs.Written.{sessions_written}
use Rattle.reserving.proofs.WrittenOver.{no_rows}
use Rattle.reserving.proofs.order.Ascending.{ascending_put}
use Rattle.reserving.proofs.order.KeyRows.{session_key}
use Rattle.reserving.proofs.writing.write_sessions.Goals as goal

pub write_session-requires-clause-room : goal.write_session-requires-clause-room
write_session-requires-clause-room c =
    omega (arith, ap length c.in-Some.ensures.steps.0, c.loop-row.invariant.room)

pub loop-row-preserved : goal.loop-row-preserved
loop-row-preserved c = record {
  rows = ap (sessions_written c.next.new.self.rest.items) c.write_session.ensures.items
      ∙ sym (ap (λ (xs : List Session). sessions_written xs c.loop-row.rows.items)
      c.in-Some.ensures.steps.0) ∙ c.loop-row.invariant.rows;
  room = omega (
    arith,
    ap length c.in-Some.ensures.steps.0,
    c.loop-row.invariant.room,
    c.write_session.ensures.len,
    c.write_session.ensures.room,
  );
  order = subst (AreAscending session_before) (sym c.write_session.ensures.items)
      (ascending_put session_before (is_session c.in-Some.row.id) c.in-Some.row
      (session_key c.in-Some.row) c.loop-row.rows.items c.loop-row.invariant.order);
}

pub returns : goal.returns
returns c =
    let none : length c.loop-row.row-iterator.rest.items ≡ 0 = search rules in
    sym (ap (λ (xs : List Session). sessions_written xs c.loop-row.rows.items)
    (no_rows c.loop-row.row-iterator.rest.items none)) ∙ c.loop-row.invariant.rows
