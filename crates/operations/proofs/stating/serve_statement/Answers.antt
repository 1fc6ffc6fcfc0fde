use Rattle.std.proofs.Common.{rules, subst, sym, Result}
use Rattle.std.specs.Prelude.{OnOk}
use Rattle.std.proofs.lemmas.Result.{err_from_is_err_and}
use Rattle.keepers.proofs.Placed.{on_ok}
use Rattle.operations.specs.Months.{IsMonthTold, OnlyReadsMonth, month_ended}
use Rattle.operations.specs.declared.fault.OfficeFault.{OfficeFault}
use Rattle.operations.specs.declared.status.Status.{Status}
use Rattle.operations.proofs.Beginnings.{nothing_written, on_err}
use Rattle.operations.proofs.MonthLemmas.{ended_done, ended_stands, month_told, nothing_told}
use Rattle.operations.proofs.MonthLemmas.{reads_asked}
use Rattle.operations.proofs.MonthLemmas.{nothing_begun, some_begun, some_printed, tells_ended}
use Rattle.operations.proofs.MonthLemmas.{unknown_begun, unknown_printed, unknown_told}
use Rattle.operations.proofs.WriteFaults.{IsNoReading, month_unread, no_reading}
use Rattle.operations.proofs.stating.serve_statement.Goals as goal

pub returns-in_err-state : goal.returns-in_err-state
returns-in_err-state g c =
    let p = err_from_is_err_and c.from_residual.result c.from_residual.ensures.1 in
    let w0 = g.W.Write.contents c.args.writer.now in
    record {
      told = λ clean.
          subst (IsMonthTold c.args.shelf.now c.args.query.now c.args.moment
          (g.K.Keeper.seen c.args.keeper.now).tables w0 w0) (sym p.1)
          (nothing_told c.args.shelf.now c.args.query.now c.args.moment
          (g.K.Keeper.seen c.args.keeper.now).tables w0 p.0 (nothing_written w0));
      ended = search rules;
      printed = search rules;
      begun = on_err c.from_residual.result
          (nothing_begun c.args.shelf.now c.args.query.now w0 (nothing_written w0));
      reads = search rules;
      stands = search rules;
      fault = search rules;
    }

pub returns-in-Some : goal.returns-in-Some
returns-in-Some g c = record {
  told = λ clean.
      let viewed = c.write_month.ensures.asks.cleanness clean in
      let b = c.args.shelf.now in
      let q = c.args.query.now in
      let old = (g.K.Keeper.seen c.args.keeper.now).tables in
      let w0 = g.W.Write.contents c.args.writer.now in
      let w1 = g.W.Write.contents c.write_month.new.writer in
      subst (IsMonthTold b q c.args.moment old w0 w1) (sym c.month_ended.ensures)
      (month_told b q c.args.moment old w0 w1 c.in_ok-state.state c.in-Some.state
      (g.K.Keeper.seen c.account_state.new.keeper).tables (month_ended c.write_month.result)
      (c.in_ok-state.ensures.found viewed) c.in-Some.is (c.in_ok-state.ensures.same viewed)
      (tells_ended _ _ _ _ c.write_month.result (c.write_month.ensures.writes clean)));
  ended = ended_done c.write_month.result c.month_ended.result _ c.month_ended.ensures;
  printed = some_printed c.args.shelf.now c.args.query.now c.in-Some.state.moment
      c.in-Some.state.buckets.items (g.W.Write.contents c.args.writer.now)
      (g.W.Write.contents c.write_month.new.writer) c.write_month.result c.month_ended.result
      c.month_ended.ensures c.write_month.ensures.some;
  begun = some_begun c.args.shelf.now c.args.query.now c.in-Some.state.moment
      c.in-Some.state.buckets.items (g.W.Write.contents c.args.writer.now)
      (g.W.Write.contents c.write_month.new.writer) c.write_month.result c.month_ended.result
      c.month_ended.ensures c.write_month.ensures.some;
  reads = subst (OnlyReadsMonth (g.K.Keeper.seen c.args.keeper.now)
      (g.K.Keeper.seen c.write_month.new.keeper)) (sym c.month_ended.ensures)
      (reads_asked (g.K.Keeper.seen c.args.keeper.now) (g.K.Keeper.seen c.account_state.new.keeper)
      (g.K.Keeper.seen c.write_month.new.keeper) c.write_month.result c.in_ok-state.ensures.same
      c.in_ok-state.ensures.left c.in_ok-state.ensures.cleanness c.in_ok-state.ensures.honesty
      c.in_ok-state.ensures.cause.kept c.write_month.ensures.asks);
  stands = λ honest.
      subst (λ (x : Result Status OfficeFault). OnOk x
      (g.K.Keeper.seen c.write_month.new.keeper).clean) (sym c.month_ended.ensures)
      (ended_stands c.write_month.result (g.K.Keeper.seen c.write_month.new.keeper).clean
      (c.write_month.ensures.asks.stands honest));
  fault = λ fault told.
      no_reading c.month_ended.result fault
      (subst (λ (r : Result Status OfficeFault). IsNoReading r) (sym c.month_ended.ensures)
      (month_unread c.write_month.result)) told;
}

pub returns-in-None : goal.returns-in-None
returns-in-None g c = record {
  told = λ clean.
      unknown_told c.args.shelf.now c.args.query.now c.args.moment
      (g.K.Keeper.seen c.args.keeper.now).tables
      (g.W.Write.contents c.args.writer.now) (g.W.Write.contents c.tell_unknown.new.writer)
      c.in_ok-state.state c.tell_unknown.result (c.in_ok-state.ensures.found clean) c.in-None.is
      c.tell_unknown.ensures.told;
  ended = search rules;
  printed = unknown_printed c.args.shelf.now c.args.query.now (g.W.Write.contents c.args.writer.now)
      (g.W.Write.contents c.tell_unknown.new.writer) c.tell_unknown.result
      c.tell_unknown.ensures.told;
  begun = unknown_begun c.args.shelf.now c.args.query.now (g.W.Write.contents c.args.writer.now)
      (g.W.Write.contents c.tell_unknown.new.writer) c.tell_unknown.result
      c.tell_unknown.ensures.told;
  reads = record {
    same = λ clean. c.in_ok-state.ensures.same clean;
    left = c.in_ok-state.ensures.left;
    cleanness = λ clean. c.in_ok-state.ensures.cleanness clean;
    honesty = c.in_ok-state.ensures.honesty;
    kept = c.in_ok-state.ensures.cause.kept;
    cause = λ failed. absurd (c.tell_unknown.ensures.unstored failed);
  };
  stands = λ honest.
      on_ok c.tell_unknown.result (c.in_ok-state.ensures.stands honest);
  fault = search rules;
}
