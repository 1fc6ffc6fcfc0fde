use Rattle.std.proofs.Common.{refl, sym, ap, subst, ◌∙◌, rules}
use Rattle.std.specs.Prelude.{is_some}
use Rattle.std.specs.Io.KnownBytes.{Appends}
use Rattle.statements.specs.Months.{cycle_of_month}
use Rattle.statements.specs.Texts.{charge_texts, of_month, WritesBeginning}
use Rattle.statements.proofs.MonthLemmas.{Begins, wrote_all, begun_name, begun_text, err_writes}
use Rattle.statements.proofs.MonthLemmas.{begun_some, err_summed, sums_from, sums_are, wrote_some}
use Rattle.statements.proofs.stating.write_charges.Goals as goal

pub returns-in_err-each-clause-writes : goal.returns-in_err-each-clause-writes
returns-in_err-each-clause-writes g c = λ clean.
    let h : Begins c.args.asked.now.book.now (cycle_of_month c.args.asked.now.month) c.args.form _ =
    record { fault = refl; book = refl; cycle = c.cycle_of_month.ensures; form = refl } in
    err_writes _ _ _ _ c.from_residual.result c.from_residual.ensures.0
    (λ rows are.
    let shown = c.in_err-each.ensures.beginning clean in
    let name = begun_name g.W.Write.contents c.args.asked.now.book.now c.args.asked.now.month
    c.args.form ((g.S.Keeper.seen c.args.source.now).tables.charges c.args.asked.now.account.now)
    c.first.result c.no_end.result c.first.ensures c.no_end.ensures _ c.each.new.visitor
    h shown rows are in
    let text = begun_text g.W.Write.contents c.args.asked.now.book.now c.args.asked.now.month
    c.args.form ((g.S.Keeper.seen c.args.source.now).tables.charges c.args.asked.now.account.now)
    c.first.result c.no_end.result c.first.ensures c.no_end.ensures _ c.each.new.visitor
    h shown rows are in
    subst (λ x. WritesBeginning (g.W.Write.contents c.args.writer.now) (g.W.Write.contents x)
    (charge_texts c.args.form (of_month c.args.asked.now.book.now c.args.asked.now.month rows)))
    (let same = sym name in search (rules, same)) text)

pub returns-in-None-clause-writes : goal.returns-in-None-clause-writes
returns-in-None-clause-writes g c = λ clean. record {
  whole = λ rows are.
      let w = wrote_all g.W.Write.contents c.args.asked.now.book.now c.args.asked.now.month
      c.args.form ((g.S.Keeper.seen c.args.source.now).tables.charges c.args.asked.now.account.now)
      c.first.result c.no_end.result c.first.ensures c.no_end.ensures _ c.each.new.visitor
      (record { fault = refl; book = refl; cycle = c.cycle_of_month.ensures; form = refl })
      (c.in_ok-each.ensures.reads.found clean) rows are in
      subst (λ x. Appends (g.W.Write.contents c.args.writer.now) (g.W.Write.contents x)
      (charge_texts c.args.form (of_month c.args.asked.now.book.now c.args.asked.now.month rows)))
      (let name = sym w.writer in search (rules, name)) (w.text c.in-None.is);
  beginning = λ rows are. tt;
}

pub returns-in-None-clause-sums : goal.returns-in-None-clause-sums
returns-in-None-clause-sums g c = λ clean rows are.
    let w = wrote_all g.W.Write.contents c.args.asked.now.book.now c.args.asked.now.month
    c.args.form ((g.S.Keeper.seen c.args.source.now).tables.charges c.args.asked.now.account.now)
    c.first.result c.no_end.result c.first.ensures c.no_end.ensures _ c.each.new.visitor
    (record { fault = refl; book = refl; cycle = c.cycle_of_month.ensures; form = refl })
    (c.in_ok-each.ensures.reads.found clean) rows are in
    w.sums c.in-None.is
    ∙ ap (λ s. sums_from s (of_month c.args.asked.now.book.now c.args.asked.now.month rows))
    c.none.ensures
    ∙ sums_are (of_month c.args.asked.now.book.now c.args.asked.now.month rows)

pub returns-in-Some-clause-writes : goal.returns-in-Some-clause-writes
returns-in-Some-clause-writes g c = λ clean. record {
  whole = λ rows are. tt;
  beginning = λ rows are.
      let w = wrote_all g.W.Write.contents c.args.asked.now.book.now c.args.asked.now.month
      c.args.form ((g.S.Keeper.seen c.args.source.now).tables.charges c.args.asked.now.account.now)
      c.first.result c.no_end.result c.first.ensures c.no_end.ensures _ c.each.new.visitor
      (record { fault = refl; book = refl; cycle = c.cycle_of_month.ensures; form = refl })
      (c.in_ok-each.ensures.reads.found clean) rows are in
      subst (λ x. WritesBeginning (g.W.Write.contents c.args.writer.now) (g.W.Write.contents x)
      (charge_texts c.args.form (of_month c.args.asked.now.book.now c.args.asked.now.month rows)))
      (let name = sym w.writer in search (rules, name)) (w.begun (ap is_some c.in-Some.is));
}

pub returns-in_err-each-clause-some : goal.returns-in_err-each-clause-some
returns-in_err-each-clause-some g c =
    let h : Begins c.args.asked.now.book.now (cycle_of_month c.args.asked.now.month) c.args.form _ =
    record { fault = refl; book = refl; cycle = c.cycle_of_month.ensures; form = refl } in
    let shown = c.in_err-each.ensures.shown in
    let w = wrote_some g.W.Write.contents c.args.asked.now.book.now c.args.asked.now.month
    c.args.form
    c.first.result c.no_end.result c.first.ensures c.no_end.ensures _ c.each.new.visitor h shown in
    let text = begun_some g.W.Write.contents c.args.asked.now.book.now c.args.asked.now.month
    c.args.form c.first.result c.no_end.result c.first.ensures c.no_end.ensures _
    c.each.new.visitor h shown in
    err_summed _ _ c.args.form (of_month c.args.asked.now.book.now c.args.asked.now.month)
    c.from_residual.result c.from_residual.ensures.0 shown.rows
    (subst (λ x. WritesBeginning (g.W.Write.contents c.args.writer.now) (g.W.Write.contents x)
    (charge_texts c.args.form
    (of_month c.args.asked.now.book.now c.args.asked.now.month shown.rows)))
    (let same = sym w.writer in search (rules, same)) text)

pub returns-in-None-clause-some : goal.returns-in-None-clause-some
returns-in-None-clause-some g c =
    let shown = c.in_ok-each.ensures.shown in
    let w = wrote_some g.W.Write.contents c.args.asked.now.book.now c.args.asked.now.month
    c.args.form c.first.result c.no_end.result c.first.ensures c.no_end.ensures _ c.each.new.visitor
    (record { fault = refl; book = refl; cycle = c.cycle_of_month.ensures; form = refl }) shown in
    record {
      rows = shown.rows;
      whole = (
        w.sums c.in-None.is
            ∙ ap (λ s. sums_from s
            (of_month c.args.asked.now.book.now c.args.asked.now.month shown.rows)) c.none.ensures
            ∙ sums_are (of_month c.args.asked.now.book.now c.args.asked.now.month shown.rows),
        subst (λ x. Appends (g.W.Write.contents c.args.writer.now) (g.W.Write.contents x)
            (charge_texts c.args.form
            (of_month c.args.asked.now.book.now c.args.asked.now.month shown.rows)))
            (let name = sym w.writer in search (rules, name)) (w.text c.in-None.is),
      );
      beginning = tt;
    }

pub returns-in-Some-clause-some : goal.returns-in-Some-clause-some
returns-in-Some-clause-some g c =
    let shown = c.in_ok-each.ensures.shown in
    let w = wrote_some g.W.Write.contents c.args.asked.now.book.now c.args.asked.now.month
    c.args.form c.first.result c.no_end.result c.first.ensures c.no_end.ensures _ c.each.new.visitor
    (record { fault = refl; book = refl; cycle = c.cycle_of_month.ensures; form = refl }) shown in
    record {
      rows = shown.rows;
      whole = tt;
      beginning = subst (λ x. WritesBeginning (g.W.Write.contents c.args.writer.now)
          (g.W.Write.contents x) (charge_texts c.args.form
          (of_month c.args.asked.now.book.now c.args.asked.now.month shown.rows)))
          (let name = sym w.writer in search (rules, name)) (w.begun (ap is_some c.in-Some.is));
    }
