use Rattle.std.proofs.Common.{rules, []}
use Rattle.statements.specs.Texts.{charge_texts, of_month, sums_of, head_text, foot_text}
use Rattle.statements.specs.declared.rows.Form.TheVariants.{Lines}
use Rattle.statements.proofs.Beginnings.{begun_first, begun_second, three_begun, three_written}
use Rattle.statements.proofs.MonthLemmas.{err_some, err_writes}
use Rattle.statements.proofs.stating.statement.Goals as goal

pub returns-in_err-write_head : goal.returns-in_err-write_head
returns-in_err-write_head g c = record {
  writes = λ clean.
      err_writes _ _ _ _ c.from_residual.result c.from_residual.ensures.0 (λ rows are.
      let month = of_month c.args.asked.now.book.now c.args.asked.now.month rows in
      begun_first (foot_text (sums_of month) c.args.buckets.now)
      (begun_first (charge_texts Lines month) c.in_err-write_head.ensures.err));
  some = let month = of_month c.args.asked.now.book.now c.args.asked.now.month [] in
      err_some _ _ _ c.from_residual.result c.from_residual.ensures.0 []
      (begun_first (foot_text (sums_of month) c.args.buckets.now)
      (begun_first (charge_texts Lines month) c.in_err-write_head.ensures.err));
  asks = search rules;
}

pub returns-in_err-sums : goal.returns-in_err-sums
returns-in_err-sums g c = record {
  writes = λ clean.
      err_writes _ _ _ _ c.from_residual-in_err-sums.result
      c.from_residual-in_err-sums.ensures.0 (λ rows are.
      let month = of_month c.args.asked.now.book.now c.args.asked.now.month rows in
      begun_first (foot_text (sums_of month) c.args.buckets.now)
      (begun_second (g.W.Write.contents c.args.writer.now)
      (g.W.Write.contents c.write_head.new.writer)
      (g.W.Write.contents c.write_charges.new.writer)
      (head_text c.args.asked.now.account.now c.args.asked.now.month c.args.moment)
      (charge_texts Lines month) c.in_ok-write_head.ensures.written
      ((c.in_err-sums.ensures.writes clean).beginning rows are)));
  some = let some = c.in_err-sums.ensures.some in
      let month = of_month c.args.asked.now.book.now c.args.asked.now.month some.rows in
      err_some _ _ _ c.from_residual-in_err-sums.result c.from_residual-in_err-sums.ensures.0
      some.rows
      (begun_first (foot_text (sums_of month) c.args.buckets.now)
      (begun_second (g.W.Write.contents c.args.writer.now)
      (g.W.Write.contents c.write_head.new.writer)
      (g.W.Write.contents c.write_charges.new.writer)
      (head_text c.args.asked.now.account.now c.args.asked.now.month c.args.moment)
      (charge_texts Lines month) c.in_ok-write_head.ensures.written some.beginning));
  asks = search rules;
}

pub returns-in_err-write_foot : goal.returns-in_err-write_foot
returns-in_err-write_foot g c = record {
  writes = λ clean.
      err_writes _ _ _ _ c.from_residual-in_err-write_foot.result
      c.from_residual-in_err-write_foot.ensures.0 (λ rows are.
      let month = of_month c.args.asked.now.book.now c.args.asked.now.month rows in
      three_begun (g.W.Write.contents c.args.writer.now)
      (g.W.Write.contents c.write_head.new.writer)
      (g.W.Write.contents c.write_charges.new.writer) (g.W.Write.contents c.write_foot.new.writer)
      (head_text c.args.asked.now.account.now c.args.asked.now.month c.args.moment)
      (charge_texts Lines month) (λ s. foot_text s c.args.buckets.now) _ (sums_of month)
      (c.in_ok-sums.ensures.sums clean rows are) c.in_ok-write_head.ensures.written
      ((c.in_ok-sums.ensures.writes clean).whole rows are) c.in_err-write_foot.ensures.err);
  some = let some = c.in_ok-sums.ensures.some in
      let month = of_month c.args.asked.now.book.now c.args.asked.now.month some.rows in
      err_some _ _ _ c.from_residual-in_err-write_foot.result
      c.from_residual-in_err-write_foot.ensures.0 some.rows
      (three_begun (g.W.Write.contents c.args.writer.now)
      (g.W.Write.contents c.write_head.new.writer)
      (g.W.Write.contents c.write_charges.new.writer) (g.W.Write.contents c.write_foot.new.writer)
      (head_text c.args.asked.now.account.now c.args.asked.now.month c.args.moment)
      (charge_texts Lines month) (λ s. foot_text s c.args.buckets.now) _ (sums_of month)
      some.whole.0 c.in_ok-write_head.ensures.written some.whole.1 c.in_err-write_foot.ensures.err);
  asks = search rules;
}

pub returns : goal.returns
returns g c = record {
  writes = λ clean. record {
    whole = λ rows are.
        let month = of_month c.args.asked.now.book.now c.args.asked.now.month rows in
        three_written (g.W.Write.contents c.args.writer.now)
        (g.W.Write.contents c.write_head.new.writer)
        (g.W.Write.contents c.write_charges.new.writer) (g.W.Write.contents c.write_foot.new.writer)
        (head_text c.args.asked.now.account.now c.args.asked.now.month c.args.moment)
        (charge_texts Lines month) (λ s. foot_text s c.args.buckets.now) _ (sums_of month)
        (c.in_ok-sums.ensures.sums clean rows are) c.in_ok-write_head.ensures.written
        ((c.in_ok-sums.ensures.writes clean).whole rows are) c.in_ok-write_foot.ensures.written;
    beginning = λ rows are. tt;
  };
  some = let some = c.in_ok-sums.ensures.some in
      let month = of_month c.args.asked.now.book.now c.args.asked.now.month some.rows in
      record {
        rows = some.rows;
        whole = three_written (g.W.Write.contents c.args.writer.now)
            (g.W.Write.contents c.write_head.new.writer)
            (g.W.Write.contents c.write_charges.new.writer)
            (g.W.Write.contents c.write_foot.new.writer)
            (head_text c.args.asked.now.account.now c.args.asked.now.month c.args.moment)
            (charge_texts Lines month) (λ s. foot_text s c.args.buckets.now) _ (sums_of month)
            some.whole.0 c.in_ok-write_head.ensures.written some.whole.1
            c.in_ok-write_foot.ensures.written;
        beginning = tt;
      };
  asks = search rules;
}
