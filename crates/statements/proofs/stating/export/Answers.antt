use Rattle.std.proofs.Common.{rules, []}
use Rattle.std.proofs.KnownBytes.{Appends-trans}
use Rattle.statements.specs.Records.{header_record}
use Rattle.statements.specs.Texts.{charge_texts, of_month}
use Rattle.statements.specs.declared.rows.Form.TheVariants.{Records}
use Rattle.statements.proofs.Beginnings.{begun_first, begun_second}
use Rattle.statements.proofs.MonthLemmas.{err_some, err_writes}
use Rattle.statements.proofs.stating.export.Goals as goal

pub returns-in_err-write_header : goal.returns-in_err-write_header
returns-in_err-write_header g c = record {
  writes = λ clean.
      err_writes _ _ _ _ c.from_residual.result c.from_residual.ensures.0 (λ rows are.
      begun_first
      (charge_texts Records (of_month c.args.asked.now.book.now c.args.asked.now.month rows))
      c.in_err-write_header.ensures.err);
  some = err_some _ _ _ c.from_residual.result c.from_residual.ensures.0 []
      (begun_first (charge_texts Records
      (of_month c.args.asked.now.book.now c.args.asked.now.month []))
      c.in_err-write_header.ensures.err);
  asks = search rules;
}

pub returns-in_err-write_charges : goal.returns-in_err-write_charges
returns-in_err-write_charges g c = record {
  writes = λ clean.
      err_writes _ _ _ _ c.from_residual-in_err-write_charges.result
      c.from_residual-in_err-write_charges.ensures.0 (λ rows are.
      begun_second (g.W.Write.contents c.args.writer.now)
      (g.W.Write.contents c.write_header.new.writer)
      (g.W.Write.contents c.write_charges.new.writer) header_record
      (charge_texts Records (of_month c.args.asked.now.book.now c.args.asked.now.month rows))
      c.in_ok-write_header.ensures.written
      ((c.in_err-write_charges.ensures.writes clean).beginning rows are));
  some = let some = c.in_err-write_charges.ensures.some in
      err_some _ _ _ c.from_residual-in_err-write_charges.result
      c.from_residual-in_err-write_charges.ensures.0 some.rows
      (begun_second (g.W.Write.contents c.args.writer.now)
      (g.W.Write.contents c.write_header.new.writer)
      (g.W.Write.contents c.write_charges.new.writer) header_record
      (charge_texts Records (of_month c.args.asked.now.book.now c.args.asked.now.month some.rows))
      c.in_ok-write_header.ensures.written some.beginning);
  asks = search rules;
}

pub returns : goal.returns
returns g c = record {
  writes = λ clean. record {
    whole = λ rows are.
        Appends-trans (g.W.Write.contents c.args.writer.now)
        (g.W.Write.contents c.write_header.new.writer)
        (g.W.Write.contents c.write_charges.new.writer) header_record
        (charge_texts Records (of_month c.args.asked.now.book.now c.args.asked.now.month rows))
        c.in_ok-write_header.ensures.written
        ((c.in_ok-write_charges.ensures.writes clean).whole rows are);
    beginning = λ rows are. tt;
  };
  some = let some = c.in_ok-write_charges.ensures.some in
      record {
        rows = some.rows;
        whole = Appends-trans (g.W.Write.contents c.args.writer.now)
            (g.W.Write.contents c.write_header.new.writer)
            (g.W.Write.contents c.write_charges.new.writer) header_record
            (charge_texts Records
            (of_month c.args.asked.now.book.now c.args.asked.now.month some.rows))
            c.in_ok-write_header.ensures.written some.whole.1;
        beginning = tt;
      };
  asks = search rules;
}
