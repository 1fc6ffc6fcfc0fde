use Rattle.std.proofs.Common.{rules, inr}
use Rattle.sqlite_wal.specs.Files.{image_at}
use Rattle.operations.specs.Months.{unknown_line}
use Rattle.operations.proofs.Beginnings.{nothing_written, on_err}
use Rattle.service.specs.Over.{IsMonthDone}
use Rattle.service.proofs.OverLemmas.{over_from}
use Rattle.service.proofs.stating.state_over.Goals as goal

pub returns : goal.returns
returns g c = record {
  told = over_from (image_at g.S.Start) _ _ c.tell_over.result (λ r. r.1)
      (λ r. IsMonthDone c.args.words (g.O.Write.contents c.args.output.now)
      (g.O.Write.contents c.tell_over.new.output) r.0) c.in_ok-office.ensures.opened
      c.tell_over.ensures.honesty c.tell_over.ensures.done;
  printed = search rules;
  begun = search rules;
  ended = search rules;
  unwritten = search rules;
  fault = search rules;
}

pub returns-in_err-moment : goal.returns-in_err-moment
returns-in_err-moment g c = record {
  told = search rules;
  printed = search rules;
  begun = on_err c.from_residual.result (inr (nothing_written _ unknown_line));
  ended = search rules;
  unwritten = search rules;
  fault = search rules;
}

pub returns-in_err-office : goal.returns-in_err-office
returns-in_err-office g c = record {
  told = search rules;
  printed = search rules;
  begun = on_err c.from_residual-in_err-office.result (inr (nothing_written _ unknown_line));
  ended = search rules;
  unwritten = search rules;
  fault = search rules;
}
