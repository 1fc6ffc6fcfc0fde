use Rattle.std.proofs.Common.{rules, refl, inr}
use Rattle.sqlite_wal.specs.Files.{image_at}
use Rattle.operations.proofs.Beginnings.{on_err}
use Rattle.service.proofs.ClockLemmas.{begun_by, shown_by}
use Rattle.service.proofs.civil_clock.clock_over.Goals as goal

pub returns : goal.returns
returns g c = record {
  shown = shown_by (image_at g.S.Start) c.args.words.now (g.O.Write.contents c.args.output.now)
      (g.O.Write.contents c.show_clock.new.output) c.in_ok-office.office.keeper
      c.in_ok-office.office.shelf c.show_clock.result c.in_ok-office.ensures.opened
      c.show_clock.ensures.same c.show_clock.ensures.shown;
  begun = begun_by c.args.words.now (g.O.Write.contents c.args.output.now)
      (g.O.Write.contents c.show_clock.new.output) c.in_ok-office.office.shelf
      c.show_clock.result c.show_clock.ensures.begun;
  unwritten = search rules;
  fault = search rules;
}

pub returns-in_err-office : goal.returns-in_err-office
returns-in_err-office g c = record {
  shown = search rules;
  begun = on_err c.from_residual.result (inr refl);
  unwritten = search rules;
  fault = search rules;
}
