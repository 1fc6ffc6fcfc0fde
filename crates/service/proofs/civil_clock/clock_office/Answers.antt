use Rattle.std.proofs.Common.{rules}
use Rattle.service.proofs.civil_clock.clock_office.Goals as goal

pub returns : goal.returns
returns g c = record {
  printed = record {
    shelf = c.in_ok-clock_over.ensures.shown.shelf;
    printed = c.in_ok-clock_over.ensures.shown.printed;
  };
  begun = search rules;
  unwritten = search rules;
  fault = search rules;
}
