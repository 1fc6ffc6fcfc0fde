use Rattle.std.proofs.Common.{rules}
use Rattle.sqlite_wal.specs.Files.{image_at}
use Rattle.service.specs.Over.{IsCommandDone}
use Rattle.service.proofs.OverLemmas.{over_from}
use Rattle.service.proofs.commanding.command_over.Goals as goal

pub returns : goal.returns
returns g c = record {
  carried = over_from (image_at g.S.Start) _ _ c.carry_over.result (λ r. r.1)
      (λ r. IsCommandDone c.args.words (g.O.Write.contents c.args.output.now)
      (g.O.Write.contents c.carry_over.new.output) r.0) c.in_ok-office.ensures.opened
      c.carry_over.ensures.honesty c.carry_over.ensures.done;
  printed = search rules;
  unwritten = search rules;
  fault = search rules;
}
