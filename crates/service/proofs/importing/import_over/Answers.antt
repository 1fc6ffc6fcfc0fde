use Rattle.std.proofs.Common.{rules}
use Rattle.sqlite_wal.specs.Files.{image_at}
use Rattle.service.specs.Over.{IsImportDone}
use Rattle.service.proofs.OverLemmas.{read_from}
use Rattle.service.proofs.importing.import_over.Goals as goal

pub returns : goal.returns
returns g c = record {
  imported = read_from (image_at g.S.Start) _ _ c.add_over.result (g.R.Read.remaining c.args.reader)
      (λ keeper. keeper) (λ text keeper. IsImportDone c.args.words.now text
      (g.O.Write.contents c.args.output.now) (g.O.Write.contents c.add_over.new.output))
      c.in_ok-office.ensures.opened c.add_over.ensures.honesty c.add_over.ensures.done;
  printed = search rules;
  unwritten = search rules;
  fault = search rules;
}
