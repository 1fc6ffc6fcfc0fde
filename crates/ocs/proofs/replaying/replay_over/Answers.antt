use Rattle.sqlite_wal.specs.Files.{image_at}
use Rattle.operations.proofs.Beginnings.{on_err}
use Rattle.operations.proofs.request_lines.Ended.{none_begun}
use Rattle.service.proofs.OverLemmas.{read_from}
use Rattle.ocs.specs.Replayed.{IsReplayDone}
use Rattle.ocs.proofs.replaying.replay_over.Goals as goal

pub returns-clause-answered : goal.returns-clause-answered
returns-clause-answered g c =
    read_from (image_at g.S.Start) _ _ c.answer_over.result (g.R.Read.remaining c.args.reader)
    (λ keeper. keeper) (λ stream keeper. IsReplayDone stream
    (g.O.Write.contents c.args.output.now) (g.O.Write.contents c.answer_over.new.output))
    c.in_ok-office.ensures.opened c.answer_over.ensures.honesty c.answer_over.ensures.done

pub returns-in_err-office-clause-begun : goal.returns-in_err-office-clause-begun
returns-in_err-office-clause-begun g c =
    on_err c.from_residual.result
    (none_begun (g.O.Write.contents c.args.output.now) (g.R.Read.remaining c.args.reader))
