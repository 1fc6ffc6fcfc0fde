use Rattle.std.proofs.Common.{ℕ, List, Option, IfSome, subst}
use Rattle.operations.proofs.Beginnings.{on_err}
use Rattle.operations.proofs.request_lines.Ended.{none_begun}
use Rattle.operations.specs.LinesServed.{BeginsLines, TellsLines}
use Rattle.ocs.specs.Replayed.{IsReplayDone}
use Rattle.ocs.proofs.Buffers.{buffer_unread}
use Rattle.ocs.proofs.replaying.answer_reader.Goals as goal

pub returns-in_default-clause-begun : goal.returns-in_default-clause-begun
returns-in_default-clause-begun g c =
    none_begun (g.O.Write.contents c.args.output.now) (g.R.Read.remaining c.args.reader)

pub returns-clause-done : goal.returns-clause-done
returns-clause-done g c = λ clean honest.
    subst (λ (bytes : Option (List ℕ)). IfSome bytes (λ stream. IsReplayDone stream
    (g.O.Write.contents c.args.output.now) (g.O.Write.contents c.answer_requests.new.output)
    c.args.shelf.now (g.K.Keeper.seen c.args.keeper.now).tables
    (g.K.Keeper.seen c.answer_requests.new.keeper).tables))
    (buffer_unread c.in-Ok.buffered c.args.reader g.R.Read.remaining c.in-Ok.ensures.capacity
    c.in-Ok.ensures.empty c.in-Ok.ensures.inner)
    (c.in_ok-answer_requests.ensures.answers.answered
    (c.in_ok-answer_requests.ensures.stands honest clean))

pub returns-clause-told : goal.returns-clause-told
returns-clause-told g c =
    subst (λ (bytes : Option (List ℕ)). IfSome bytes (TellsLines
    (g.O.Write.contents c.args.output.now) (g.O.Write.contents c.answer_requests.new.output)))
    (buffer_unread c.in-Ok.buffered c.args.reader g.R.Read.remaining c.in-Ok.ensures.capacity
    c.in-Ok.ensures.empty c.in-Ok.ensures.inner) c.in_ok-answer_requests.ensures.told

pub returns-in_err-answer_requests-clause-begun : goal.returns-in_err-answer_requests-clause-begun
returns-in_err-answer_requests-clause-begun g c =
    on_err c.from_residual.result (subst (λ (bytes : Option (List ℕ)). IfSome bytes (BeginsLines
    (g.O.Write.contents c.args.output.now) (g.O.Write.contents c.answer_requests.new.output)))
    (buffer_unread c.in-Ok.buffered c.args.reader g.R.Read.remaining c.in-Ok.ensures.capacity
    c.in-Ok.ensures.empty c.in-Ok.ensures.inner) c.in_err-answer_requests.ensures.begun)
