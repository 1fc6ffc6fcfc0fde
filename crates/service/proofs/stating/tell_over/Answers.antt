use Rattle.std.proofs.Common.{Ok}
use Rattle.operations.proofs.Beginnings.{on_err}
use Rattle.service.proofs.OverLemmas.{begins_of, month_done, prints_of, tells_of}
use Rattle.service.proofs.stating.tell_over.Goals as goal

pub returns-clause-done : goal.returns-clause-done
returns-clause-done g c = λ honest.
    month_done c.args.words c.args.moment _ _ _ _ _ _ c.requires
    (tells_of c.args.words _ c.query_of-query.result c.args.moment _ _ _ (Ok _)
    c.query_of-query.ensures (c.in_ok-status.ensures.told (c.in_ok-status.ensures.stands honest)))
    (c.in_ok-status.ensures.reads.same (c.in_ok-status.ensures.stands honest))

pub returns-clause-printed : goal.returns-clause-printed
returns-clause-printed g c =
    prints_of c.args.words _ c.query_of-query.result _ _ _ c.query_of-query.ensures
    c.in_ok-status.ensures.printed

pub returns-in_err-status-clause-begun : goal.returns-in_err-status-clause-begun
returns-in_err-status-clause-begun g c =
    on_err c.from_residual.result (begins_of c.args.words _ c.query_of-query.result _ _
    c.query_of-query.ensures c.in_err-status.ensures.begun)
