use Rattle.std.proofs.Common.{Err, refl}
use Rattle.std.proofs.lemmas.Result.{err_from_is_err_and}
use Rattle.ocs.proofs.EndLemmas.{writer_failed}
use Rattle.ocs.proofs.making.print_done.Goals as goal

pub returns-in_err-write_whole-clause-reached : goal.returns-in_err-write_whole-clause-reached
returns-in_err-write_whole-clause-reached g c =
    let p = err_from_is_err_and c.from_residual.result c.from_residual.ensures.1 in
    rw (p.1, p.2) (writer_failed (Err _) _ refl c.in_err-write_whole.ensures.fault)
