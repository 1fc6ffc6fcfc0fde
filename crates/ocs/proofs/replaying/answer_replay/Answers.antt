use Rattle.std.proofs.Common.{inl, inr, refl}
use Rattle.operations.proofs.Beginnings.{on_err}
use Rattle.ocs.proofs.replaying.answer_replay.Goals as goal

pub returns-clause-printed : goal.returns-clause-printed
returns-clause-printed g c =
    record { file = c.in_ok-file.file; told = c.in_ok-replay_over.ensures.told }

pub returns-in_err-replay_over-clause-begun : goal.returns-in_err-replay_over-clause-begun
returns-in_err-replay_over-clause-begun g c =
    on_err c.from_residual-in_err-replay_over.result
    (inl (record { file = c.in_ok-file.file; begun = c.in_err-replay_over.ensures.begun }))

pub returns-in_err-file-clause-begun : goal.returns-in_err-file-clause-begun
returns-in_err-file-clause-begun g c = on_err c.from_residual.result (inr refl)
