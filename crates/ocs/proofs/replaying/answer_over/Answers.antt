use Rattle.ocs.proofs.replaying.answer_over.Goals as goal

pub returns-clause-done : goal.returns-clause-done
returns-clause-done g c = λ clean honest. c.in_ok-answer_reader.ensures.done clean honest
