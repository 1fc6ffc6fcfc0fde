use Rattle.wire.proofs.AnswersAgain.{answers_again}
use Rattle.wire.proofs.writing.write_answer.Goals as goal

pub returns-clause-read_again : goal.returns-clause-read_again
returns-clause-read_again c =
    rw c.in_ok-text.ensures.text (answers_again c.args.answer.now c.in_ok-text.ensures.rule)
