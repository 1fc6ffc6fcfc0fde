use Rattle.std.proofs.Common.{◌∙◌, ap, refl, string_bytes}
use Rattle.commands.specs.declared.answer.Answer.TheVariants as answer
use Rattle.wire.specs.ReadingAnswers.{answer_of}
use Rattle.wire.proofs.AnswersAgain.{answers_again}
use Rattle.wire.proofs.SaidTexts.{said_is, text_says}
use Rattle.wire.proofs.written.AnswerRoom.swept.Goals as goal

pub invariant_of-result : goal.invariant_of-result
invariant_of-result c =
    text_says (string_bytes c.put_swept.new.text) (answer.Swept c.args.accounts) _
    c.put_swept.ensures.text
    (ap answer_of c.put_swept.ensures.text
    ∙ answers_again (answer.Swept c.args.accounts) c.put_swept.ensures.rule) refl

pub returns : goal.returns
returns c =
    said_is (string_bytes c.put_swept.new.text) (answer.Swept c.args.accounts)
    (ap answer_of c.put_swept.ensures.text
    ∙ answers_again (answer.Swept c.args.accounts) c.put_swept.ensures.rule)
