-- Texts of answers, each with the answer that it says.
use Rattle.std.proofs.Common.{◌≡◌, ◌∙◌, ap, sym, ℕ, Bool, List, Ok}
use Rattle.commands.specs.declared.answer.Answer.{Answer}
use Rattle.wire.specs.ReadingAnswers.{answer_of, answer_said, is_refusal, said_or_done}
use Rattle.wire.specs.Spelled.{answer_text}

pub said_is : (bytes : List ℕ) (a : Answer) → answer_of bytes ≡ Ok a → answer_said bytes ≡ a
said_is bytes a e = ap said_or_done e

pub text_says : (bytes : List ℕ) (a : Answer) (refused : Bool) → bytes ≡ answer_text a
    → answer_of bytes ≡ Ok a → refused ≡ is_refusal a
    → (bytes ≡ answer_text (answer_said bytes)) × (answer_of bytes ≡ Ok (answer_said bytes))
    × (refused ≡ is_refusal (answer_said bytes))
text_says bytes a refused text says told = (
  text ∙ ap answer_text (sym (said_is bytes a says)),
  says ∙ ap Ok (sym (said_is bytes a says)),
  told ∙ ap is_refusal (sym (said_is bytes a says)),
)
