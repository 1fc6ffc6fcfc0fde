-- The text of the answer to a sweep.
use Rattle.std.proofs.Common.{◌≡◌, ◌∙◌, ℕ, List, [], ◌++◌, ap, sym, refl, codes}
use Rattle.std.proofs.lemmas.List.{append_assoc}
use Rattle.std.specs.Fmt.{decimal, digits}
use Rattle.json.specs.Print.{escape_byte}
use Rattle.commands.specs.declared.answer.Answer.TheVariants as answer
use Rattle.wire.specs.Spelled.{answer_data, answer_text}

pub swept_text : (n : ℕ) →
    answer_text (answer.Swept n)
    ≡ codes "{\"Accounts\":" ++ (decimal n ++ codes ",\"Result-Code\":2001}")
unfolding answer_text answer_data escape_byte digits
swept_text n = refl

-- three parts, one after another, are it
pub swept_parts : (n : ℕ) (none one two all told : List ℕ) → none ≡ [] → told ≡ decimal n →
    one ≡ none ++ codes "{\"Accounts\":" → two ≡ one ++ told →
    all ≡ two ++ codes ",\"Result-Code\":2001}" → all ≡ answer_text (answer.Swept n)
swept_parts n none one two all told empty number first second third =
    third ∙ ap (λ (x : List ℕ). x ++ codes ",\"Result-Code\":2001}")
    (second ∙ (λ i. first i ++ number i) ∙ ap (λ (x : List ℕ). (x ++ codes "{\"Accounts\":")
    ++ decimal n) empty)
    ∙ append_assoc (codes "{\"Accounts\":") (decimal n) (codes ",\"Result-Code\":2001}")
    ∙ sym (swept_text n)
