-- The texts of a command and its answer that are read, or aren't, under the columns of a key.
use Rattle.std.proofs.Common.{◌≡◌, ◌∙◌, ◌&&◌, ap, sym, subst, refl, Bool, true, false, List, [], ℕ}
use Rattle.std.specs.Prelude.{Result, Ok, Err, Option, Some, None, if◌then◌else◌, unwrap_or}
use Rattle.identifiers.specs.Texts.{is_account_number, same_name}
use Rattle.commands.specs.Keys.{key_of}
use Rattle.commands.specs.declared.answer.Answer.{Answer}
use Rattle.commands.specs.declared.command.Content.{Content}
use Rattle.json_fields.specs.declared.fault.WireFault.{WireFault}
use Rattle.ledger.proofs.Holds.{same_itself}
use Rattle.wire.specs.Contents.{content_of, content_text, is_own_text, is_content_text}
use Rattle.wire.specs.ReadingAnswers.{answer_of, is_answer_text, is_own_answer}
use Rattle.wire.specs.Spelled.{answer_text}
use Rattle.sql_rules.specs.Rules.{are_kept_texts, are_texts_of, is_answer_to, is_kept_answer}
use Rattle.sql_rules.specs.Rules.{is_under}

-- ---- the answer

-- what is read is the text of its answer, so only whether it is one to the command is left
-- rule: rows-ruled.answered
pub read_answered : (c : Content) (text : List ℕ) (x : Answer) (b : Bool) → answer_text x ≡ text
    → answer_of text ≡ Ok x → b ≡ is_answer_to c x → b ≡ is_kept_answer c text (answer_of text)
read_answered c text x b is said e =
    let own : same_name (answer_text x) text ≡ true =
    subst (λ t. same_name (answer_text x) t ≡ true) is (same_itself (answer_text x)) in
    e ∙ sym (ap (is_kept_answer c text) said ∙ ap (λ t. t && is_answer_to c x) own)

unanswered : (c : Content) (text : List ℕ) (r : Result Answer WireFault)
    → is_own_answer text r ≡ false → is_kept_answer c text r ≡ false
unanswered c text (Ok x) e = ap (λ t. t && is_answer_to c x) e
unanswered c text (Err f) e = refl

-- what isn't the text of an answer isn't that of one to the command
-- rule: rows-ruled.answered
pub none_answered : (c : Content) (text : List ℕ) (b : Bool) → b ≡ false
    → is_answer_text text ≡ false → b ≡ is_kept_answer c text (answer_of text)
none_answered c text b none e = none ∙ sym (unanswered c text (answer_of text) e)

-- ---- the command

-- what is read is the text of its content, so only the key and the answer are left
-- rule: rows-ruled.under
pub read_kept : (kind : ℕ) (name : List ℕ) (number : ℕ) (a text given : List ℕ) (c : Content)
    (b : Bool) → content_text c ≡ text → content_of a text ≡ Ok c
    → b ≡ (is_under (key_of c) kind name number && is_kept_answer c given (answer_of given))
    → b ≡ are_texts_of kind name number text given (content_of a text)
read_kept kind name number a text given c b is said e =
    let own : same_name (content_text c) text ≡ true =
    subst (λ t. same_name (content_text c) t ≡ true) is (same_itself (content_text c)) in
    e ∙ sym (ap (are_texts_of kind name number text given) said
    ∙ ap (λ t. t && is_under (key_of c) kind name number
    && is_kept_answer c given (answer_of given)) own)

unread : (kind : ℕ) (name : List ℕ) (number : ℕ) (text given : List ℕ)
    (r : Result Content WireFault)
    → is_own_text text r ≡ false → are_texts_of kind name number text given r ≡ false
unread kind name number text given (Ok c) e =
    ap (λ t. t && is_under (key_of c) kind name number
    && is_kept_answer c given (answer_of given)) e
unread kind name number text given (Err f) e = refl

-- what isn't the text of a content isn't that of one under a key
-- rule: rows-ruled.under
pub read_none : (kind : ℕ) (name : List ℕ) (number : ℕ) (a text given : List ℕ) (b : Bool)
    → b ≡ false → is_content_text a text ≡ false
    → b ≡ are_texts_of kind name number text given (content_of a text)
read_none kind name number a text given b none e =
    none ∙ sym (unread kind name number text given (content_of a text) e)

-- ---- the account

read_if : (t : Bool) (a x : List ℕ) (f : List ℕ → Bool)
    → Some x ≡ (if t then Some a else None) → f x ≡ (t && f a)
read_if true a x f e = ap (λ (o : Option (List ℕ)). f (unwrap_or o [])) e
read_if false a x f e = absurd (cc e)

-- the account that is read is the one of these bytes
pub kept_of_account : (kind : ℕ) (name : List ℕ) (number : ℕ) (a x text given : List ℕ)
    → Some x ≡ (if is_account_number a then Some a else None)
    → are_texts_of kind name number text given (content_of x text)
    ≡ are_kept_texts kind name number a text given
kept_of_account kind name number a x text given e =
    read_if (is_account_number a) a x
    (λ n. are_texts_of kind name number text given (content_of n text)) e
