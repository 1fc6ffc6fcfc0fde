-- Texts that were written of a command and its answer are those of both.
use Rattle.std.proofs.Common.{◌≡◌, ◌∙◌, ◌&&◌, ap, sym, subst, refl, Bool, List, ℕ, true, nat_eq}
use Rattle.std.proofs.Common.{false, inl, inr, true≢false}
use Rattle.std.specs.Prelude.{Ok, Result}
use Rattle.std.specs.Cmp.{unsigned_Decides}
use Rattle.std.proofs.lemmas.Bool.{and_from}
use Rattle.identifiers.specs.Texts.{is_account_number, same_name}
use Rattle.commands.specs.declared.answer.Answer.{Answer}
use Rattle.commands.specs.declared.command.Content.{Content}
use Rattle.commands.specs.Keys.{account_of, key_of}
use Rattle.commands.specs.declared.key.Key.{Key}
use Rattle.commands.specs.declared.key.Key.TheVariants.{Reference, Request}
use Rattle.ledger.proofs.Holds.{same_itself}
use Rattle.wire.specs.Contents.{content_of, content_text}
use Rattle.json_fields.specs.declared.fault.WireFault.{WireFault}
use Rattle.keepers.specs.declared.kept_answer.KeptAnswer.{KeptAnswer}
use Rattle.wire.specs.ReadingAnswers.{answer_of, said_or_done}
use Rattle.wire.specs.Spelled.{answer_text}
use Rattle.sql_rows.specs.Values.{Kept, reference_kind, request_kind}
use Rattle.sql_rules.specs.Rules.{are_kept_texts, are_texts_of, is_answer_to, is_kept_answer}
use Rattle.sql_rules.specs.Rules.{is_under}
use Rattle.sql_tables.specs.declared.reading.ReadFault.{ReadFault}
use Rattle.sql_tables.specs.declared.reading.ReadFault.TheVariants.{Memory, Rules}
use Rattle.sql_keeper.specs.RuledRows.{are_texts_under}
use Rattle.sql_keeper.specs.Writes.{IsFaultOfTexts}

own_answer : (c : Content) (x : Answer) (text : List ℕ) → text ≡ answer_text x
    → answer_of text ≡ Ok x → is_answer_to c x ≡ true
    → is_kept_answer c text (answer_of text) ≡ true
own_answer c x text is read to =
    ap (is_kept_answer c text) read
    ∙ and_from (same_name (answer_text x) text) (is_answer_to c x)
    (subst (λ t. same_name (answer_text x) t ≡ true) (sym is) (same_itself (answer_text x))) to

-- under the columns of its own key
own_content : (kind : ℕ) (name : List ℕ) (number : ℕ) (a : List ℕ) (c : Content)
    (text given : List ℕ)
    → text ≡ content_text c → account_of c ≡ a → content_of (account_of c) text ≡ Ok c
    → is_under (key_of c) kind name number ≡ true
    → is_kept_answer c given (answer_of given) ≡ true
    → are_texts_of kind name number text given (content_of a text) ≡ true
own_content kind name number a c text given is of read key to =
    let own : (same_name (content_text c) text && is_under (key_of c) kind name number) ≡ true =
    and_from (same_name (content_text c) text) (is_under (key_of c) kind name number)
    (subst (λ t. same_name (content_text c) t ≡ true) (sym is) (same_itself (content_text c))) key in
    ap (are_texts_of kind name number text given)
    (subst (λ n. content_of n text ≡ Ok c) of read)
    ∙ and_from (same_name (content_text c) text && is_under (key_of c) kind name number)
    (is_kept_answer c given (answer_of given)) own to

request_under : (s : List ℕ) (n : ℕ) → is_under (Request s n) request_kind s n ≡ true
request_under s n =
    and_from (same_name s s) (nat_eq n n) (same_itself s) ((unsigned_Decides n n).1 refl)

reference_under : (x : List ℕ) → is_under (Reference x) reference_kind x 0 ≡ true
reference_under x = and_from (same_name x x) (nat_eq 0 0) (same_itself x) refl

texts_under : (kind : ℕ) (name : List ℕ) (number : ℕ) (a : List ℕ) (c : Content) (x : Answer)
    (content answer : List ℕ) → is_account_number a ≡ true → content ≡ content_text c
    → answer ≡ answer_text x → account_of c ≡ a → content_of (account_of c) content ≡ Ok c
    → answer_of answer ≡ Ok x → is_answer_to c x ≡ true
    → is_under (key_of c) kind name number ≡ true
    → are_kept_texts kind name number a content answer ≡ true
texts_under kind name number a c x content answer own is so of read again to key =
    and_from (is_account_number a)
    (are_texts_of kind name number content answer (content_of a content)) own
    (own_content kind name number a c content answer is of read key
    (own_answer c x answer so again to))

-- rule: rows-ruled.under, rows-ruled.answered
pub own_texts : (a : List ℕ) (c : Content) (x : Answer) (t : Kept)
    → is_account_number a ≡ true → t.content ≡ content_text c → t.answer ≡ answer_text x
    → account_of c ≡ a → content_of (account_of c) t.content ≡ Ok c → answer_of t.answer ≡ Ok x
    → is_answer_to c x ≡ true → are_texts_under (key_of c) a t ≡ true
own_texts a c x t own is so of read again to = at (key_of c) refl
  where
    at : (k : Key) → key_of c ≡ k → are_texts_under k a t ≡ true
    at (Request s n) e =
        texts_under request_kind s n a c x t.content t.answer own is so of read again to
        (subst (λ k. is_under k request_kind s n ≡ true) (sym e) (request_under s n))
    at (Reference r) e =
        texts_under reference_kind r 0 a c x t.content t.answer own is so of read again to
        (subst (λ k. is_under k reference_kind r 0 ≡ true) (sym e) (reference_under r))

-- the answer that a text says is the one that was written as it
-- rule: rows-ruled.answered
pub own_said : (c : Content) (x y : Answer) (text : List ℕ) (b : Bool) → answer_of text ≡ Ok x
    → answer_of text ≡ Ok y → b ≡ is_answer_to c y → b ≡ is_answer_to c x
own_said c x y text b is so e =
    e ∙ ap (λ (r : Result Answer WireFault). is_answer_to c (said_or_done r)) (sym so ∙ is)

-- ---- why there are none

-- of the account itself only memory is reported, or that the answer isn't one to the command
pub memory_told : (a : List ℕ) (k : KeptAnswer) (e : ReadFault) → e ≡ Memory
    → account_of k.content ≡ a → IsFaultOfTexts a k e
memory_told a k e is of = record {
  told = inl is;
  other = λ no'.
      let own : same_name (account_of k.content) a ≡ true =
      subst (λ n. same_name (account_of k.content) n ≡ true) of
      (same_itself (account_of k.content)) in
      absurd (true≢false (sym own ∙ no'));
  rules = λ so. absurd (let no' : Memory ≡ Rules = sym is ∙ so in cc);
}

pub other_told : (a : List ℕ) (k : KeptAnswer)
    → same_name (account_of k.content) a ≡ false → IsFaultOfTexts a k Rules
other_told a k no' = record {
  told = inr refl;
  other = λ e. refl;
  rules = λ e. ap (λ b. b && is_answer_to k.content k.answer) no';
}

and_none : (b d : Bool) → d ≡ false → (b && d) ≡ false
and_none true d e = e
and_none false d e = refl

pub unanswered_told : (a : List ℕ) (k : KeptAnswer)
    → is_answer_to k.content k.answer ≡ false → IsFaultOfTexts a k Rules
unanswered_told a k no' = record {
  told = inr refl;
  other = λ e. refl;
  rules = λ e. and_none (same_name (account_of k.content) a) (is_answer_to k.content k.answer) no';
}
