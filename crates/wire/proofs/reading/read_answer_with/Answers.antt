use Rattle.std.proofs.Common.{◌≡◌, true, false, Result, Ok, Err, refl, sym, ◌∙◌, subst, inr}
use Rattle.commands.specs.declared.answer.Answer.{Answer}
use Rattle.json_fields.specs.Gives.{Gives}
use Rattle.json_fields.specs.declared.fault.WireFault.{WireFault}
use Rattle.json_fields.specs.declared.fault.WireFault.TheVariants.{NotRequest}
use Rattle.wire.specs.ReadingAnswers.{answer_of, is_answer_text}
use Rattle.wire.proofs.AnswersAgain.{reads_written, never_said, never_written}
use Rattle.wire.proofs.AnswersAgain.{text_of_other, text_read, text_refused}
use Rattle.wire.proofs.reading.read_answer_with.Goals as goal

pub returns-in-Err-clause-written : goal.returns-in-Err-clause-written
returns-in-Err-clause-written c =
    let given : Gives (λ (a : Answer). a) (Err c.in-Err.fault) (answer_of c.args.bytes.now) =
    subst (λ (r : Result Answer WireFault).
    Gives (λ (a : Answer). a) r (answer_of c.args.bytes.now)) c.in-Err.is c.answer.ensures in
    never_said c.args.bytes.now c.in-Err.fault c.told.result given c.told.ensures.memory

pub returns-then-is_text-clause-written : goal.returns-then-is_text-clause-written
returns-then-is_text-clause-written c =
    reads_written c.args.bytes.now (Ok c.in-Ok.answer)
    (subst (λ (r : Result Answer WireFault).
    Gives (λ (a : Answer). a) r (answer_of c.args.bytes.now)) c.in-Ok.is c.answer.ensures)

pub returns-else-is_text-clause-written : goal.returns-else-is_text-clause-written
returns-else-is_text-clause-written c =
    let given : answer_of c.args.bytes.now ≡ Ok c.in-Ok.answer =
    subst (λ (r : Result Answer WireFault).
    Gives (λ (a : Answer). a) r (answer_of c.args.bytes.now)) c.in-Ok.is c.answer.ensures in
    never_written c.args.bytes.now c.in-Ok.answer (Err NotRequest) given (λ e.
    let same : c.deref.result.now ≡ c.args.bytes.now = c.deref.ensures
    ∙ c.in_ok-text.ensures.text
    ∙ e in
    let clash : false ≡ true = sym c.if-is_text.false ∙ c.is_text.ensures.1 same in
    absurd (cc))

pub returns-in-Err-clause-texts : goal.returns-in-Err-clause-texts
returns-in-Err-clause-texts c =
    let given : Gives (λ (a : Answer). a) (Err c.in-Err.fault) (answer_of c.args.bytes.now) =
    subst (λ (r : Result Answer WireFault).
    Gives (λ (a : Answer). a) r (answer_of c.args.bytes.now)) c.in-Err.is c.answer.ensures in
    text_refused c.args.bytes.now c.in-Err.fault c.told.result given c.told.ensures.memory
    c.told.ensures.other

pub returns-then-is_text-clause-texts : goal.returns-then-is_text-clause-texts
returns-then-is_text-clause-texts c =
    let given : answer_of c.args.bytes.now ≡ Ok c.in-Ok.answer =
    subst (λ (r : Result Answer WireFault).
    Gives (λ (a : Answer). a) r (answer_of c.args.bytes.now)) c.in-Ok.is c.answer.ensures in
    text_read c.args.bytes.now c.in-Ok.answer given
    (sym (c.deref.ensures ∙ c.in_ok-text.ensures.text) ∙ c.is_text.ensures.0 c.if-is_text.true)

pub returns-else-is_text-clause-texts : goal.returns-else-is_text-clause-texts
returns-else-is_text-clause-texts c =
    let given : answer_of c.args.bytes.now ≡ Ok c.in-Ok.answer =
    subst (λ (r : Result Answer WireFault).
    Gives (λ (a : Answer). a) r (answer_of c.args.bytes.now)) c.in-Ok.is c.answer.ensures in
    let other : is_answer_text c.args.bytes.now ≡ false =
    text_of_other c.args.bytes.now c.in-Ok.answer given (λ e.
    let same : c.deref.result.now ≡ c.args.bytes.now = c.deref.ensures
    ∙ c.in_ok-text.ensures.text
    ∙ e in
    let clash : false ≡ true = sym c.if-is_text.false ∙ c.is_text.ensures.1 same in
    absurd (cc)) in
    inr (refl, other)
