use Rattle.std.proofs.Common.{◌≡◌, ◌↔◌, ◌∙◌, ap, sym, IsTrue, Bool, true, false, if◌then◌else◌}
use Rattle.std.proofs.lemmas.Result.{IfOk-weaker}
use Rattle.commands.specs.declared.answer.Answer.{Answer}
use Rattle.commands.specs.declared.command.Content.{Content}
use Rattle.keepers.specs.declared.kept_answer.KeptAnswer.{KeptAnswer}
use Rattle.charging.specs.OutcomeParts.{repeated}
use Rattle.charging.proofs.outcomes.KeptKeys.{same-content}
use Rattle.charging.proofs.repetition.first_or_conflict.Goals as goal

-- which answer it is, where the test is known
told : (kept : KeptAnswer) (new : Content) (conflict : Answer) (is_same known : Bool) →
    is_same ≡ known → (IsTrue is_same ↔ (kept.content ≡ new)) →
    (if known then kept.answer else conflict) ≡ repeated kept new conflict
told kept new conflict is_same known is says =
    ap (λ v. if v then kept.answer else conflict)
    (sym is ∙ same-content is_same kept.content new says)

pub returns-then-is_same : goal.returns-then-is_same
returns-then-is_same c = λ new says.
    told c.args.kept new c.args.conflict c.args.is_same true c.if-is_same.true says

pub returns-else-is_same : goal.returns-else-is_same
returns-else-is_same c = IfOk-weaker c.new.result (λ given. given ≡ c.args.conflict)
    (λ given. (new : Content) → (IsTrue c.args.is_same ↔ (c.args.kept.content ≡ new)) →
    given ≡ repeated c.args.kept new c.args.conflict)
    (λ given is new says.
    is ∙ told c.args.kept new c.args.conflict c.args.is_same false c.if-is_same.false says)
    c.new.ensures
