use Rattle.std.proofs.Common.{◌≡◌, ◌↔◌, IsTrue}
use Rattle.std.proofs.lemmas.Result.{IfOk-weaker}
use Rattle.commands.specs.declared.command.Content.{Content}
use Rattle.charging.specs.OutcomeParts.{repeated}
use Rattle.charging.proofs.repetition.repeated.Goals as goal

pub returns : goal.returns
returns c = IfOk-weaker c.first_or_conflict.result
    (λ given. (new : Content) →
    (IsTrue c.same_content-is_same.result ↔ (c.args.kept.content ≡ new)) →
    given ≡ repeated c.args.kept new c.args.conflict)
    (λ given. given ≡ repeated c.args.kept c.args.content.now c.args.conflict)
    (λ given says. says c.args.content.now c.same_content-is_same.ensures)
    c.first_or_conflict.ensures
