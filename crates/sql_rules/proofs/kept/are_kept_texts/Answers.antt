use Rattle.std.proofs.Common.{◌≡◌, ◌∙◌, subst, sym, IfOk}
use Rattle.sql_rules.proofs.UnderKey.{kept_of_account}
use Rattle.sql_rules.proofs.kept.are_kept_texts.Goals as goal

pub returns : goal.returns
returns c =
    subst (λ v. IfOk c.are_texts.result (λ b. b ≡ v))
    (kept_of_account c.args.kind c.args.name.now c.args.number c.args.account.now c.in-Some.account
    c.args.content.now c.args.answer.now (sym c.in-Some.is ∙ c.in_ok-account.ensures))
    c.are_texts.ensures
