use Rattle.std.proofs.Common.{ℕ, Option, Result, sym, ap, subst}
use Rattle.std.proofs.lemmas.Result.{err_from_is_err_and}
use Rattle.serde_json.specs.Data.{Data}
use Rattle.commands.specs.declared.answer.Outcome.{Outcome}
use Rattle.json_fields.specs.declared.fault.WireFault.{WireFault}
use Rattle.json_fields.specs.Gives.{◌>>=◌, Says}
use Rattle.json_fields.specs.View.{view}
use Rattle.wire.specs.ReadingAnswers.{checked_when, unserved_in}
use Rattle.wire.proofs.reading.unserved.Goals as goal

-- what follows the balance
abbrev after : Data → Result (Option ℕ) WireFault → Result Outcome WireFault
after d r = r >>= λ balance. checked_when d balance

pub returns-in_err-balance : goal.returns-in_err-balance
unfolding unserved_in
returns-in_err-balance c =
    let p = err_from_is_err_and c.from_residual.result c.from_residual.ensures.1 in
    rw (p.1, p.2) (ap (after (view c.args.parent.now)) c.in_err-balance.ensures.reads)

pub returns : goal.returns
unfolding unserved_in
returns c =
    subst (λ (r : Result Outcome WireFault). Says (λ (o : Outcome). o) c.checked.result r)
    (sym (ap (after (view c.args.parent.now)) c.in_ok-balance.ensures.reads)) c.checked.ensures
