-- What a refusal leaves of the tables, of no list of commands too.
use Rattle.std.proofs.Common.{◌≡◌, true, false, true≢false, sym, ap, ◌∙◌}
use Rattle.std.specs.Prelude.{Result, Ok, Err, IfOk}
use Rattle.commands.specs.declared.answer.Answer.{Answer}
use Rattle.keepers.specs.declared.fault.StoreFault.{StoreFault}
use Rattle.charging.specs.Stepping.{is_unaccepted}

-- an answer that isn't one of those that leave the tables
-- rule: refused
pub accepted_given : (r : Result Answer StoreFault) (told : Answer) (W P : Type 0) →
    is_unaccepted told ≡ false → IfOk r (λ given. (given ≡ told) × W) →
    IfOk r (λ given. is_unaccepted given ≡ true → P)
accepted_given (Ok x) told W P kept h =
    λ e. absurd (true≢false (sym e ∙ ap is_unaccepted h.0 ∙ kept))
accepted_given (Err f) told W P kept h = tt

pub not_told : (P : Type 0) → false ≡ true → P
not_told P e = absurd (true≢false (sym e))
