-- That tables aren't opened is one of the faults of their opening, and so is the fault alone.
use Rattle.std.proofs.Common.{◌≡◌, ◌∙◌, sym, subst, Result, Ok, Err}
use Rattle.std.specs.Prelude.{IfErr, IsErrAnd, MatchResult}
use Rattle.sql_tables.specs.declared.fault.OpenFault.{OpenFault}
use Rattle.service.specs.Opening.{IsNotFound, IsUnopened}
use Rattle.service.specs.declared.fault.DatabaseFault.{DatabaseFault}

pub unopened_told : {A C : Type 0} (NotFound : DatabaseFault × C → OpenFault → Type 0)
    (given : Result A (DatabaseFault × C)) (got : Result A DatabaseFault) →
    MatchResult given (λ office. got ≡ Ok office) (λ left. IsErrAnd got (λ fault. fault ≡ left.0)) →
    IfErr given (λ left. IsNotFound (NotFound left) left.0) → IfErr got IsUnopened
unopened_told NotFound (Ok office) got is left =
    subst (λ r. IfErr r IsUnopened) (sym is) tt
unopened_told NotFound (Err e) (Ok office) is left = absurd is
unopened_told NotFound (Err e) (Err fault) is left =
    subst IsUnopened (sym (is ∙ left.is)) tt
