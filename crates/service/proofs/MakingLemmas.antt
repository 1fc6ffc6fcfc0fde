-- That a database isn't made is one of the faults of its making.
use Rattle.std.proofs.Common.{◌≡◌, ◌∙◌, sym, subst, Result, Ok, Err}
use Rattle.std.specs.Prelude.{IfErr, IsErrAnd, MatchResult}
use Rattle.sql_keeper.specs.declared.create_fault.CreateFault.{CreateFault}
use Rattle.sql_keeper.specs.declared.create_fault.CreateFault.TheVariants as create
use Rattle.service.specs.Making.{IsInitFault, IsNotMade}
use Rattle.service.specs.Told.{making_fault}
use Rattle.service.specs.declared.fault.DatabaseFault.{DatabaseFault}

pub made_told : (made : CreateFault) → IsInitFault (making_fault made)
made_told (create.Book fault) = tt
made_told create.Present = tt
made_told create.Store = tt
made_told create.Memory = tt

-- and so is the fault alone
pub not_made_told : {A C : Type 0} (NotMade : DatabaseFault × C → CreateFault → Type 0)
    (given : Result A (DatabaseFault × C)) (got : Result A DatabaseFault) →
    MatchResult given (λ office. got ≡ Ok office) (λ left. IsErrAnd got (λ fault. fault ≡ left.0)) →
    IfErr given (λ left. IsNotMade (NotMade left) left.0) → IfErr got IsInitFault
not_made_told NotMade (Ok office) got is left =
    subst (λ r. IfErr r IsInitFault) (sym is) tt
not_made_told NotMade (Err e) (Ok office) is left = absurd is
not_made_told NotMade (Err e) (Err fault) is left =
    subst IsInitFault (sym (is ∙ left.is)) (made_told left.made)
