-- A writer's fault is none of reading.
use Rattle.std.proofs.Common.{◌≡◌, ap, subst, ◌∙◌, Result, Ok, Err}
use Rattle.texts.specs.declared.streams.StreamFault.{StreamFault}
use Rattle.texts.specs.declared.streams.StreamFault.TheVariants as stream
use Rattle.statements.specs.declared.fault.StatementFault.{StatementFault}
use Rattle.statements.specs.declared.fault.StatementFault.TheVariants as statement
use Rattle.operations.specs.Months.{month_ended}
use Rattle.operations.specs.declared.fault.OfficeFault.{OfficeFault}
use Rattle.operations.specs.declared.fault.OfficeFault.TheVariants.{Store, Write}

abbrev pub IsNoReading : {A : Type 0} → Result A OfficeFault → Type 0
IsNoReading (Ok x) = Unit {0}
IsNoReading (Err (Store f)) = Unit {0}
IsNoReading (Err (Write stream.Memory)) = Unit {0}
IsNoReading (Err (Write stream.Read)) = ⊥
IsNoReading (Err (Write stream.Write)) = Unit {0}

pub month_unread : {A : Type 0} (written : Result A StatementFault) →
    IsNoReading (month_ended written)
month_unread (Ok x) = tt
month_unread (Err statement.Memory) = tt
month_unread (Err statement.Store) = tt
month_unread (Err statement.Write) = tt

pub no_reading : {A : Type 0} (result : Result A OfficeFault) (fault : StreamFault) →
    IsNoReading result → result ≡ Err (Write fault) → fault ≡ stream.Read → ⊥
no_reading {A = A} result fault is told read =
    subst (λ (r : Result A OfficeFault). IsNoReading r)
    (told ∙ ap (λ (f : StreamFault). Err (Write f)) read) is
