-- What answering lines leaves of a keeper, by how it ended: where no fault is the keeper's, it can
-- be asked after it as before.
use Rattle.std.proofs.Common.{◌≡◌, ◌+◌, ◌≤◌, ap, sym, subst, le_refl, Option, Some, None}
use Rattle.std.proofs.Common.{Result, Ok, Err}
use Rattle.std.proofs.lemmas.Option.{none-some}
use Rattle.std.specs.Prelude.{IfNone, OnOk, min}
use Rattle.texts.specs.declared.streams.StreamFault.{StreamFault}
use Rattle.keepers.specs.Faults.{max_failures}
use Rattle.keepers.specs.Seen.{Seen}
use Rattle.keepers.specs.declared.fault.StoreFault.{StoreFault}
use Rattle.keepers.specs.declared.fault.StoreFault.TheVariants.{Store as StoreFailed}
use Rattle.charging.specs.Promise.{Carries}
use Rattle.operations.specs.LinesFaults.{ended_as}
use Rattle.operations.specs.LinesServed.{lines_store_fault}
use Rattle.operations.specs.declared.lines_fault.LinesFault.{LinesFault}
use Rattle.operations.specs.declared.lines_fault.LinesFault.TheVariants.{Read, Store, Both, Write}

module _ {A : Type 0} (old new : Seen) where
  carried_told : (fault : Option StoreFault) (written : Result A StreamFault) →
      Carries old new fault → Carries old new (lines_store_fault (ended_as fault written))
  carried_told None (Ok x) h = h
  carried_told None (Err g) h = h
  carried_told (Some f) (Ok x) h = h
  carried_told (Some f) (Err g) h = h

  -- the keeper's fault is that of the run
  pub carried-ended : (fault : Option StoreFault) (written : Result A StreamFault)
      (result : Result A LinesFault) → result ≡ ended_as fault written →
      Carries old new fault → Carries old new (lines_store_fault result)
  carried-ended fault written result is h =
      subst (λ (r : Result A LinesFault). Carries old new (lines_store_fault r)) (sym is)
      (carried_told fault written h)

  standing : (result : Result A LinesFault) → IfNone (lines_store_fault result) new.clean →
      OnOk result new.clean
  standing (Ok x) h = h
  standing (Err fault) h = tt

  -- where all is answered
  pub carried-stands : (result : Result A LinesFault) → Carries old new (lines_store_fault result) →
      new.honest → old.clean → OnOk result new.clean
  carried-stands result h honest clean = standing result (h.stands honest clean)

  -- where writing failed
  pub carried-asked : (result : Result A LinesFault) → Carries old new (lines_store_fault result) →
      (fault : StreamFault) → result ≡ Err (Write fault) → new.honest → old.clean → new.clean
  carried-asked result h fault is honest clean =
      subst (λ (r : Result A LinesFault). IfNone (lines_store_fault r) new.clean) is
      (h.stands honest clean)

  -- a failure of the store has a cause
  pub carried-cause : (result : Result A LinesFault) → Carries old new (lines_store_fault result) →
      result ≡ Err (Store StoreFailed) → min (old.failed + 1) max_failures ≤ new.failed
  carried-cause result h is = h.cause (ap (λ (r : Result A LinesFault). lines_store_fault r) is)

  pub carried-cause_of_both : (result : Result A LinesFault) →
      Carries old new (lines_store_fault result) → result ≡ Err (Both StoreFailed) →
      min (old.failed + 1) max_failures ≤ new.failed
  carried-cause_of_both result h is =
      h.cause (ap (λ (r : Result A LinesFault). lines_store_fault r) is)

-- nothing was run
pub carried-none : {A : Type 0} (keeper : Seen) (result : Result A LinesFault) (f : StreamFault) →
    result ≡ Err (Read f) → Carries keeper keeper (lines_store_fault result)
carried-none {A = A} keeper result f is =
    subst (λ (r : Result A LinesFault). Carries keeper keeper (lines_store_fault r)) (sym is)
    (record {
      clean = λ clean. clean;
      honest = λ honest. honest;
      stands = λ honest clean. clean;
      failures = le_refl keeper.failed;
      cause = λ no. absurd (none-some StoreFailed no);
    })
