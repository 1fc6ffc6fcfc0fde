-- What a call of an office leaves of its keeper, by how it ended: where no fault is the keeper's, it
-- can be asked after it as before.
use Rattle.std.proofs.Common.{◌≡◌, ◌+◌, ◌≤◌, ◌∙◌, ap, sym, subst, Some, None}
use Rattle.std.proofs.Common.{Result, Ok, Err}
use Rattle.std.proofs.lemmas.Option.{none-some, same_Some}
use Rattle.std.specs.Prelude.{IfNone, OnOk, min}
use Rattle.texts.specs.declared.streams.StreamFault.{StreamFault}
use Rattle.keepers.specs.Faults.{HasCause, max_failures}
use Rattle.keepers.specs.Seen.{Seen}
use Rattle.keepers.specs.declared.fault.StoreFault.{StoreFault}
use Rattle.keepers.specs.declared.fault.StoreFault.TheVariants.{Store as StoreFailed}
use Rattle.charging.specs.Promise.{Carries}
use Rattle.operations.specs.Faults.{office_store_fault, store_fault}
use Rattle.operations.specs.declared.fault.OfficeFault.{OfficeFault}
use Rattle.operations.specs.declared.fault.OfficeFault.TheVariants.{Store, Write}

-- what a call ended with is the keeper's fault, or none of it
pub fault_is : {A : Type 0} (result : Result A OfficeFault) (given fault : OfficeFault) →
    result ≡ Err given → given ≡ fault → store_fault fault ≡ office_store_fault result
fault_is {A = A} result given fault is told =
    sym (ap (λ (r : Result A OfficeFault). office_store_fault r)
    (is ∙ ap (λ (f : OfficeFault). Err f) told))

-- ---- by what the one call of the keeper gave

module _ (old new : Seen) (clean : new.clean → old.clean) (honest : new.honest → old.honest) where
  -- it did what it was asked
  pub carried : (new.honest → old.clean → new.clean) → old.failed ≤ new.failed →
      Carries old new None
  carried stands failures = record {
    clean = clean;
    honest = honest;
    stands = stands;
    failures = failures;
    cause = λ no. absurd (none-some StoreFailed no);
  }

  -- it failed
  pub carried-failed : {T : Type 0} (r : Result T StoreFault) (fault : StoreFault) → r ≡ Err fault →
      HasCause old.failed new.failed r → Carries old new (Some fault)
  carried-failed r fault is cause = record {
    clean = clean;
    honest = honest;
    stands = λ there was. tt;
    failures = cause.kept;
    cause = λ store.
        cause.cause (is ∙ ap (λ (f : StoreFault). Err f) (same_Some fault StoreFailed store));
  }

-- ---- what it says of each end

module _ {A : Type 0} (old new : Seen) where
  -- what ends well leaves a keeper that can be asked
  pub carried-stands : (result : Result A OfficeFault) →
      IfNone (office_store_fault result) new.clean → OnOk result new.clean
  carried-stands (Ok x) there = there
  carried-stands (Err fault) there = tt

  -- and so does a fault of the writer
  pub carried-asked : (result : Result A OfficeFault) →
      IfNone (office_store_fault result) new.clean →
      (fault : StreamFault) → result ≡ Err (Write fault) → new.clean
  carried-asked result there fault is =
      subst (λ (r : Result A OfficeFault). IfNone (office_store_fault r) new.clean) is there

  -- a failure of the store has a cause
  pub carried-cause : (result : Result A OfficeFault) →
      Carries old new (office_store_fault result) →
      result ≡ Err (Store StoreFailed) → min (old.failed + 1) max_failures ≤ new.failed
  carried-cause result h is = h.cause (ap (λ (r : Result A OfficeFault). office_store_fault r) is)
