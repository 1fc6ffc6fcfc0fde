-- From one process to the next.
use Rattle.std.proofs.Common.{◌≡◌, ap, sym, subst, inl, inr, refl}
use Rattle.std.proofs.Math.Logic.{∥∥₁_elim, ∥∥₁_map}
use Rattle.sqlite_disk.specs.declared.Disk.{Ghosts}
use Rattle.sqlite_store.specs.FileStore.{recovers}
use Rattle.sqlite.specs.Effect.{Database}
use Rattle.sqlite.specs.Files.{file_state, over_files}
use Rattle.sqlite.proofs.Theorems.{next_run}
use Rattle.sql_tables.specs.declared.fault.OpenFault.{OpenFault}
use Rattle.sql_tables.specs.declared.fault.OpenFault.TheVariants.{Foreign, Version, Rules, Store}
use Rattle.sql_tables.specs.declared.fault.OpenFault.TheVariants.{Memory, Older}
use Rattle.sql_keeper.specs.Causes.{IsStores}
use Rattle.sql_keeper.specs.Settled.{AreSettled}
use Rattle.sql_keeper.proofs.stops.Stopped.{opened_again}
use Rattle.service.specs.NextRun.{IsFoundByNext}

-- a fault is the store's or memory's, or another one
no_stores : (fault : OpenFault) → ¬ (fault ≡ Store) → ¬ (fault ≡ Memory) → ¬ IsStores fault
no_stores fault store memory (inl is) = store is
no_stores fault store memory (inr is) = memory is

told_once : (fault : OpenFault) → ∥ IsStores fault ∥₁ → IsStores fault
told_once Store told = inl refl
told_once Memory told = inr refl
told_once Foreign told = absurd (∥∥₁_elim told (λ x. absurd x)
    (no_stores Foreign (λ is. let no : Foreign ≡ Store = is in cc)
    (λ is. let no : Foreign ≡ Memory = is in cc)))
told_once Version told = absurd (∥∥₁_elim told (λ x. absurd x)
    (no_stores Version (λ is. let no : Version ≡ Store = is in cc)
    (λ is. let no : Version ≡ Memory = is in cc)))
told_once Rules told = absurd (∥∥₁_elim told (λ x. absurd x)
    (no_stores Rules (λ is. let no : Rules ≡ Store = is in cc)
    (λ is. let no : Rules ≡ Memory = is in cc)))
told_once Older told = absurd (∥∥₁_elim told (λ x. absurd x)
    (no_stores Older (λ is. let no : Older ≡ Store = is in cc)
    (λ is. let no : Older ≡ Memory = is in cc)))

-- rule: stop, stop-process
pub found_by_next : {D E : Type 0} (g : Ghosts D) (e : Ghosts E)
    → AreSettled (over_files {g = g}) → IsFoundByNext g e
found_by_next g e law old keeper held clean image may shown opens found =
    let left = next_run old.connection.store (held.numbered clean) (held.found clean) image may
    (file_state shown) found in
    let now = ap (λ (d : Database). d.trees) opens.0.clean in
    let sound = (opens.1 opens.0.is_open).0 in (
      λ new shelf o after. ∥∥₁_map left (λ it. (opened_again over_files over_files law old shown
          keeper clean (subst (recovers old.connection.store) (sym now) it) sound).0 new shelf o
          after),
      λ rest fault refused after. told_once fault (∥∥₁_map left (λ it. (opened_again over_files
          over_files law old shown keeper clean
          (subst (recovers old.connection.store) (sym now) it) sound).1 rest fault refused after)),
    )
