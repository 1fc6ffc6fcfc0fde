-- Which faults answering lines comes to, by the store that it is over.
use Rattle.std.proofs.Common.{◌≡◌, refl, Result, Ok, Err, ◌+◌, ◌≤◌, arith}
use Rattle.std.specs.Prelude.{IfErr, min}
use Rattle.texts.specs.declared.streams.StreamFault.{StreamFault}
use Rattle.keepers.specs.Faults.{max_failures}
use Rattle.keepers.specs.declared.fault.StoreFault.TheVariants as store
use Rattle.operations.specs.LinesFaults.{AreUnread, IsReachedByLines}
use Rattle.operations.specs.declared.lines_fault.LinesFault.{LinesFault}
use Rattle.operations.specs.declared.lines_fault.LinesFault.TheVariants.{Read, Store, Both, Write}

-- a count that stays at 0 has no cause
no_cause : min (0 + 1) max_failures ≤ 0 → ⊥
no_cause h = omega (arith, h)

-- lines over a store that never fails
pub reached_lines : {A : Type 0} (r : Result A LinesFault) →
    (r ≡ Err (Store store.Store) → min (0 + 1) max_failures ≤ 0) →
    (r ≡ Err (Both store.Store) → min (0 + 1) max_failures ≤ 0) → IfErr r (IsReachedByLines ⊥)
reached_lines (Ok x) cause both = tt
reached_lines (Err (Read f)) cause both = tt
reached_lines (Err (Store store.Memory)) cause both = tt
reached_lines (Err (Store store.Store)) cause both = no_cause (cause refl)
reached_lines (Err (Both store.Memory)) cause both = tt
reached_lines (Err (Both store.Store)) cause both = no_cause (both refl)
reached_lines (Err (Write f)) cause both = tt

-- lines over a store that may fail
pub reached_over : {A : Type 0} (r : Result A LinesFault) → IfErr r (IsReachedByLines (Unit {0}))
reached_over (Ok x) = tt
reached_over (Err (Read f)) = tt
reached_over (Err (Store store.Memory)) = tt
reached_over (Err (Store store.Store)) = tt
reached_over (Err (Both store.Memory)) = tt
reached_over (Err (Both store.Store)) = tt
reached_over (Err (Write f)) = tt

-- what holds where lines weren't read
pub where_unread : {A : Type 0} (r : Result A LinesFault) (P : Type 0) →
    ((f : StreamFault) → r ≡ Err (Read f) → P) → IfErr r (λ f. AreUnread f → P)
where_unread (Ok x) P h = tt
where_unread (Err (Read f)) P h = λ unread. h f refl
where_unread (Err (Store f)) P h = λ unread. absurd unread
where_unread (Err (Both f)) P h = λ unread. absurd unread
where_unread (Err (Write f)) P h = λ unread. absurd unread
