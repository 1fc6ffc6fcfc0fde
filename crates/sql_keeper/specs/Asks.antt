-- What a call asks of a connection that may be shut, and what is handed on of it.
-- Source: profile.
use Rattle.std.specs.Prelude.{◌≡◌, ◌+◌, ℕ, Bool, true, false, min, if◌then◌else◌}
use Rattle.std.specs.Prelude.{Result, Ok, Err, IfOk, IsTrue, OnOk}
use Rattle.sqlite_trees.specs.Tree.{Trees}
use Rattle.sqlite.specs.State.{State, HasCleanDisk, Survives}
use Rattle.sqlite.specs.declared.error.Error.{Error}
use Rattle.sqlite.specs.declared.error.Error.TheVariants.{SqliteFailure}
use Rattle.sqlite.specs.declared.error.ErrorCode.TheVariants.{OutOfMemory}
use Rattle.json_fields.specs.declared.fault.WireFault.{WireFault}
use Rattle.keepers.specs.Faults.{max_failures}
use Rattle.keepers.specs.declared.fault.StoreFault.{StoreFault}
use Rattle.sql_tables.specs.Statements.{OnlyReads}
use Rattle.sql_tables.specs.declared.reading.ReadFault.{ReadFault}

-- outside a transaction: an answer says that the connection is open, as it was; whether there is
-- one or not, nothing is changed, and a stop leaves what it left before
pub record IsStillOpen {A E : Type 0} (old new : State) (result : Result A E) : Type 0 where
  pub answered : HasCleanDisk new → OnOk result (IsTrue old.is_open × IsTrue new.is_open)
  pub only : OnlyReads old new
  pub survives : Survives old new (λ _. ⊥)

-- outside a transaction, over a connection that may be shut: what is answered is what the tables
-- say of one that is open; whether there is an answer or not, nothing is changed, and a stop leaves
-- what it left before
pub record Asks {A E : Type 0} (told : Trees → A → Type 0) (old new : State)
    (result : Result A E) : Type 0 where
  pub found : HasCleanDisk new → IfOk result (told old.now.trees)
  pub answered : HasCleanDisk new → OnOk result (IsTrue old.is_open × IsTrue new.is_open)
  pub only : OnlyReads old new
  pub survives : Survives old new (λ _. ⊥)

-- what was read is handed on, or a fault is reported
abbrev pub IsHanded : {A E F : Type 0} → Result A E → Result A F → Type 0
IsHanded (Ok x) (Ok y) = y ≡ x
IsHanded (Ok x) (Err f) = ⊥
IsHanded (Err e) (Ok y) = ⊥
IsHanded (Err e) (Err f) = Unit {0}

-- ---- the fault that is reported of a read's, and the count of failures

-- memory was refused
abbrev pub is_memory : Error → Bool
is_memory (SqliteFailure OutOfMemory) = true
is_memory _ = false

-- rule: store-faults.cause
abbrev pub told_fault : ReadFault → StoreFault
told_fault ReadFault.Memory = StoreFault.Memory
told_fault (ReadFault.Store e) = if is_memory e then StoreFault.Memory else StoreFault.Store
told_fault ReadFault.Rules = StoreFault.Store

-- lack of memory doesn't count
abbrev pub counted_once : ℕ → StoreFault → ℕ
counted_once n StoreFault.Memory = n
counted_once n StoreFault.Store = min (n + 1) max_failures

-- of what was read nothing counts, and a fault counts once
-- rule: store-faults.cause
abbrev pub IsCounted : {A : Type 0} → ℕ → ℕ → Result A ReadFault → Result A StoreFault → Type 0
IsCounted old new (Ok x) (Ok y) = new ≡ old
IsCounted old new (Ok x) (Err f) = ⊥
IsCounted old new (Err e) (Ok y) = ⊥
IsCounted old new (Err e) (Err f) = (f ≡ told_fault e) × (new ≡ counted_once old f)

-- a kept text that isn't read is out of the rules, unless memory was refused
abbrev pub text_fault : WireFault → ReadFault
text_fault WireFault.Memory = ReadFault.Memory
text_fault _ = ReadFault.Rules
