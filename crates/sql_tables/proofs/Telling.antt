-- What a call answers that makes values of the rows of one selection, and of two calls in turn.
use Rattle.std.proofs.Common.{◌≡◌, ℕ, List, Bool, true, false, true≢false, IsTrue, Result, IfOk}
use Rattle.std.proofs.Common.{Ok, Err, refl, subst, sym, arith}
use Rattle.std.proofs.lemmas.Result.{IfOk-weaker}
use Rattle.sqlite_value.specs.Order.{Row}
use Rattle.sqlite_trees.specs.Tree.{Trees}
use Rattle.sqlite.specs.State.{State, HasCleanDisk, IsUnchanged, Survives}
use Rattle.sqlite.proofs.StateLemmas.{survives_then}
use Rattle.sql_tables.specs.Statements.{Answers, Attempts, OnlyReads, Reads, ReadsWithin}
use Rattle.sql_tables.proofs.Keeps.{on_ok}

-- what is made of the rows is what the tables say
pub reads_as : {V E : Type 0} {P : V → Type 0} (told : Trees → V → Type 0) (sql : List ℕ)
    (held params : Row)
    (old new : State) (rows slice : List Row) (r : Result V E) → OnlyReads old new
    → Survives old new (λ _. old.is_open ≡ false)
    → (HasCleanDisk new → Answers sql held old new rows) → held ≡ params → slice ≡ rows → IfOk r P
    → ((v : V) → Answers sql params old new slice → P v → told old.now.trees v)
    → Reads told old new r
reads_as told sql held params old new rows slice r only survives answers is same made tells =
    record {
      found = λ clean. IfOk-weaker r _ _ (λ v p. tells v
          (subst (λ l. Answers sql params old new l) (sym same)
          (subst (λ w. Answers sql w old new rows) is (answers clean))) p) made;
      only = only;
      stays = λ clean. on_ok r (answers clean).is_open;
      survives = survives;
    }

-- within a transaction: whatever is made of the rows, nothing is changed
still_as : {V W E : Type 0} (old new : State) (u : W) (r : Result V E)
    → Attempts {A = W} {E = E} IsUnchanged old new (Ok u) → Attempts IsUnchanged old new r
still_as old new u (Ok v) a =
    record { done = a.done; kept = λ clean. tt; survives = a.survives }
still_as old new u (Err e) a = record {
  done = λ clean. tt;
  kept = λ clean.
      let same = a.done clean in
      record { was_open = λ on. same.0.was_open; committed = λ on. same.0.committed_is };
  survives = a.survives;
}

pub reads_within_as : {V W E : Type 0} {P : V → Type 0} (told : Trees → V → Type 0)
    (sql : List ℕ) (held params : Row) (old new : State) (rows slice : List Row) (u : W)
    (r : Result V E) → Attempts {A = W} {E = E} IsUnchanged old new (Ok u)
    → (HasCleanDisk new → Answers sql held old new rows) → held ≡ params → slice ≡ rows → IfOk r P
    → ((v : V) → Answers sql params old new slice → P v → told old.now.trees v)
    → ReadsWithin told old new r
reads_within_as told sql held params old new rows slice u r only answers is same made tells =
    record {
      found = λ clean. IfOk-weaker r _ _ (λ v p. tells v
          (subst (λ l. Answers sql params old new l) (sym same)
          (subst (λ w. Answers sql w old new rows) is (answers clean))) p) made;
      still = still_as old new u r only;
    }

-- one after another: where the first left the connection open, a stop leaves what it left before
-- both
pub survive_then : (old mid new : State)
    → (HasCleanDisk mid → IsTrue old.is_open → IsTrue mid.is_open)
    → Survives old mid (λ _. old.is_open ≡ false) → Survives mid new (λ _. mid.is_open ≡ false)
    → Survives old new (λ _. old.is_open ≡ false)
survive_then old mid new on one two =
    survives_then old mid new (λ _. old.is_open ≡ false) (λ _. mid.is_open ≡ false)
    (λ _. old.is_open ≡ false) (λ clean db shut. shut)
    (λ clean db shut.
    was_shut old.is_open mid.is_open (on (omega (arith, two.clean, clean))) shut) one two
  where
    was_shut : (b m : Bool) → (IsTrue b → IsTrue m) → m ≡ false → b ≡ false
    was_shut false m to shut = refl
    was_shut true true to shut = absurd (true≢false shut)
    was_shut true false to shut = absurd (let no : false ≡ true = to refl in true≢false (sym no))
