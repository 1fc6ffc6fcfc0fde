-- A keeper after a call that only reads, and what it hands on.
use Rattle.std.proofs.Common.{◌≡◌, ◌≤◌, ◌+◌, ◌⊎◌, inl, inr, ℕ, Result, Ok, Err, IfOk, IsTrue, min}
use Rattle.std.proofs.Common.{sym, ap, subst, arith, List}
use Rattle.std.proofs.lemmas.Bool.Decides.{nat_tests}
use Rattle.sqlite_disk.specs.Disk.{MoreFaults}
use Rattle.sqlite_trees.specs.Tree.{Trees}
use Rattle.sqlite_trees.specs.declared.store.Store.{Ghosts}
use Rattle.shelves.specs.Shelves.{Shelf}
use Rattle.sqlite.specs.Effect.{Database}
use Rattle.sqlite.specs.Held.{state}
use Rattle.sqlite.specs.State.{State, Survives}
use Rattle.sql_tables.specs.declared.reading.ReadFault.{ReadFault}
use Rattle.sql_tables.specs.Statements.{OnlyReads}
use Rattle.keepers.specs.declared.fault.StoreFault.{StoreFault}
use Rattle.keepers.specs.Faults.{HasCause, max_failures}
use Rattle.sql_keeper.specs.Asks.{IsHanded}
use Rattle.sql_keeper.specs.Inside.{KeeperState, IsClean, StaysOpen, IsKeeper}
use Rattle.sql_keeper.specs.Left.{IsHeld, IsLeftRuled}

pub none_more : (old new : ℕ) → old ≡ 0 → new ≡ 0 → MoreFaults old new → ⊥
none_more old new e f m =
    let some : 1 ≤ new = subst (λ n. MoreFaults n new) e m in omega (arith, some, f)

pub stays_open : (old new : State) → StaysOpen old → OnlyReads old new → StaysOpen new
stays_open old new stays only clean none =
    let before : old.faults ≡ 0 = omega (arith, only.counts, none) in
    go before (only.closes clean (stays (only.cleanness clean) before))
  where
    go : old.faults ≡ 0 → IsTrue new.is_open ⊎ MoreFaults old.faults new.faults → IsTrue new.is_open
    go before (inl on) = on
    go before (inr more) = absurd (none_more old.faults new.faults before none more)

pub open_of : (s : State) → StaysOpen s → IsClean s → IsTrue s.is_open
open_of s stays clean = go clean.open_still
  where
    go : (s.faults ≡ 0) ⊎ IsTrue s.is_open → IsTrue s.is_open
    go (inl none) = stays clean.disk none
    go (inr on) = on

pub was_clean : (old new : State) → StaysOpen new → OnlyReads old new → IsClean new → IsClean old
was_clean old new stays only clean = record {
  disk = only.cleanness clean.disk;
  open_still = inr ((only.still clean.disk (open_of new stays clean)).was_open);
}

-- ---- the count, which stays at the highest

min_grows : (a b m : ℕ) → a ≤ b → min a m ≤ min b m
min_grows a b m h = grind (arith, nat_tests)

min_raised : (a b m : ℕ) → min (a + 1) m ≤ b → min (min a m + 1) m ≤ min b m
min_raised a b m h = grind (arith, nat_tests)

pub cause_at_most : {A : Type 0} (old new : ℕ) (r : Result A StoreFault) → HasCause old new r
    → HasCause (min old max_failures) (min new max_failures) r
cause_at_most old new r h = record {
  kept = min_grows old new max_failures h.kept;
  cause = λ e. min_raised old new max_failures (h.cause e);
}

-- ---- what is handed on

pub handed : {T : Type 0} (P Q : T → Type 0) (read : Result T ReadFault)
    (result : Result T StoreFault)
    → IsHanded read result → ((x : T) → P x → Q x) → IfOk read P → IfOk result Q
handed P Q (Ok x) (Ok y) e to p = subst Q (sym e) (to x p)
handed P Q (Ok x) (Err f) e to p = absurd e
handed P Q (Err f) (Ok y) e to p = absurd e
handed P Q (Err f) (Err h) e to p = tt

-- what is kept is known under the same text, shelf and moment
pub held_as : (text text' : List ℕ) (shelf shelf' : Shelf) (last last' : ℕ) (old new : Trees)
    → text' ≡ text → shelf' ≡ shelf → last' ≡ last → new ≡ old
    → IsHeld text shelf last old → IsHeld text' shelf' last' new
held_as text text' shelf shelf' last last' old new t s l is held =
    subst (IsHeld text' shelf' last') (sym is) (subst (λ x. IsHeld text' shelf' x old) (sym l)
    (subst (λ x. IsHeld text' x last old) (sym s)
    (subst (λ x. IsHeld x shelf last old) (sym t) held)))

-- a keeper is one still
-- rule: database-reads.held
pub keeper_after : {S : Type 0} (g : Ghosts S) (old new : KeeperState S) → IsKeeper g old
    → OnlyReads (state g old.connection) (state g new.connection)
    → Survives (state g old.connection) (state g new.connection) (λ _. ⊥)
    → new.text ≡ old.text → new.shelf ≡ old.shelf → new.last ≡ old.last
    → new.failures ≤ max_failures → IsKeeper g new
keeper_after g old new keeper only survives text shelf last bounded = record {
  bounded = bounded;
  plain = only.mode keeper.plain;
  idle = only.idle;
  stays = stays_open (state g old.connection) (state g new.connection) keeper.stays only;
  held = λ clean on.
      let still = only.still clean on in
      held_as old.text new.text old.shelf new.shelf old.last new.last
      (state g old.connection).now.trees (state g new.connection).now.trees text shelf last
      (ap (λ (d : Database). d.trees) still.now_is)
      (keeper.held (only.cleanness clean) still.was_open);
  found = λ clean db may. subst (λ t. IsLeftRuled t db) (sym text)
      (keeper.found (only.cleanness clean) db
      (elim (survives.crash clean db may) [
        | inl before ↦ before
        | inr none ↦ absurd none
      ]));
}
