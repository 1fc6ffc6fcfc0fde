-- A keeper after what is committed whole.
use Rattle.std.proofs.Common.{◌≡◌, ◌≤◌, ◌⊎◌, inl, inr, refl, subst, sym, ap, ℕ, List, IsTrue, arith}
use Rattle.std.proofs.Common.{false}
use Rattle.std.specs.Prelude.{Result, Ok, Err, OnOk, OnErr}
use Rattle.sqlite_disk.specs.Disk.{MoreFaults}
use Rattle.sqlite_trees.specs.Tree.{Trees}
use Rattle.sqlite_trees.specs.declared.store.Store.{Ghosts}
use Rattle.sqlite.specs.Effect.{Database}
use Rattle.sqlite.specs.Held.{Held, state}
use Rattle.sqlite.specs.State.{State, HasCleanDisk, Survives}
use Rattle.sql_rows.specs.Content.{tables_content}
use Rattle.keepers.specs.declared.fault.StoreFault.{StoreFault}
use Rattle.keepers.specs.declared.loaded.Change.{Change}
use Rattle.keepers.specs.Change.{IsSwept, changed}
use Rattle.keepers.specs.Change.{with_voucher}
use Rattle.voucher_rules.specs.declared.terms.VoucherTerms.{VoucherTerms}
use Rattle.keepers.specs.Faults.{max_failures}
use Rattle.shelves.specs.Shelves.{Shelf}
use Rattle.sql_keeper.specs.Additions.{BecomesAdded}
use Rattle.sql_keeper.specs.Commits.{CommitsChange, CommitsWhole}
use Rattle.sql_keeper.specs.Content.{shelf_names, tables_of}
use Rattle.sql_keeper.specs.Inside.{KeeperState, IsClean, StaysOpen, IsKeeper, names_in, tables_in}
use Rattle.sql_keeper.specs.Left.{IsHeld, IsLeftRuled}
use Rattle.sql_keeper.specs.Stops.{IsCommitWhole, trees_in}
use Rattle.sql_keeper.specs.Sweeps.{BecomesSwept}
use Rattle.sql_keeper.proofs.reads.Asked.{held_as, none_more, open_of}

-- only a failure of the disk shuts the connection
pub stays_survived : (old new : State) (P : Trees → Type 0) → StaysOpen old →
    Survives old new P → StaysOpen new
stays_survived old new P stays survives clean none =
    let before : old.faults ≡ 0 = omega (arith, survives.counts, none) in
    go before (survives.closes clean (stays (omega (arith, survives.clean, clean)) before))
  where
    go : old.faults ≡ 0 → IsTrue new.is_open ⊎ MoreFaults old.faults new.faults → IsTrue new.is_open
    go before (inl on) = on
    go before (inr more) = absurd (none_more old.faults new.faults before none more)

-- the law of a commit
-- rule: database-writes.commits-change
pub committed : {S A : Type 0} (g : Ghosts S) (old : KeeperState S) (conn : Held S) (text : List ℕ)
    (change : Change)
    → IsKeeper g old → (r : Result A StoreFault)
    → CommitsChange (names_in old) text change (state g old.connection) (state g conn) r
    → IsClean (state g conn)
    → OnOk r (tables_of (names_in old) (tables_content (state g conn).now.trees)
    ≡ changed change (tables_in g old))
committed g old conn text change keeper (Ok x) commits clean = (commits.done clean.disk).2.tables
committed g old conn text change keeper (Err e) commits clean = tt

-- the law of adding a voucher
pub added_law : {S A : Type 0} (g : Ghosts S) (old : KeeperState S) (conn : Held S)
    (text code : List ℕ) (terms : VoucherTerms) (t : ℕ) → IsKeeper g old → (r : Result A StoreFault)
    → CommitsWhole (BecomesAdded text code terms t) (state g old.connection) (state g conn) r
    → IsClean (state g conn)
    → OnOk r (tables_of (names_in old) (tables_content (state g conn).now.trees)
    ≡ with_voucher code terms t (tables_in g old))
added_law g old conn text code terms t keeper (Ok x) commits clean =
    (commits.done clean.disk).2.tables (names_in old)
added_law g old conn text code terms t keeper (Err e) commits clean = tt

-- the law of a sweep
-- rule: database-sweep.sweeps-accounts
pub swept_law : {S A : Type 0} (g : Ghosts S) (old : KeeperState S) (conn : Held S)
    (text : List ℕ) (shelf : Shelf) (t : ℕ) → IsKeeper g old → (r : Result A StoreFault)
    → CommitsWhole (BecomesSwept (names_in old) text shelf t) (state g old.connection)
    (state g conn) r
    → IsClean (state g conn)
    → OnOk r
    (IsSwept shelf t (tables_in g old)
    (tables_of (names_in old) (tables_content (state g conn).now.trees)))
swept_law g old conn text shelf t keeper (Ok x) commits clean = (commits.done clean.disk).2.tables
swept_law g old conn text shelf t keeper (Err e) commits clean = tt

-- a stop leaves what it left before, or all that is written, where the connection was open
abbrev pub Leaves : {S : Type 0} → Ghosts S → KeeperState S → KeeperState S →
    (Trees → Trees → Type 0) → Type 0
Leaves g old new Become = HasCleanDisk (state g new.connection) → (db : Trees)
    → (state g new.connection).may_leave db
    → (state g old.connection).may_leave db
    ⊎ (IsTrue (state g old.connection).is_open × Become (state g old.connection).now.trees db)

module _ {S A : Type 0} (g : Ghosts S) (old new : KeeperState S)
    (Become : List ℕ → Trees → Trees → Type 0) (text : List ℕ) (keeper : IsKeeper g old) where
  abbrev CommitsIn : Result A StoreFault → Type 0
  CommitsIn r = CommitsWhole (Become text) (state g old.connection) (state g new.connection) r

  pub stays_in : (r : Result A StoreFault) → CommitsIn r → StaysOpen (state g new.connection)
  stays_in r commits = stays_survived (state g old.connection) (state g new.connection)
      (λ db. IsTrue (state g old.connection).is_open →
      Become text (state g old.connection).now.trees db) keeper.stays commits.survives

  was_open : (r : Result A StoreFault) → CommitsIn r → HasCleanDisk (state g new.connection)
      → IsTrue (state g new.connection).is_open → IsTrue (state g old.connection).is_open
  was_open (Ok x) commits clean on = (commits.done clean).0
  was_open (Err e) commits clean on = (commits.err clean on).was_open

  pub was_clean : (r : Result A StoreFault) → CommitsIn r → IsClean (state g new.connection)
      → IsClean (state g old.connection)
  was_clean r commits clean = record {
    disk = omega (arith, commits.survives.clean, clean.disk);
    open_still = inr (was_open r commits clean.disk
        (open_of (state g new.connection) (stays_in r commits) clean));
  }

  pub same_tables : (r : Result A StoreFault) → CommitsIn r → new.shelf ≡ old.shelf
      → IsClean (state g new.connection)
      → IsTrue (state g new.connection).is_open → OnErr r (tables_in g new ≡ tables_in g old)
  same_tables (Ok x) commits shelf clean on = tt
  same_tables (Err e) commits shelf clean on =
      let still = commits.err clean.disk on in
      λ i. tables_of (shelf_names (shelf i)) (tables_content ((still.now_is i).trees))

  -- it is one still, whatever becomes of its shelf
  -- rule: database-reads.held
  pub becomes_keeper : (r : Result A StoreFault) → CommitsIn r
      → (HasCleanDisk (state g old.connection) → HasCleanDisk (state g new.connection)
      → (db : Trees) → (state g new.connection).may_leave db
      → (state g old.connection).may_leave db ⊎ IsLeftRuled old.text db)
      → OnOk r (IsHeld old.text old.shelf old.last (trees_in g old)
      → Become text (trees_in g old) (trees_in g new)
      → IsHeld new.text new.shelf new.last (trees_in g new))
      → OnErr r ((new.shelf ≡ old.shelf) × (new.last ≡ old.last)) → new.text ≡ old.text
      → new.connection.in_transaction ≡ false → new.failures ≤ max_failures → IsKeeper g new
  becomes_keeper r commits leaves made kept same plain bounded = record {
    bounded = bounded;
    plain = plain;
    idle = commits.idle;
    stays = stays_in r commits;
    held = held_now r commits made kept;
    found = λ clean db may. subst (λ t. IsLeftRuled t db) (sym same)
        (elim (leaves (clean_before clean) clean db may) [
          | inl before ↦ keeper.found (clean_before clean) db before
          | inr left ↦ left
        ]);
  }
    where
      clean_before : HasCleanDisk (state g new.connection) → HasCleanDisk (state g old.connection)
      clean_before clean = omega (arith, commits.survives.clean, clean)

      held_now : (q : Result A StoreFault) → CommitsIn q
          → OnOk q (IsHeld old.text old.shelf old.last (trees_in g old)
          → Become text (trees_in g old) (trees_in g new)
          → IsHeld new.text new.shelf new.last (trees_in g new))
          → OnErr q ((new.shelf ≡ old.shelf) × (new.last ≡ old.last))
          → HasCleanDisk (state g new.connection) → IsTrue (state g new.connection).is_open
          → IsHeld new.text new.shelf new.last (trees_in g new)
      held_now (Ok x) c to kept' clean on =
          let d = c.done clean in to (keeper.held (clean_before clean) d.0) d.2
      held_now (Err e) c to kept' clean on =
          let still = c.err clean on in
          held_as old.text new.text old.shelf new.shelf old.last new.last (trees_in g old)
          (trees_in g new) same kept'.0 kept'.1 (ap (λ (d : Database). d.trees) still.now_is)
          (keeper.held (clean_before clean) still.was_open)

  -- it is one still, on the same shelf and at the moment that is written
  pub committed_keeper : (t : ℕ) (r : Result A StoreFault) → CommitsIn r
      → Leaves g old new (Become text)
      → text ≡ old.text
      → ((db : Trees) → IsHeld old.text old.shelf old.last (trees_in g old)
      → Become old.text (trees_in g old) db → IsHeld old.text old.shelf t db)
      → OnOk r (new.last ≡ t) → OnErr r (new.last ≡ old.last) → new.shelf ≡ old.shelf
      → new.text ≡ old.text → new.connection.in_transaction ≡ false
      → new.failures ≤ max_failures → IsKeeper g new
  committed_keeper t r commits leaves of_text again moment last shelf same plain bounded =
      becomes_keeper r commits (λ was clean db may. elim (leaves clean db may) [
        | inl before ↦ inl before
        | inr it ↦ inr (again_here db (keeper.held was it.0) it.1).left
      ]) (made r moment) (kept r last) same plain bounded
    where
      again_here : (db : Trees) → IsHeld old.text old.shelf old.last (trees_in g old)
          → Become text (trees_in g old) db → IsHeld old.text old.shelf t db
      again_here db held b =
          again db held (subst (λ x. Become x (trees_in g old) db) of_text b)

      made : (q : Result A StoreFault) → OnOk q (new.last ≡ t)
          → OnOk q (IsHeld old.text old.shelf old.last (trees_in g old)
          → Become text (trees_in g old) (trees_in g new)
          → IsHeld new.text new.shelf new.last (trees_in g new))
      made (Ok x) at = λ held b.
          held_as old.text new.text old.shelf new.shelf t new.last (trees_in g new)
          (trees_in g new) same shelf at refl (again_here (trees_in g new) held b)
      made (Err e) at = tt

      kept : (q : Result A StoreFault) → OnErr q (new.last ≡ old.last)
          → OnErr q ((new.shelf ≡ old.shelf) × (new.last ≡ old.last))
      kept (Ok x) at = tt
      kept (Err e) at = (shelf, at)

-- what a stop leaves
module _ {S : Type 0} (g : Ghosts S) (old new : KeeperState S)
    (Become : List ℕ → Trees → Trees → Type 0) (text : List ℕ) (keeper : IsKeeper g old) where
  -- rule: database-sweep.sweeps-accounts
  pub whole : Leaves g old new (Become text) → text ≡ old.text
      → IsCommitWhole g old new (Become old.text (trees_in g old))
  whole leaves is = record {
    left = λ clean db may. elim (leaves clean db may) [
      | inl before ↦ inl before
      | inr it ↦ inr (subst (λ t. Become t (trees_in g old) db) is it.1)
    ];
  }
