-- A store that is stopped where it is and opened again, and what a change leaves over a stop.
use Rattle.std.proofs.Common.{◌≡◌, ◌⊎◌, inl, inr, ◌∙◌, ap, sym, subst, arith}
use Rattle.std.specs.Prelude.{IfOk, OnOk, Ok, Err, Result}
use Rattle.sqlite_trees.specs.Tree.{Trees}
use Rattle.sqlite_trees.specs.declared.store.Store.{Ghosts}
use Rattle.sqlite.specs.Held.{Held, state}
use Rattle.sqlite.specs.State.{HasCleanDisk}
use Rattle.shelves.specs.Shelves.{Shelf}
use Rattle.keepers.specs.Change.{changed}
use Rattle.keepers.specs.declared.fault.StoreFault.{StoreFault}
use Rattle.keepers.specs.declared.loaded.Change.{Change}
use Rattle.sql_tables.specs.declared.fault.OpenFault.{OpenFault}
use Rattle.sql_rows.specs.Content.{tables_content}
use Rattle.sql_keeper.specs.Again.{IsChangedWhole, IsFoundAfter}
use Rattle.sql_keeper.specs.Again.{ShowsStopped}
use Rattle.sql_keeper.specs.Causes.{IsStores}
use Rattle.sql_keeper.specs.Commits.{Becomes}
use Rattle.sql_keeper.specs.Content.{shelf_names, tables_of}
use Rattle.sql_keeper.specs.Inside.{IsClean, IsKeeper, KeeperState, names_in, tables_in}
use Rattle.sql_keeper.specs.Left.{IsHeld, IsLeftRuled}
use Rattle.sql_keeper.specs.Opened.{IsNotOpened, IsOpened}
use Rattle.sql_keeper.specs.Shelves.{IsShelfOf}
use Rattle.sql_keeper.specs.Stops.{IsCommitWhole, trees_in}
use Rattle.sql_keeper.proofs.openings.Held.{held_committed}
use Rattle.sql_keeper.proofs.reads.Asked.{open_of}
use Rattle.sql_keeper.proofs.shelf.OneShelf.{same_shelf}
use Rattle.sql_keeper.specs.Settled.{AreSettled}
use Rattle.sql_keeper.proofs.stops.Stopped.{one_kept, opened_again, stopped_whole}

-- ---- the store and the connection

-- ---- the keeper

module _ {S : Type 0} (g : Ghosts S) (law : AreSettled g) (old : KeeperState S)
    (conn shown : Held S) (keeper : IsKeeper g old) (same : conn ≡ old.connection)
    (shows : HasCleanDisk (state g shown) → ShowsStopped g conn shown) where
  shows_old : HasCleanDisk (state g shown) → ShowsStopped g old.connection shown
  shows_old = subst (λ h. HasCleanDisk (state g shown) → ShowsStopped g h shown) same shows

  -- rule: stop-opened
  pub found_stopped : (new : KeeperState S) (shelf : Shelf) → IsOpened g shown new shelf
      → HasCleanDisk (state g new.connection) → IsFoundAfter g g old new shelf
  found_stopped new shelf o clean =
      let it = shows_old (omega (arith, o.survives.clean, clean)) in
      (opened_again g g law old shown keeper it.honest it.may it.sound).0 new shelf o clean

  -- rule: stop-opened
  pub refused_stopped : (left : Held S) (fault : OpenFault) → IsNotOpened g shown left fault
      → HasCleanDisk (state g left) → IsStores fault
  refused_stopped left fault refused clean =
      let it = shows_old (omega (arith, refused.survives.clean, clean)) in
      (opened_again g g law old shown keeper it.honest it.may it.sound).1 left fault refused clean

-- ---- a change

module _ {S : Type 0} (g : Ghosts S) (law : AreSettled g) (change : Change)
    (old mid new : KeeperState S) (shelf : Shelf) (keeper : IsKeeper g old)
    (rest : IsClean (state g old.connection))
    (whole : IsCommitWhole g old mid (Becomes (names_in old) old.text change (trees_in g old)))
    (found : IsFoundAfter g g mid new shelf) (honest : HasCleanDisk (state g mid.connection)) where
  held : IsHeld old.text old.shelf old.last (trees_in g old)
  held = keeper.held rest.disk (open_of (state g old.connection) keeper.stays rest)

  abbrev Written : Trees → Type 0
  Written = Becomes (names_in old) old.text change (trees_in g old)

  either : (trees_in g new ≡ trees_in g old) ⊎ Written (trees_in g new)
  either = stopped_whole g g law old mid new shelf Written keeper rest honest whole found

  kept_left : IsLeftRuled old.text (trees_in g new)
  kept_left = elim either [
    | inl same ↦ subst (IsLeftRuled old.text) (sym same) held.left
    | inr w ↦ (held_committed old.text old.shelf old.last change (trees_in g old)
        (trees_in g new) held w).left
  ]

  kept_books : (tables_content (trees_in g new)).books ≡ (tables_content (trees_in g old)).books
  kept_books = elim either [
    | inl same ↦ ap (λ d. (tables_content d).books) same
    | inr w ↦ w.stands.books
  ]

  text_stays : new.text ≡ old.text
  text_stays = one_kept (trees_in g new) old.text new.text kept_left.left.kept
      found.held.left.left.kept

  shelf_stays : new.shelf ≡ old.shelf
  shelf_stays = found.fresh.own ∙ same_shelf old.text (tables_content (trees_in g old)).books shelf
      old.shelf
      (subst (λ rows. IsShelfOf old.text rows shelf) kept_books
      (subst (λ t. IsShelfOf t (tables_content (trees_in g new)).books shelf)
      text_stays found.held.books)) held.books

  -- rule: stop-command
  pub changed_whole : {A : Type 0} (r : Result A StoreFault)
      → (HasCleanDisk (state g mid.connection) → OnOk r (IsClean (state g mid.connection)))
      → (IsClean (state g mid.connection)
      → OnOk r (tables_in g mid ≡ changed change (tables_in g old)))
      → IsChangedWhole g change old new r
  changed_whole {A} r stands done = record {
    either = either;
    text = text_stays;
    shelf = shelf_stays;
    acknowledged = told r (stands honest) done;
  }
    where
      told : (q : Result A StoreFault) → OnOk q (IsClean (state g mid.connection))
          → (IsClean (state g mid.connection)
          → OnOk q (tables_in g mid ≡ changed change (tables_in g old)))
          → OnOk q (tables_in g new ≡ changed change (tables_in g old))
      told (Ok x) clean to =
          let it = found.rests clean in
          ap (λ s. tables_of (shelf_names s) (tables_content (trees_in g new)))
          (found.fresh.own ∙ it.1)
          ∙ ap (λ d. tables_of (names_in mid) (tables_content d)) it.0 ∙ to clean
      told (Err e) clean to = tt

-- so it is of what is opened again, if it is
pub changed_after : {S A E : Type 0} (g : Ghosts S) → AreSettled g → (change : Change)
    (old mid : KeeperState S) → IsKeeper g old → IsClean (state g old.connection)
    → IsCommitWhole g old mid (Becomes (names_in old) old.text change (trees_in g old))
    → (r : Result A StoreFault) → (HasCleanDisk (state g mid.connection)
    → OnOk r (IsClean (state g mid.connection)))
    → (IsClean (state g mid.connection)
    → OnOk r (tables_in g mid ≡ changed change (tables_in g old)))
    → (q : Result (KeeperState S × Shelf) E)
    → IfOk q (λ made. HasCleanDisk (state g made.0.connection)
    → IsFoundAfter g g mid made.0 made.1)
    → IfOk q (λ made. HasCleanDisk (state g made.0.connection)
    → IsChangedWhole g change old made.0 r)
changed_after g law change old mid keeper rest whole r stands done (Ok made) found = λ clean.
    let it = found clean in
    changed_whole g law change old mid made.0 made.1 keeper rest whole it it.honest r stands done
changed_after g law change old mid keeper rest whole r stands done (Err e) found = tt
