-- A keeper that was stopped, and its database opened again.
use Rattle.std.proofs.Common.{◌≡◌, inl, inr, ◌∙◌, ap, sym, subst, List, ℕ}
use Rattle.std.proofs.lemmas.Option.{same_Some}
use Rattle.sqlite_trees.specs.Tree.{Trees}
use Rattle.sqlite_trees.specs.declared.store.Store.{Ghosts}
use Rattle.sqlite.specs.Effect.{Database}
use Rattle.sqlite.specs.Held.{Held, state}
use Rattle.sqlite.specs.State.{HasCleanDisk}
use Rattle.shelves.specs.Shelves.{Shelf}
use Rattle.sql_rows.specs.Content.{tables_content}
use Rattle.sql_rows.specs.Values.{Meta}
use Rattle.sql_keeper.specs.AddsBook.{BecomesDated}
use Rattle.sql_keeper.specs.Additions.{BecomesAdded}
use Rattle.sql_keeper.specs.Again.{AreOpenedAgain, AreStoppedWhole, IsFoundAfter, IsStoppedWhole}
use Rattle.sql_keeper.specs.Commits.{Becomes}
use Rattle.sql_keeper.specs.Sweeps.{BecomesSwept}
use Rattle.sql_keeper.specs.Content.{last_in}
use Rattle.sql_keeper.specs.Inside.{IsClean, IsKeeper, KeeperState, names_in}
use Rattle.sql_keeper.specs.Left.{IsHeld, IsKept}
use Rattle.sql_keeper.specs.Opened.{IsOpened}
use Rattle.sql_keeper.specs.Shelves.{IsShelfOf}
use Rattle.sql_keeper.specs.Stops.{MayLeave, trees_in}
use Rattle.sql_keeper.proofs.openings.Held.{found_again}
use Rattle.sql_keeper.proofs.reads.Asked.{open_of}
use Rattle.sql_keeper.proofs.shelf.OneShelf.{same_shelf}
use Rattle.sql_keeper.specs.Settled.{AreSettled, at_rest}

-- tables keep one text
pub one_kept : (trees : Trees) (text more : List ℕ) → IsKept trees text → IsKept trees more
    → more ≡ text
one_kept trees text more kept again =
    let row : kept.row ≡ again.row =
    same_Some kept.row again.row (sym kept.is ∙ again.is) in
    sym again.book ∙ sym (ap (λ (m : Meta). m.book) row) ∙ kept.book

module _ {S T : Type 0} (g : Ghosts S) (e : Ghosts T) (law : AreSettled g) (old : KeeperState S)
    (shown : Held T) (keeper : IsKeeper g old) (clean : HasCleanDisk (state g old.connection))
    (may : MayLeave g old (state e shown).now.trees) where
  module _ (new : KeeperState T) (shelf : Shelf) (o : IsOpened e shown new shelf)
      (after : HasCleanDisk (state e new.connection)) where
    shows : trees_in e new ≡ (state e shown).now.trees
    shows = ap (λ (d : Database). d.trees) (o.still after).now_is

    may_now : MayLeave g old (trees_in e new)
    may_now = subst (MayLeave g old) (sym shows) may

    held_now : IsHeld new.text shelf new.last (trees_in e new)
    held_now = o.begins.held after

    text_is : new.text ≡ old.text
    text_is = one_kept (trees_in e new) old.text new.text
        (keeper.found clean (trees_in e new) may_now).left.kept held_now.left.left.kept

    books_are : IsShelfOf old.text (tables_content (trees_in e new)).books shelf
    books_are = subst (λ t. IsShelfOf t (tables_content (trees_in e new)).books shelf) text_is
        held_now.books

    at_rest_now : IsClean (state g old.connection) → (trees_in e new ≡ trees_in g old)
        × (shelf ≡ old.shelf) × (new.last ≡ old.last)
    at_rest_now rest =
        let same = at_rest g law old keeper rest (trees_in e new) may_now in
        let held = keeper.held rest.disk (open_of (state g old.connection) keeper.stays rest) in (
          same,
          same_shelf old.text (tables_content (trees_in g old)).books shelf old.shelf
              (subst (λ d. IsShelfOf old.text (tables_content d).books shelf) same books_are)
              held.books,
          held_now.moment
              ∙ ap (λ d. last_in (tables_content d).meta) same ∙ sym held.moment,
        )

    found_after : IsFoundAfter g e old new shelf
    found_after = record {
      honest = clean;
      may = may_now;
      fresh = o.begins.fresh;
      held = held_now;
      text = text_is;
      rests = at_rest_now;
    }

-- rule: stop-opened
pub opened_again : {S T : Type 0} (g : Ghosts S) (e : Ghosts T) → AreSettled g
    → AreOpenedAgain g e
opened_again g e law old shown keeper clean may sound = (
  λ new shelf o after. found_after g e law old shown keeper clean may new shelf o after,
  λ left fault refused after. found_again e shown left old.text fault
      (keeper.found clean (state e shown).now.trees may) sound after refused,
)

-- rule: stop, stop-command
pub stopped_whole : {S T : Type 0} (g : Ghosts S) (e : Ghosts T) → AreSettled g
    → (old mid : KeeperState S) (new : KeeperState T) (shelf : Shelf) (Written : Trees → Type 0)
    → IsStoppedWhole g e old mid new shelf Written
stopped_whole g e law old mid new shelf Written keeper rest clean whole found =
    elim (whole.left clean (trees_in e new) found.may) [
      | inl before ↦ inl (at_rest g law old keeper rest (trees_in e new) before)
      | inr written ↦ inr written
    ]

pub are_stopped_whole : {S T : Type 0} (g : Ghosts S) (e : Ghosts T) → AreSettled g
    → AreStoppedWhole g e
are_stopped_whole g e law = record {
  changed = λ old mid new shelf change. stopped_whole g e law old mid new shelf
      (Becomes (names_in old) old.text change (trees_in g old));
  added = λ old mid new shelf code terms t. stopped_whole g e law old mid new shelf
      (BecomesAdded old.text code terms t (trees_in g old));
  swept = λ old mid new shelf prices t. stopped_whole g e law old mid new shelf
      (BecomesSwept (names_in old) old.text prices t (trees_in g old));
  dated = λ old mid new shelf n from text. stopped_whole g e law old mid new shelf
      (BecomesDated n from text (trees_in g old));
}
