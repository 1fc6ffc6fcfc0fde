-- The clauses of a keeper's calls give what is spelled out of them.
use Rattle.std.proofs.Common.{◌≡◌, inl, inr, ap, subst}
use Rattle.std.specs.Prelude.{Result, Ok, Err, IfErr, IsErrOf, OnErr, OnOk}
use Rattle.units.specs.Words.{Moment}
use Rattle.shelves.specs.Words.{BookText}
use Rattle.shelves.specs.Shelves.{Shelf}
use Rattle.sqlite_trees.specs.declared.store.Store.{Ghosts}
use Rattle.sqlite.specs.Held.{Held, state}
use Rattle.sqlite.specs.State.{HasCleanDisk}
use Rattle.keepers.specs.declared.fault.StoreFault.TheVariants.{Store as Failed}
use Rattle.sql_rows.specs.Content.{tables_content}
use Rattle.sql_keeper.specs.AddsBook.{AddsBook, of_store}
use Rattle.sql_keeper.specs.Again.{IsFoundAfter}
use Rattle.sql_keeper.specs.Inside.{KeeperState, names_in}
use Rattle.sql_keeper.specs.Opened.{IsCreated, IsLeftRuled}
use Rattle.sql_keeper.specs.Shelves.{IsShelfOf}
use Rattle.sql_keeper.specs.Stops.{trees_in}
use Rattle.sql_keeper.specs.declared.add_fault.AddFault.{AddFault}
use Rattle.sql_keeper.specs.declared.add_fault.AddFault.TheVariants.{Book as OfBook}
use Rattle.sql_keeper.specs.declared.add_fault.AddFault.TheVariants.{Shelf as OfShelf}
use Rattle.sql_keeper.specs.declared.add_fault.AddFault.TheVariants.{Store as OfStore}
use Rattle.database_tests.specs.Spelled.{AddsBookSpelled, IsCreatedSpelled, IsFoundAfterSpelled}

on_ok : {A E P Q : Type 0} (r : Result A E) → (P → Q) → OnOk r P → OnOk r Q
on_ok (Ok x) f p = f p
on_ok (Err e) f p = tt

on_err : {A E P Q : Type 0} (r : Result A E) → (P → Q) → OnErr r P → OnErr r Q
on_err (Ok x) f p = tt
on_err (Err e) f p = f p

-- what holds of an error holds at one
if_err : {A E : Type 0} {P : E → Type 0} {Q : Type 0} (r : Result A E)
    → ((e : E) → P e → Q) → IfErr r P → OnErr r Q
if_err (Ok x) f p = tt
if_err (Err e) f p = f e p

also_err : {A E : Type 0} {P Q : E → Type 0} (r : Result A E)
    → ((e : E) → P e → Q e) → IfErr r P → IfErr r Q
also_err (Ok x) f p = tt
also_err (Err e) f p = f e p

-- a fault of the store is one of the store alone
of_the_store : {A : Type 0} (r : Result A AddFault) → IsErrOf r (OfStore Failed)
    → IsErrOf (of_store r) Failed
of_the_store (Ok x) is = absurd (cc)
of_the_store (Err (OfBook f)) is = absurd (cc)
of_the_store (Err (OfShelf f)) is = absurd (cc)
of_the_store (Err (OfStore f)) is = let same : f ≡ Failed = cc is in ap Err same

-- rule: book-added
pub adds_book_spelled : {S A : Type 0} (g : Ghosts S) (text : BookText) (from : Moment)
    (old new : KeeperState S) (before after : Shelf) (r : Result A AddFault)
    → AddsBook g text from old new before after r
    → AddsBookSpelled g text from old new before after r
adds_book_spelled g text from old new before after r it = record {
  added = λ clean. on_ok r (λ x. x.added) (it.done clean);
  own = on_ok r (λ x. (x.book, x.read, x.is)) it.own;
  numbered = on_ok r (λ x. x.counts) it.own;
  done = λ clean. on_ok r (λ x. x.becomes) (it.done clean);
  shelf = on_err r (λ x. x.0) it.kept;
  kept = on_err r (λ x. x.1) it.kept;
  tables = λ clean. if_err r (λ e x. x.tables) (it.told clean);
  told = λ clean. also_err r (λ e x. x.told) (it.told clean);
  cleanness = it.cleanness;
  counts = it.cause.kept;
  cause = λ is. it.cause.cause (of_the_store r is);
  whole = record {
    left = λ clean db may. elim (it.left.left clean db may) [
      | inl was ↦ inl was
      | inr more ↦ inr more.becomes
    ];
  };
  follows = it.left;
}

-- rule: database-made.created
pub is_created_spelled : {S : Type 0} (g : Ghosts S) (text : BookText) (old : Held S)
    (k : KeeperState S) (shelf : Shelf) → IsCreated g text old k shelf
    → IsCreatedSpelled g text old k shelf
is_created_spelled g text old k shelf it = record {
  fresh = it.begins.fresh;
  alone = it.alone;
  of_text = it.of_text;
  blank = it.blank;
  plain = it.plain;
  clean = it.begins.clean;
  made = it.made;
  tables = λ clean. (it.made clean).tables (names_in k);
  left = λ clean. (left_ruled clean).left;
  ruled = left_ruled;
  survives = it.survives;
}
  where
    left_ruled : HasCleanDisk (state g k.connection) → IsLeftRuled text (trees_in g k)
    left_ruled clean = subst (λ t. IsLeftRuled t (trees_in g k)) it.of_text
        (it.begins.held clean).left

-- rule: stop-opened
pub is_found_after_spelled : {S T : Type 0} (g : Ghosts S) (e : Ghosts T) (old : KeeperState S)
    (new : KeeperState T) (shelf : Shelf) → IsFoundAfter g e old new shelf
    → IsFoundAfterSpelled g e old new shelf
is_found_after_spelled g e old new shelf it = record {
  honest = it.honest;
  may = it.may;
  left = it.held.left;
  text = it.text;
  own = it.fresh.own;
  uncounted = it.fresh.uncounted;
  books = subst (λ t. IsShelfOf t (tables_content (trees_in e new)).books shelf) it.text
      it.held.books;
  rests = it.rests;
}
