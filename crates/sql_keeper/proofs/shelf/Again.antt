-- What was left of a book's tables is found again.
use Rattle.std.proofs.Common.{◌≡◌, ◌≤◌, ◌<◌, ◌∙◌, arith, List, ℕ, Option, Some, None}
use Rattle.std.proofs.Common.{sym, ap, subst, refl}
use Rattle.std.specs.Prelude.{◌^◌}
use Rattle.shelves.specs.Shelves.{IsShelf, Shelf, one_book, with_book}
use Rattle.std.specs.Str.{IsUtf8}
use Rattle.sqlite_trees.specs.Tree.{Trees}
use Rattle.sqlite_trees.specs.Objects.{catalog_tree}
use Rattle.sqlite_catalog.specs.Listing.{Lists}
use Rattle.sqlite.specs.Effect.{Database}
use Rattle.sql_tables.specs.Schema.{our_schema, latest}
use Rattle.sql_tables.specs.Stages.{AreStoredAt}
use Rattle.sql_tables.specs.Statements.{AreStored}
use Rattle.sql_rows.specs.Ruled.{IsMetaOther}
use Rattle.sql_rows.specs.Values.{BookRow, Meta}
use Rattle.sql_rows.specs.Content.{tables_content}
use Rattle.sql_tables.specs.declared.fault.OpenFault.{OpenFault}
use Rattle.sql_tables.specs.declared.fault.OpenFault.TheVariants.{Foreign, Version, Rules, Store}
use Rattle.sql_tables.specs.declared.fault.OpenFault.TheVariants.{Memory, Older}
use Rattle.sql_keeper.specs.Again.{AreLeftAgain}
use Rattle.sql_keeper.specs.Books.{IsBookOf}
use Rattle.sql_keeper.specs.Causes.{HasFault}
use Rattle.sql_keeper.specs.Creates.{first_meta}
use Rattle.sql_keeper.specs.Opened.{IsLeft}
use Rattle.sql_keeper.specs.Shelves.{AreLater, HasShelf, IsShelfOf}
use Rattle.sql_keeper.specs.Writes.{meta_at, meta_with}
use Rattle.sql_keeper.proofs.openings.Causes.{latest_known, same_version}
use Rattle.sql_keeper.proofs.shelf.Shelving.{dated_shelf}

left_by : (text : List ℕ) (old new : Trees) (row : Meta) → IsLeft text old
    → new catalog_tree ≡ old catalog_tree
    → AreStored new → (tables_content new).meta ≡ Some row → row.version ≡ latest → row.book ≡ text
    → row.last ≤ 4_102_488_000 → HasShelf text (tables_content new).books → IsLeft text new
left_by text old new row left catalog stored is version book last shelf = record {
  lists = subst (λ rows. Lists rows our_schema) (sym catalog) left.lists;
  stored = stored;
  kept = record { row = row; is = is; version = version; book = book; last = last };
  utf8 = left.utf8;
  shelf = shelf;
}

-- the shelf of the same rows
same_shelf : (text : List ℕ) (old new : Trees) → (tables_content new).books ≡
    (tables_content old).books
    → HasShelf text (tables_content old).books → HasShelf text (tables_content new).books
same_shelf text old new same has =
    (has.0, subst (λ rows. IsShelfOf text rows has.0) (sym same) has.1)

-- a book alone is a shelf
pub alone_shelf : (text : List ℕ) (rows : ℕ → Option BookRow) (s : Shelf) → IsShelf s
    → s ≡ one_book s.first → IsBookOf text s.first → ((n : ℕ) → rows n ≡ None)
    → IsShelfOf text rows s
alone_shelf text rows s is alone read none = record {
  is = is;
  first = read;
  later = subst (AreLater rows 2) (sym (ap (λ (x : Shelf). x.later) alone)) tt;
  none = λ n other. none n;
}

-- rule: database-opened.left
pub left_again : AreLeftAgain
left_again = record {
  made = λ text new utf8 shelf b. record {
    lists = b.lists;
    stored = b.stored;
    kept = record {
      row = first_meta text;
      is = b.meta;
      version = refl;
      book = refl;
      last = omega arith;
    };
    utf8 = utf8;
    shelf = (
      shelf.0,
      alone_shelf text (tables_content new).books shelf.0 shelf.1.is shelf.1.alone
          shelf.1.first b.books,
    );
  };
  committed = λ names text change old new left b.
      left_by text old new (meta_with text change) left b.stands.tabled.catalog b.stands.tabled.stored
      b.stands.meta refl refl b.stands.last
      (same_shelf text old new b.stands.books left.shelf);
  added = λ text code terms t old new left b.
      left_by text old new (meta_at text t) left b.stands.tabled.catalog b.stands.tabled.stored
      b.stands.meta refl refl b.stands.last
      (same_shelf text old new b.stands.books left.shelf);
  swept = λ names text shelf t old new left b.
      left_by text old new (meta_at text t) left b.stands.tabled.catalog b.stands.tabled.stored
      b.stands.meta refl refl b.stands.last
      (same_shelf text old new b.stands.books left.shelf);
  dated = λ text more n from old new left may b.
      left_by text old new left.kept.row left b.tabled.catalog b.tabled.stored (b.meta ∙ left.kept.is)
      left.kept.version left.kept.book left.kept.last (
        with_book may.shelf from may.book,
        subst (λ rows. IsShelfOf text rows (with_book may.shelf from may.book)) (sym b.books)
            (dated_shelf text more (tables_content old).books n from may.shelf may.book may.is
            may.read
            may.number may.range may.behind),
      );
}

-- what is left has none of these faults
-- rule: database-opened.not-opened
pub no_fault : (text : List ℕ) (db : Database) (fault : OpenFault) → IsLeft text db.trees
    → db.schema ≡ our_schema → ¬ HasFault fault db
no_fault text db Foreign left same h = h latest latest_known same
no_fault text db Version left same h =
    let v = same_version h.version latest h.known latest_known (sym h.schema ∙ same) in
    let other : ¬ (left.kept.row.version ≡ h.version) =
    subst (IsMetaOther h.version) left.kept.is h.other in
    other (left.kept.version ∙ sym v)
no_fault text db Rules left same h =
    let v = same_version h.version latest h.known latest_known (sym h.schema ∙ same) in
    let stored = subst (λ n. AreStoredAt n db.trees) (sym v) left.stored in
    let number : left.kept.row.version < 2 ^ 32 =
    (let is : left.kept.row.version ≡ 3 = left.kept.version in omega (arith, is)) in
    let told = (h.unruled stored left.kept.row left.kept.is).1 (record {
      version = number;
      book = subst IsUtf8 (sym left.kept.book) left.utf8;
      last = left.kept.last;
    }) in
    told.1 (subst (λ t. HasShelf t (tables_content db.trees).books) (sym left.kept.book) left.shelf)
no_fault text db Store left same h = h
no_fault text db Memory left same h = h
no_fault text db Older left same h =
    let v = same_version h.version latest h.known latest_known (sym h.schema ∙ same) in
    let low : h.version < 3 = h.older in
    let top : h.version ≡ 3 = v in
    omega (arith, low, top)
