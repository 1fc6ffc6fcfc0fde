-- What the commands leave is in its rules, and is found again: it is refused for no row.
use Rattle.std.proofs.Common.{◌≡◌, ◌≤◌, ◌<◌, inl, inr, ◌∙◌, ◌++◌, ◌+◌, ℕ, suc, List, [], ◌∷◌, Some}
use Rattle.std.proofs.Common.{refl, sym, ap, subst, arith, length, length-append, true, Bool}
use Rattle.std.specs.Prelude.{◌==◌, is_some, nat_le}
use Rattle.std.proofs.lemmas.Bool.{and_from}
use Rattle.std.proofs.lemmas.Bool.Decides.{nat_tests}
use Rattle.units.specs.Words.{no_end}
use Rattle.tariffs.specs.Books.{Book}
use Rattle.shelves.specs.Shelves.{AreInSequence, IsShelf, Shelf, count, with_book}
use Rattle.shelves.specs.declared.dated.DatedBook.{DatedBook}
use Rattle.sqlite_trees.specs.Tree.{Trees}
use Rattle.sqlite_trees.specs.declared.store.Store.{Ghosts}
use Rattle.sqlite_schema.specs.Rules.{Fits}
use Rattle.sqlite_schema.specs.declared.schema.Table.{Table}
use Rattle.sqlite_rules.proofs.ListLemmas.{all_has}
use Rattle.sqlite_catalog.specs.Listing.{IsSound}
use Rattle.sqlite_catalog.proofs.ReadLemmas.{lists_once}
use Rattle.sqlite.specs.Effect.{Database}
use Rattle.sqlite.specs.Held.{Held, state}
use Rattle.sql_tables.specs.Keyed.{IsStored}
use Rattle.sql_tables.specs.Schema.{our_schema}
use Rattle.keepers.specs.declared.loaded.Change.{Change}
use Rattle.voucher_rules.specs.declared.terms.VoucherTerms.{VoucherTerms}
use Rattle.sql_tables.specs.declared.fault.OpenFault.{OpenFault}
use Rattle.sql_tables.proofs.Keeps.{sound_fits}
use Rattle.sql_rows.specs.Content.{tables_content}
use Rattle.sql_rows.specs.Values.{Meta}
use Rattle.sql_rules.specs.Columns.{is_in_bounds}
use Rattle.sql_rules.specs.Ruled.{IsInRules, is_book}
use Rattle.sql_rules.specs.Tables.{table_at}
use Rattle.sql_rules.proofs.GrantContents.{books_of_rows}
use Rattle.sql_rules.proofs.MappedRows.{keyed}
use Rattle.sql_rules.proofs.Written.{rows_ruled}
use Rattle.sql_keeper.specs.AddsBook.{BecomesDated}
use Rattle.sql_keeper.specs.Additions.{BecomesAdded}
use Rattle.sql_keeper.specs.Again.{AreLeftRuledAgain, IsFoundAgain}
use Rattle.sql_keeper.specs.Books.{IsBookOf}
use Rattle.sql_keeper.specs.Commits.{Becomes}
use Rattle.sql_keeper.specs.Content.{last_in, shelf_names}
use Rattle.sql_keeper.specs.Seen.{IsKeptOnce}
use Rattle.sql_keeper.specs.Left.{IsHeld, IsKept, IsLeftRuled}
use Rattle.sql_keeper.specs.RuledOpening.{HasUnruledRow}
use Rattle.sql_keeper.specs.Shelves.{IsShelfOf}
use Rattle.sql_keeper.specs.Sweeps.{BecomesSwept}
use Rattle.sql_keeper.specs.Writes.{meta_at}
use Rattle.sql_keeper.proofs.shelf.Again.{left_again, no_fault}
use Rattle.sql_keeper.proofs.shelf.OneShelf.{same_shelf}
use Rattle.sql_keeper.proofs.puts.Overlays.{number_from}
use Rattle.sql_keeper.proofs.shelf.Shelving.{dated_shelf}

-- ---- the row of a book that may follow

within : (low high n : ℕ) → low ≤ n → n ≤ high → is_in_bounds low high n ≡ true
within low high n least most = grind (arith, nat_tests, least, most)

-- the last of books in their sequence begins after the first moment
begins_later : (first b : Book) (t : ℕ) (ds : List DatedBook) (d : DatedBook)
    → AreInSequence first t b (ds ++ d ∷ []) → t < d.from
begins_later first b t [] d seq = seq.1
begins_later first b t (x ∷ ds) d seq =
    omega (arith, seq.1, begins_later first x.book x.from ds d seq.3)

book_ruled : (shelf : Shelf) (b : Book) (n from : ℕ) (text : List ℕ) → n ≡ suc (count shelf)
    → from < no_end → IsShelf (with_book shelf from b)
    → is_book n (record { starts = from; content = text }) ≡ true
book_ruled shelf b n from text number soon behind =
    let d : DatedBook = record { from = from; book = b } in
    let long : length (shelf.later ++ d ∷ []) ≡ length shelf.later + 1 =
    length-append shelf.later (d ∷ []) in
    let few : length (shelf.later ++ d ∷ []) ≤ 15 = behind.few in
    let first : 0 < from =
    begins_later shelf.first shelf.first 0 shelf.later d behind.later in
    let last : from < 4_102_444_800 = soon in
    and_from _ _ (within 2 16 n (omega (arith, number)) (omega (arith, number, long, few)))
    (within 1 4_102_444_799 from (omega (arith, first)) (omega (arith, last)))

-- ---- what is left again

-- where the books are those of the same rows
ruled_by : (text : List ℕ) (shelf : Shelf) (old new : Trees)
    → (tables_content new).books ≡ (tables_content old).books
    → IsShelfOf text (tables_content old).books shelf → IsInRules shelf (tables_content new)
    → (s : Shelf) → IsShelfOf text (tables_content new).books s → IsInRules s (tables_content new)
ruled_by text shelf old new same is in' s so =
    subst (λ x. IsInRules x (tables_content new))
    (same_shelf text (tables_content old).books shelf s is
    (subst (λ rows. IsShelfOf text rows s) same so)) in'

there : (text : List ℕ) (trees : Trees) → IsLeftRuled text trees →
    is_some (tables_content trees).meta ≡ true
there text trees left = ap is_some left.left.kept.is

-- rule: stop-ruled
pub left_ruled_again : AreLeftRuledAgain
left_ruled_again = record {
  made = λ text new utf8 shelf b. record {
    left = left_again.made text new utf8 shelf b;
    rules = λ s is. b.rules s;
    plain = b.plain;
  };
  committed = λ text shelf change old new left is b. record {
    left = left_again.committed _ text change old new left.left b;
    rules = ruled_by text shelf old new b.stands.books is
        (b.rules shelf refl (there text old left) (left.rules shelf is));
    plain = b.stands.tabled.plain left.plain;
  };
  added = λ text code terms t old new left b. record {
    left = left_again.added text code terms t old new left.left b;
    rules = λ s is. b.rules s (there text old left)
        (left.rules s (subst (λ rows. IsShelfOf text rows s) b.stands.books is));
    plain = b.stands.tabled.plain left.plain;
  };
  swept = λ text shelf prices t old new left is b. record {
    left = left_again.swept _ text prices t old new left.left b;
    rules = ruled_by text shelf old new b.stands.books is
        (b.rules shelf refl (there text old left) (left.rules shelf is));
    plain = b.stands.tabled.plain left.plain;
  };
  dated = λ text more n from old new left may soon b. record {
    left = left_again.dated text more n from old new left.left may b;
    rules = λ s is. subst (λ x. IsInRules x (tables_content new))
        (same_shelf text (tables_content new).books (with_book may.shelf from may.book) s
        (subst (λ rows. IsShelfOf text rows (with_book may.shelf from may.book)) (sym b.books)
        (dated_shelf text more (tables_content old).books n from may.shelf may.book may.is may.read
        may.number may.range may.behind)) is)
        (b.rules may.shelf may.book
        (book_ruled may.shelf may.book n from more may.number soon may.behind)
        (left.rules may.shelf may.is));
    plain = b.tabled.plain left.plain;
  };
}

-- ---- it is found again

no_row : (text : List ℕ) (db : Database) → IsLeftRuled text db.trees → Fits our_schema db.trees
    → ¬ HasUnruledRow db
no_row text db left fits h =
    let one : Some h.kept.row ≡ Some left.left.kept.row = sym h.kept.is ∙ left.left.kept.is in
    let row : h.kept.row ≡ left.left.kept.row = cc one in
    let book : h.kept.row.book ≡ text =
    ap (λ (m : Meta). m.book) row ∙ left.left.kept.book in
    let is : IsShelfOf text (tables_content db.trees).books h.shelf =
    subst (λ t. IsShelfOf t (tables_content db.trees).books h.shelf) book h.books in
    let rules = left.rules h.shelf is in
    h.unruled (rows_ruled h.shelf db.trees fits left.left.stored rules left.plain
    (there text db.trees left) (books_of_rows h.shelf db.trees fits
    (λ at low. all_has (λ (t : Table). IsStored (db.trees t.tree)) our_schema.tables (table_at at)
    left.left.stored (keyed at low).tabled) rules.granted))

-- rule: stop-ruled, database-opened.not-opened
pub found_again : {S : Type 0} (g : Ghosts S) (old new : Held S) (text : List ℕ) (fault : OpenFault)
    → IsFoundAgain g old new text fault
found_again g old new text fault left sound clean refused =
    let db = (state g old).now in
    let same : db.schema ≡ our_schema = lists_once _ _ _ sound.lists left.left.lists in
    elim (refused.cause clean) [
      | inl is ↦ is
      | inr of_it ↦ elim of_it [
        | inl h ↦ absurd (no_fault text db fault left.left same h)
        | inr row ↦ absurd (no_row text db left
            (sound_fits db.trees (subst (λ s. IsSound s db.trees) same sound)) row.1)
      ]
    ]

-- ---- what a keeper knows of them is found again

range_of : (from : ℕ) → from < no_end → from ≤ 4_102_488_000
range_of from soon = let low : from < 4_102_444_800 = soon in omega (arith, low)

pub held_committed : (text : List ℕ) (shelf : Shelf) (last : ℕ) (change : Change)
    (old new : Trees) → IsHeld text shelf last old
    → Becomes (shelf_names shelf) text change old new → IsHeld text shelf change.moment new
held_committed text shelf last change old new held b = record {
  left = left_ruled_again.committed text shelf change old new held.left held.books b;
  books = subst (λ rows. IsShelfOf text rows shelf) (sym b.stands.books) held.books;
  moment = sym (ap last_in b.stands.meta);
}

-- a moment that isn't before the last one
by_from : (n t : ℕ) → nat_le n t ≡ true → n ≤ t
by_from n t e = grind (arith, nat_tests, e)

-- the last moment that is kept isn't after it then
-- rule: database-reads.held
pub held_up_to : (text : List ℕ) (shelf : Shelf) (last t : ℕ) (trees : Trees)
    → nat_le last t ≡ true → IsHeld text shelf last trees → last_in (tables_content trees).meta ≤ t
held_up_to text shelf last t trees later held =
    subst (λ n. n ≤ t) held.moment (by_from last t later)

-- what is kept once is there with the text, and as a command leaves it that is at the last moment
-- rule: database-reads.held
pub held_stands : (text : List ℕ) (shelf : Shelf) (last : ℕ) (given : List ℕ) (t : ℕ) (told : Bool)
    (trees : Trees) → given ≡ text → told ≡ (last == t) → nat_le last t ≡ true
    → IsHeld text shelf last trees
    → IsKeptOnce told (meta_at given t) (tables_content trees).meta
held_stands text shelf last given t told trees same at_last later held = record {
  last = kept.row.last;
  later = subst (λ n. n ≤ t) (held.moment ∙ ap last_in kept.is) (by_from last t later);
  row = kept.is ∙ (λ i. Some (record {
    version = kept.version i;
    book = (kept.book ∙ sym same) i;
    last = kept.row.last;
  }));
  moment = λ is. sym (held.moment ∙ ap last_in kept.is)
      ∙ number_from last t (sym at_last ∙ is);
}
  where
    kept : IsKept trees text
    kept = held.left.left.kept

pub held_added : (text : List ℕ) (shelf : Shelf) (last : ℕ) (code : List ℕ) (terms : VoucherTerms)
    (t : ℕ) (old new : Trees) → IsHeld text shelf last old → BecomesAdded text code terms t old new
    → IsHeld text shelf t new
held_added text shelf last code terms t old new held b = record {
  left = left_ruled_again.added text code terms t old new held.left b;
  books = subst (λ rows. IsShelfOf text rows shelf) (sym b.stands.books) held.books;
  moment = sym (ap last_in b.stands.meta);
}

pub held_swept : (text : List ℕ) (shelf own : Shelf) (last t : ℕ) (old new : Trees)
    → IsHeld text own last old → BecomesSwept (shelf_names own) text shelf t old new
    → IsHeld text own t new
held_swept text shelf own last t old new held b = record {
  left = left_ruled_again.swept text own shelf t old new held.left held.books b;
  books = subst (λ rows. IsShelfOf text rows own) (sym b.stands.books) held.books;
  moment = sym (ap last_in b.stands.meta);
}

pub held_dated : (text more : List ℕ) (from : ℕ) (shelf : Shelf) (last : ℕ) (b : Book)
    (old new : Trees) → IsHeld text shelf last old → IsBookOf more b → from < no_end
    → IsShelf (with_book shelf from b) → BecomesDated (suc (count shelf)) from more old new
    → IsHeld text (with_book shelf from b) last new
held_dated text more from shelf last b old new held read soon behind become = record {
  left = left_ruled_again.dated text more (suc (count shelf)) from old new held.left (record {
    shelf = shelf;
    is = held.books;
    book = b;
    read = read;
    number = refl;
    range = range_of from soon;
    behind = behind;
  }) soon become;
  books = subst (λ rows. IsShelfOf text rows (with_book shelf from b)) (sym become.books)
      (dated_shelf text more (tables_content old).books (suc (count shelf)) from shelf b held.books
      read refl (range_of from soon) behind);
  moment = held.moment ∙ sym (ap last_in become.meta);
}
