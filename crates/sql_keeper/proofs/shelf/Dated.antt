-- What a book more leaves of what the tables held.
use Rattle.std.proofs.Common.{◌≡◌, ◌≤◌, ◌<◌, ◌∙◌, ◌++◌, ℕ, zero, suc, Bool, true, false, List, []}
use Rattle.std.proofs.Common.{◌∷◌, Option, Some, None, refl, sym, ap, subst, arith, length}
use Rattle.std.specs.Prelude.{option_map, slice_get, unwrap_or}
use Rattle.sqlite_trees.specs.Tree.{Trees}
use Rattle.reserving.specs.Left.{is_open_row}
use Rattle.shelves.specs.Shelves.{with_book}
use Rattle.sql_rows.specs.Content.{TablesContent, tables_content}
use Rattle.sql_rows.specs.Makes.{Turns}
use Rattle.sql_rows.specs.Values.{Group, PeriodNames}
use Rattle.sql_rules.specs.Ruled.{IsInRules}
use Rattle.sql_keeper.specs.AddsBook.{AreBooksKnown, BecomesDated, with_dated}
use Rattle.sql_keeper.specs.Content.{Names, book_in, stored_group_in, names_numbered, periods_in}
use Rattle.sql_keeper.specs.Content.{told_rows}
use Rattle.sql_keeper.specs.Content.{tables_of}
use Rattle.sql_keeper.specs.Tidy.{IsTidy}
use Rattle.sql_keeper.proofs.rules.RuledRows.{dated_kept}
use Rattle.sql_keeper.proofs.rules.TidyChanges.{tidy_dated}

-- what is in a list is where it was once there is one more
got_still : {A : Type 0} (xs : List A) (x : A) (i : ℕ) → i < length xs →
    slice_get (xs ++ x ∷ []) i ≡ slice_get xs i
got_still [] x i low = absurd (omega (arith, low))
got_still (y ∷ ys) x zero low = refl
got_still (y ∷ ys) x (suc i) low = got_still ys x i (omega (arith, low))

numbered_still : (names : Names) (more : List (List ℕ)) (n : ℕ) → n ≤ length names →
    names_numbered (names ++ more ∷ []) n ≡ names_numbered names n
numbered_still names more zero low = refl
numbered_still names more (suc i) low =
    ap (λ o. unwrap_or o []) (got_still names more i (omega (arith, low)))

-- the book of a reservation is one that was there
book_low : (k : ℕ) (book : Option ℕ) → 1 ≤ k → ((m : ℕ) → book ≡ Some m → m ≤ k) →
    book_in book ≤ k
book_low k None some low = some
book_low k (Some m) some low = low m refl

group_still : (names : Names) (more : List (List ℕ)) (is_open : Bool) (book : Option ℕ)
    (o : Option Group) → book_in book ≤ length names
    → option_map (stored_group_in (names ++ more ∷ []) is_open book) o
    ≡ option_map (stored_group_in names is_open book) o
group_still names more is_open book None low = refl
group_still names more is_open book (Some x) low = at is_open x.periods
  where
    at : (t : Bool) (p : Option PeriodNames)
        → Some (stored_group_in (names ++ more ∷ []) t book (record { used = x.used; periods = p }))
        ≡ Some (stored_group_in names t book (record { used = x.used; periods = p }))
    at false p = refl
    at true None = refl
    at true (Some q) = λ i. Some (record {
      used = x.used;
      terms = Some (record {
        book = book_in book;
        periods = periods_in (numbered_still names more (book_in book) low i) q;
      });
    })

dated_tables : (names : Names) (more : List (List ℕ)) (n from : ℕ) (text : List ℕ)
    (c : TablesContent)
    → 1 ≤ length names → AreBooksKnown (length names) c
    → tables_of (names ++ more ∷ []) (with_dated n from text c) ≡ tables_of names c
dated_tables names more n from text c some known = λ i. record (tables_of names c) {
  rows = λ a. record (told_rows names (c.rows a)) {
    groups = λ s g. group_still names more (is_open_row ((c.rows a).sessions s))
        ((c.rows a).grant_books s g) ((c.rows a).groups s g)
        (book_low (length names) ((c.rows a).grant_books s g) some (known a s g)) i;
  };
}

-- rule: book-added
pub become_dated : (n from : ℕ) (text : List ℕ) (old new : Trees)
    → Turns (with_dated n from text) old new → BecomesDated n from text old new
become_dated n from text old new turns = record {
  tables = λ names more some is known.
      ap (tables_of (names ++ more ∷ [])) turns.content
      ∙ dated_tables names more n from text (tables_content old) some known;
  tidy = λ names more t. subst (IsTidy (names ++ more ∷ [])) (sym turns.content)
      (tidy_dated names more n from text (tables_content old) t);
  rules = λ shelf b rule in'. subst (IsInRules (with_book shelf from b)) (sym turns.content)
      (dated_kept shelf from b n text (tables_content old) rule in');
  tabled = record { catalog = turns.catalog; stored = turns.stored; plain = turns.plain };
  books = ap (λ (c : TablesContent). c.books) turns.content;
  meta = ap (λ (c : TablesContent). c.meta) turns.content;
}
