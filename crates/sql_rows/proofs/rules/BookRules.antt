-- The books after the first, as they are read: where each is in its rules, no fault of the rules is
-- reported.
use Rattle.std.proofs.Common.{◌≡◌, inl, inr, ℕ, List, [], ◌∷◌, map, drop, true}
use Rattle.std.proofs.Common.{false, ◌&&◌, Some, None, Option, is_eq, refl, ap, ap₂, ◌∙◌}
use Rattle.std.specs.Prelude.{option_map}
use Rattle.std.specs.List.{AllByRecursion}
use Rattle.std.proofs.lemmas.Bool.{and_parts}
use Rattle.std.proofs.lemmas.Cmp.{tied_itself}
use Rattle.std.specs.FinMap.{get-from_entries}
use Rattle.sqlite_value.specs.declared.value.Value.{Value}
use Rattle.sqlite_value.specs.Order.{Row, column, value_cmp}
use Rattle.sqlite_value.proofs.OrderLemmas.{row_cmp_total, value_cmp_total}
use Rattle.sqlite_schema.specs.declared.schema.Kind.TheVariants as kind
use Rattle.sqlite_schema.specs.declared.schema.Constraint.TheVariants.{Datatype, NotNull, Check}
use Rattle.sqlite_schema.specs.Rules.{Fits, are_present, are_typed, is_of, passes_checks}
use Rattle.sqlite_trees.specs.Tree.{Trees}
use Rattle.sqlite_rules.specs.Lists.{Has}
use Rattle.sqlite_rules.proofs.ListLemmas.{all_has}
use Rattle.sqlite.specs.State.{State}
use Rattle.sql_tables.specs.Keyed.{IsStored, entries_of, look}
use Rattle.sql_tables.specs.Schema.{books, our_schema, key_index}
use Rattle.sql_tables.specs.Statements.{Answers}
use Rattle.sql_tables.proofs.Keys.{keys_split}
use Rattle.sql_tables.proofs.Selected.{selected_from}
use Rattle.sql_tables.proofs.Selections.{full_key, meets, met_has, met_some, one_row}
use Rattle.sql_tables.proofs.Steps.{and_true}
use Rattle.sql_rows.specs.Values.{nat, BookRow, book_key, book_in_row}
use Rattle.sql_rows.specs.Content.{tables_content}
use Rattle.sql_rows.specs.Lists.{BookAt, book_at_cells}
use Rattle.sql_rows.specs.Ruled.{AreRuledBooks, IsRuledBook}
use Rattle.sql_rows.proofs.rules.MetaRules.{full_at, right_at, text_of, whole_in}
use Rattle.sql_rows.proofs.selections.ReadBooks.{at_in, columns, books_selected, read_books_text}
use Rattle.sql_rows.proofs.rules.RowRules.{IsRowOf, listed}

-- ---- a stored row

abbrev AreFull : Row → Type 0
AreFull row = (full_at row 1 ≡ true) × (full_at row 2 ≡ true) × (full_at row 3 ≡ true)

full : (row : Row) → are_present None 0 books.columns row ≡ true → AreFull row
full row p =
    let one = and_parts (full_at row 1) (full_at row 2 && (full_at row 3 && true)) p in
    let two = and_parts (full_at row 2) (full_at row 3 && true) one.1 in
    let three = and_parts (full_at row 3) true two.1 in
    (one.0, two.0, three.0)

right : (row : Row) → passes_checks books row ≡ true →
    (right_at row 1 ≡ true) × (right_at row 2 ≡ true)
right row p =
    let one = and_parts (right_at row 1) (right_at row 2 && true) p in
    let two = and_parts (right_at row 2) true one.1 in
    (one.0, two.0)

typed : (x : Value) (vs : Row) → are_typed None 0 books.columns vs ≡ true → AreFull (x ∷ vs)
    → (right_at (x ∷ vs) 1 ≡ true) × (right_at (x ∷ vs) 2 ≡ true)
    → columns (x ∷ vs) ≡ book_at_cells (at_in vs)
typed x [] kinds fulls rules = absurd (let no : false ≡ true = fulls.0 in cc)
typed x (a ∷ []) kinds fulls rules = absurd (let no : false ≡ true = fulls.1 in cc)
typed x (a ∷ b ∷ []) kinds fulls rules = absurd (let no : false ≡ true = fulls.2 in cc)
typed x (a ∷ b ∷ c ∷ more) kinds fulls rules =
    let rest = are_typed None 3 [] more in
    let one =
    and_parts (is_of kind.Integer a) (is_of kind.Integer b && (is_of kind.Text c && rest)) kinds in
    let two = and_parts (is_of kind.Integer b) (is_of kind.Text c && rest) one.1 in
    let three = and_parts (is_of kind.Text c) rest two.1 in
    ap₂ ◌∷◌ (whole_in a one.0 fulls.0 rules.0) (ap₂ ◌∷◌ (whole_in b two.0 fulls.1 rules.1)
    (ap (λ v. v ∷ []) (text_of c three.0 fulls.2)))

row_in : (row : Row) → are_typed None 0 books.columns (drop 1 row) ≡ true
    → are_present None 0 books.columns row ≡ true
    → passes_checks books row ≡ true → columns row ≡ book_at_cells (at_in (drop 1 row))
row_in [] kinds there rules = absurd (let no : false ≡ true = (full [] there).0 in cc)
row_in (x ∷ vs) kinds there rules = typed x vs kinds (full (x ∷ vs) there) (right (x ∷ vs) rules)

fitting : (trees : Trees) → Fits our_schema trees → (row : Row) → Has (trees 22) row
    → columns row ≡ book_at_cells (at_in (drop 1 row))
fitting trees fits row has =
    row_in row
    (and_parts (are_typed None 0 books.columns (drop 1 row)) true
    (all_has _ (trees 22) row (fits.rules Datatype (λ e. cc)).1.1.1.1.1.1.1.1.1.1.0 has)).0
    (all_has _ (trees 22) row (fits.rules NotNull (λ e. cc)).1.1.1.1.1.1.1.1.1.1.0 has)
    (all_has _ (trees 22) row (fits.rules Check (λ e. cc)).1.1.1.1.1.1.1.1.1.1.0 has)

-- it is the row under its number
under_number : (trees : Trees) → Fits our_schema trees → IsStored (trees 22) → (r : Row)
    → Has (trees 22) r → (n : ℕ) → column r 1 ≡ nat n
    → look books trees (book_key n) ≡ Some (drop 1 r)
under_number trees fits stored r h n is =
    let met : meets (1 ∷ []) (book_key n) r ≡ true =
    keys_split (nat n) (column r 1) [] [] ∙ and_true _
    ∙ ap (λ v. is_eq (value_cmp (nat n) v)) is
    ∙ ap is_eq (tied_itself value_cmp_total (nat n)) in
    let it = met_has (1 ∷ []) (book_key n) (trees 22) r h met in
    let back = met_some (1 ∷ []) (book_key n) it.0 (trees 22) it.1 in
    get-from_entries row_cmp_total (entries_of (1 ∷ []) (trees 22)) (book_key n)
    ∙ it.1
    ∙ ap Some (back.3 ∙ ap (drop 1) (one_row (1 ∷ []) our_schema books
    (inr (inr (inr (inr (inr (inr (inr (inr (inr (inr (inl refl))))))))))) (key_index books)
    (inr (inr (inr (inr (inr (inr (inr (inr (inr (inr (inr (inr (inl refl))))))))))))) refl refl
    refl trees fits stored (book_key n) (λ x m. full_key (1 ∷ []) (book_key n) x (refl, tt) m)
    back.0 r back.1 h back.2 met))

-- ---- the rows that are read

abbrev StandsIn : Trees → BookAt → Type 0
StandsIn trees x = (tables_content trees).books x.number ≡ Some x.row

book_row : (trees : Trees) → Fits our_schema trees → IsStored (trees 22) → (r : Row)
    → Has (trees 22) r → (w : Row) → w ≡ columns r
    → IsRowOf book_at_cells (StandsIn trees) w
book_row trees fits stored r h w same =
    let is = fitting trees fits r h in
    record {
      at = at_in (drop 1 r);
      is = same ∙ is;
      stands = ap (option_map book_in_row) (under_number trees fits stored r h
          (at_in (drop 1 r)).number
          (ap (λ (v : Row). column v 0) is));
    }

all_ruled : (books : ℕ → Option BookRow) → AreRuledBooks books → (xs : List BookAt)
    → AllByRecursion (λ (x : BookAt). books x.number ≡ Some x.row) xs
    → AllByRecursion IsRuledBook xs
all_ruled books ruled [] h = tt
all_ruled books ruled (x ∷ xs) h = (ruled x.number x.row h.0, all_ruled books ruled xs h.1)

-- what was refused of the rows that were read is refused of the tables
pub books_refused : (old new : State) (rows : List Row) → Answers read_books_text [] old new rows
    → ((xs : List BookAt) → rows ≡ map book_at_cells xs → ¬ AllByRecursion IsRuledBook xs)
    → ¬ AreRuledBooks (tables_content old.now.trees).books
books_refused old new rows got refused ruled =
    let stored = got.book.stored.1.1.1.1.1.1.1.1.1.1.0 in
    let selects = books_selected old new rows got in
    let it = listed book_at_cells (StandsIn old.now.trees) rows (λ w h.
    let from = selected_from (λ r. true) columns (old.now.trees 22) rows selects w h in
    book_row old.now.trees got.fits stored from.0 from.1 w from.3) in
    refused it.xs it.are (all_ruled (tables_content old.now.trees).books ruled it.xs it.stand)
