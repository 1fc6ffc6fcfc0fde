-- Rows of the books of reservations, as `read_open_rows` selects them.
use Rattle.std.specs.Prelude.{option_map}
use Rattle.std.proofs.Common.{◌≡◌, inl, inr, ℕ, List, [], ◌∷◌, map, drop, Bool, true}
use Rattle.std.proofs.Common.{◌&&◌, Some, None, Option, is_eq, ap₂, refl, sym, ap, ◌∙◌}
use Rattle.sqlite_value.specs.declared.value.Value.TheVariants.{Null, Text}
use Rattle.sqlite_value.specs.declared.keys.Collation.TheVariants.{Binary}
use Rattle.sqlite_value.specs.Order.{Row, column, value_cmp}
use Rattle.sqlite_trees.specs.Tree.{Trees}
use Rattle.sqlite_schema.specs.Rules.{Fits, equal}
use Rattle.sql_tables.specs.Keyed.{IsStored}
use Rattle.sql_tables.specs.Schema.{grant_books, our_schema}
use Rattle.sql_tables.proofs.ByKey.{answered_told, only_all}
use Rattle.sql_tables.proofs.Columns.{equal_turned}
use Rattle.sql_tables.proofs.Keys.{int_tie, keys_split, text_tie}
use Rattle.sql_tables.proofs.Selected.{AreAnswered}
use Rattle.sql_tables.proofs.Selections.{meets}
use Rattle.sql_tables.proofs.Steps.{and_true}
use Rattle.sql_rows.specs.Values.{grant_book_in, group_key, nat, nat_in, text_in}
use Rattle.sql_rows.specs.Content.{rows_in}
use Rattle.sql_rows.specs.Lists.{AreAllGrantBooks, SessionBookAt, is_book_of}
use Rattle.sql_rows.specs.Lists.{session_book_cells}

-- a stored row as one of the list
abbrev at_in : Row → SessionBookAt
at_in v = record {
  session = text_in (column v 1);
  group = nat_in (column v 2);
  book = grant_book_in v;
}

-- the columns that are read as one of the list
abbrev from_cells : Row → SessionBookAt
from_cells w = record {
  session = text_in (column w 1);
  group = nat_in (column w 2);
  book = grant_book_in w;
}

abbrev pub columns : Row → Row
columns r = nat 2 ∷ column r 2 ∷ column r 3 ∷ column r 4 ∷ Null ∷ Null ∷ Null ∷ []

same_columns : (r : Row) → at_in (drop 1 r) ≡ from_cells (columns r)
same_columns [] = refl
same_columns (v ∷ vs) = refl

back : (x : SessionBookAt) (r : Row) → session_book_cells x ≡ columns r → at_in (drop 1 r) ≡ x
back x r is = same_columns r ∙ ap from_cells (sym is) ∙ refl

books_only : (o : Option Row) →
    option_map (λ (x : SessionBookAt). x.book) (option_map at_in o) ≡ option_map grant_book_in o
books_only None = refl
books_only (Some v) = refl

module _ (a : List ℕ) where
  abbrev pub front : Row → Bool
  front r = equal Binary (column r 1) (Text a)

  abbrev rest : List ℕ → ℕ → Row → Bool
  rest s g r = is_eq (value_cmp (Text s) (column r 2)) && is_eq (value_cmp (nat g) (column r 3))

  splits : (s : List ℕ) (g : ℕ) (r : Row) →
      meets (1 ∷ 2 ∷ 3 ∷ []) (group_key a s g) r ≡ (front r && rest s g r)
  splits s g r =
      keys_split (Text a) (column r 1) (Text s ∷ nat g ∷ []) (column r 2 ∷ column r 3 ∷ [])
      ∙ ap₂ ◌&&◌ (sym (equal_turned (column r 1) (Text a) refl))
      (keys_split (Text s) (column r 2) (nat g ∷ []) (column r 3 ∷ [])
      ∙ ap (λ t. is_eq (value_cmp (Text s) (column r 2)) && t)
      (keys_split (nat g) (column r 3) [] [] ∙ and_true _))

  wanted : (s : List ℕ) (g : ℕ) (x : SessionBookAt) (r : Row) → session_book_cells x ≡ columns r →
      rest s g r ≡ is_book_of s g x
  wanted s g x r is =
      ap (λ (w : Row). is_eq (value_cmp (Text s) (column w 1))
      && is_eq (value_cmp (nat g) (column w 2))) (sym is)
      ∙ ap₂ ◌&&◌ (text_tie x.session s) (int_tie x.group g)

  -- a list of those rows
  pub books_answered : (trees : Trees) → Fits our_schema trees → IsStored (trees 24)
      → (xs : List SessionBookAt)
      → AreAnswered front columns (trees 24) (map session_book_cells xs)
      → AreAllGrantBooks (rows_in trees a) xs
  books_answered trees fits stored xs answered s g =
      ap (option_map (λ (x : SessionBookAt). x.book))
      (answered_told grant_books
      (inr (inr (inr (inr (inr (inr (inr (inr (inr (inr (inr (inl refl))))))))))))
      (inr (inr (inr (inr (inr (inr (inr (inr (inr (inr (inr (inr (inr (inl refl))))))))))))))
      refl trees fits stored at_in session_book_cells columns front (group_key a s g)
      (refl, (refl, (refl, tt))) (λ x r m. back x r) (is_book_of s g) (λ x. true) front (rest s g)
      (λ r. true) (λ r. sym (and_true (front r))) (splits s g) (wanted s g) (λ r m h. refl)
      (λ x r e same. refl) xs answered ∙ only_all _)
      ∙ books_only _
