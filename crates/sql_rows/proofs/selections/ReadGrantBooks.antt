-- What the text of `read_grant_books` answers.
use Rattle.std.specs.Prelude.{codes, option_map}
use Rattle.std.proofs.Common.{◌≡◌, inl, inr, ℕ, List, [], ◌∷◌, ◌++◌, map, drop, true, false}
use Rattle.std.proofs.Common.{◌&&◌, Some, None, Option, is_eq, nat_eq, refl, sym, ap, subst}
use Rattle.std.proofs.Common.{◌∙◌}
use Rattle.sqlite_value.specs.declared.value.Value.TheVariants.{Null, Text}
use Rattle.sqlite_value.specs.declared.keys.Collation.TheVariants.{Binary}
use Rattle.sqlite_value.specs.Order.{Row, column, value_cmp}
use Rattle.sqlite_sql.specs.Term.{Term, col}
use Rattle.sqlite_schema.specs.declared.command.Command.TheVariants.{Select}
use Rattle.sqlite_schema.specs.Rules.{equal}
use Rattle.sqlite_tied.specs.Compute.{everything}
use Rattle.sqlite.specs.Given.{IsPlain}
use Rattle.sqlite.specs.Listing.{understood, reads_listing}
use Rattle.sqlite.specs.State.{State}
use Rattle.sqlite.proofs.Callers.{command_of}
use Rattle.sql_tables.specs.Schema.{grant_books, our_schema}
use Rattle.sql_tables.specs.Selects.{Selects}
use Rattle.sql_tables.specs.Statements.{Answers}
use Rattle.sql_tables.proofs.ByKey.{listed_told, only_all}
use Rattle.sql_tables.proofs.Keys.{int_tie}
use Rattle.sql_tables.proofs.Selected.{select_from, told}
use Rattle.sql_tables.proofs.Steps.{and_apart}
use Rattle.sql_rows.specs.Values.{nat, nat_in, group_key, grant_book_in}
use Rattle.sql_rows.specs.Content.{rows_in}
use Rattle.sql_rows.specs.declared.grant_book_rows.GrantBook.{GrantBook}
use Rattle.sql_rows.specs.Lists.{grant_book_cells, AreGrantBooks}
use Rattle.sql_rows.proofs.queries.OfSession.{of_session, by_group, is_of_session, is_of_group}
use Rattle.sql_rows.proofs.queries.OfSession.{splits}

-- a stored row as one of the list
abbrev pub at_in : Row → GrantBook
at_in v = record { group = nat_in (column v 2); book = grant_book_in v }

abbrev pub project : List Term
project = col 1 3 ∷ col 1 4 ∷ []

abbrev pub names : List (List ℕ)
names = codes "rating_group" ∷ codes "book" ∷ []

abbrev pub columns : Row → Row
columns r = column r 3 ∷ column r 4 ∷ []

pub same_columns : (r : Row) → at_in (drop 1 r) ≡ at_in (Null ∷ Null ∷ columns r)
same_columns [] = refl
same_columns (v ∷ vs) = refl

back : (x : GrantBook) (r : Row) → grant_book_cells x ≡ columns r → at_in (drop 1 r) ≡ x
back x r is = same_columns r ∙ ap (λ w. at_in (Null ∷ Null ∷ w)) (sym is) ∙ refl

abbrev pub read_grant_books_text : List ℕ
read_grant_books_text =
    codes "SELECT rating_group, book FROM grant_books WHERE account = ?1 AND session = ?2 "
    ++ codes "ORDER BY rating_group"

pub text_is : (command_of (understood our_schema read_grant_books_text)
    ≡ Select (record { lets = []; body = select_from 24 of_session project by_group }) names) ×
    (reads_listing our_schema read_grant_books_text ≡ false)
unfolding understood everything
text_is = (refl, refl)

pub read_grant_books_plain : IsPlain (understood our_schema read_grant_books_text)
unfolding understood everything
read_grant_books_plain = (refl, refl)

books_only : (o : Option Row) →
    option_map (λ (x : GrantBook). x.book) (option_map at_in o) ≡ option_map grant_book_in o
books_only None = refl
books_only (Some v) = refl

module _ (a s : List ℕ) where
  wanted : (g : ℕ) (x : GrantBook) (r : Row) → grant_book_cells x ≡ columns r →
      is_of_group g r ≡ nat_eq x.group g
  wanted g x r is =
      ap (λ (w : Row). is_eq (value_cmp (nat g) (column w 0))) (sym is) ∙ int_tie x.group g

  pub grant_books_selected : (old new : State) (rows : List Row)
      → Answers read_grant_books_text (Text a ∷ Text s ∷ []) old new rows
      → Selects (λ r. is_of_session a s r && true) columns (old.now.trees 24) rows
  grant_books_selected old new rows got =
      told read_grant_books_text names 24 of_session project by_group text_is
      read_grant_books_plain (Text a ∷ Text s ∷ [])
      (λ r. is_of_session a s r && true) columns
      (λ r. and_apart (equal Binary (column r 1) (Text a)) (equal Binary (column r 2) (Text s))
      true) (λ r. refl) old new rows got

  -- rule: book-rows
  pub grant_books_read : (old new : State) (rows : List Row) (xs : List GrantBook)
      → Answers read_grant_books_text (Text a ∷ Text s ∷ []) old new rows
      → map grant_book_cells xs ≡ rows → AreGrantBooks (rows_in old.now.trees a) s xs
  grant_books_read old new rows xs got is g =
      ap (option_map (λ (x : GrantBook). x.book))
      (listed_told grant_books
      (inr (inr (inr (inr (inr (inr (inr (inr (inr (inr (inr (inl refl))))))))))))
      (inr (inr (inr (inr (inr (inr (inr (inr (inr (inr (inr (inr (inr (inl refl))))))))))))))
      refl old.now.trees got.fits (got.book.stored.1.1.1.1.1.1.1.1.1.1.1.0) at_in grant_book_cells
      columns (λ r. is_of_session a s r && true) (group_key a s g) (refl, (refl, (refl, tt)))
      (λ x r m. back x r) (λ x. nat_eq x.group g) (λ x. true) (is_of_session a s) (is_of_group g)
      (λ r. true) (λ r. refl) (splits a s g) (wanted g) (λ r m h. refl) (λ x r e same. refl) xs
      (subst (Selects (λ r. is_of_session a s r && true) columns (old.now.trees 24)) (sym is)
      (grant_books_selected old new rows got))
      ∙ only_all _)
      ∙ books_only _
