-- What the text of `read_books` answers.
use Rattle.std.specs.Prelude.{codes, option_map}
use Rattle.std.proofs.Common.{◌≡◌, inl, inr, ℕ, List, [], ◌∷◌, map, drop, Bool, true, false}
use Rattle.std.proofs.Common.{Some, None, Option, is_eq, nat_eq, refl, sym, ap, subst, ◌∙◌}
use Rattle.sqlite_value.specs.declared.keys.Collation.TheVariants.{Binary}
use Rattle.sqlite_value.specs.declared.keys.Key.{Key}
use Rattle.sqlite_value.specs.Order.{Row, column, value_cmp}
use Rattle.sqlite_sql.specs.Term.{Term, col}
use Rattle.sqlite_schema.specs.declared.command.Command.TheVariants.{Select}
use Rattle.sqlite_tied.specs.Compute.{everything}
use Rattle.sqlite.specs.Given.{IsPlain}
use Rattle.sqlite.specs.Listing.{understood, reads_listing}
use Rattle.sqlite.specs.State.{State}
use Rattle.sqlite.proofs.Callers.{command_of}
use Rattle.sql_tables.specs.Schema.{books, our_schema}
use Rattle.sql_tables.specs.Selects.{Selects}
use Rattle.sql_tables.specs.Statements.{Answers}
use Rattle.sql_tables.proofs.ByKey.{listed_told, only_all}
use Rattle.sql_tables.proofs.Keys.{keys_split, int_tie}
use Rattle.sql_tables.proofs.Selected.{select_from, told}
use Rattle.sql_tables.proofs.Selections.{meets}
use Rattle.sql_tables.proofs.Steps.{and_true}
use Rattle.sql_rows.specs.Values.{nat, nat_in, book_key, book_in_row}
use Rattle.sql_rows.specs.Content.{tables_content}
use Rattle.sql_rows.specs.Lists.{BookAt, book_at_cells, AreBooks}

-- a stored row as one of the list
abbrev pub at_in : Row → BookAt
at_in v = record { number = nat_in (column v 0); row = book_in_row v }

abbrev project : List Term
project = col 1 1 ∷ col 1 2 ∷ col 1 3 ∷ []

abbrev names : List (List ℕ)
names = codes "number" ∷ codes "starts" ∷ codes "content" ∷ []

abbrev pub columns : Row → Row
columns r = column r 1 ∷ column r 2 ∷ column r 3 ∷ []

same_columns : (r : Row) → at_in (drop 1 r) ≡ at_in (columns r)
same_columns [] = refl
same_columns (v ∷ vs) = refl

back : (x : BookAt) (r : Row) → book_at_cells x ≡ columns r → at_in (drop 1 r) ≡ x
back x r is = same_columns r ∙ ap at_in (sym is) ∙ refl

abbrev pub read_books_text : List ℕ
read_books_text = codes "SELECT number, starts, content FROM books ORDER BY number"

abbrev order : List (Term × Key)
order = (col 1 1, record { collation = Binary; descending = false }) ∷ []

text_is : (command_of (understood our_schema read_books_text)
    ≡ Select (record { lets = []; body = select_from 22 [] project order }) names) ×
    (reads_listing our_schema read_books_text ≡ false)
unfolding understood everything
text_is = (refl, refl)

pub read_books_plain : IsPlain (understood our_schema read_books_text)
unfolding understood everything
read_books_plain = (refl, refl)

rows_only : (o : Option Row) →
    option_map (λ (x : BookAt). x.row) (option_map at_in o) ≡ option_map book_in_row o
rows_only None = refl
rows_only (Some v) = refl

abbrev rest : ℕ → Row → Bool
rest n r = is_eq (value_cmp (nat n) (column r 1))

splits : (n : ℕ) (r : Row) → meets (1 ∷ []) (book_key n) r ≡ rest n r
splits n r = keys_split (nat n) (column r 1) [] [] ∙ and_true _

wanted : (n : ℕ) (x : BookAt) (r : Row) → book_at_cells x ≡ columns r →
    rest n r ≡ nat_eq x.number n
wanted n x r is =
    ap (λ (w : Row). is_eq (value_cmp (nat n) (column w 0))) (sym is) ∙ int_tie x.number n

pub books_selected : (old new : State) (rows : List Row) → Answers read_books_text [] old new rows
    → Selects (λ r. true) columns (old.now.trees 22) rows
books_selected old new rows got =
    told read_books_text names 22 [] project order text_is read_books_plain []
    (λ r. true) columns (λ r. refl) (λ r. refl) old new rows got

pub books_read : (old new : State) (rows : List Row) (xs : List BookAt)
    → Answers read_books_text [] old new rows
    → map book_at_cells xs ≡ rows → AreBooks (tables_content old.now.trees) xs
books_read old new rows xs got is n =
    ap (option_map (λ (x : BookAt). x.row))
    (listed_told books (inr (inr (inr (inr (inr (inr (inr (inr (inr (inr (inl refl)))))))))))
    (inr (inr (inr (inr (inr (inr (inr (inr (inr (inr (inr (inr (inl refl))))))))))))) refl
    old.now.trees got.fits (got.book.stored.1.1.1.1.1.1.1.1.1.1.0) at_in book_at_cells columns
    (λ r. true)
    (book_key n) (refl, tt) (λ x r m. back x r) (λ x. nat_eq x.number n) (λ x. true) (λ r. true)
    (rest n) (λ r. true) (λ r. refl) (splits n) (wanted n) (λ r m h. refl)
    (λ x r e same. refl) xs
    (subst (Selects (λ r. true) columns (old.now.trees 22)) (sym is)
    (books_selected old new rows got))
    ∙ only_all _)
    ∙ rows_only _
