-- What the text of `read_answer` answers.
use Rattle.std.specs.Prelude.{codes}
use Rattle.std.proofs.Common.{◌≡◌, inl, inr, ℕ, List, [], ◌∷◌, ◌++◌, map, drop}
use Rattle.std.proofs.Common.{false, Option, refl, sym, ap, subst, ◌∙◌}
use Rattle.std.specs.List.{list_all}
use Rattle.std.specs.Ordering.{eq_by_cmp}
use Rattle.sqlite_value.specs.declared.value.Value.TheVariants.{Null}
use Rattle.sqlite_value.specs.declared.keys.Collation.TheVariants.{Binary}
use Rattle.sqlite_value.specs.Keys.{first_key}
use Rattle.sqlite_value.specs.Order.{Row, column, row_cmp}
use Rattle.sqlite_sql.specs.declared.ops.BinaryOp.TheVariants.{Compare}
use Rattle.sqlite_sql.specs.declared.ops.CompareOp.TheVariants.{Eq}
use Rattle.sqlite_sql.specs.Term.{Term, col, op2, holds as holds_in}
use Rattle.sqlite_schema.specs.declared.command.Command.TheVariants.{Select}
use Rattle.sqlite_tied.specs.Compute.{everything}
use Rattle.sqlite.specs.Given.{IsPlain}
use Rattle.sqlite.specs.Listing.{understood, reads_listing}
use Rattle.sqlite.specs.State.{State}
use Rattle.sqlite.proofs.Callers.{command_of}
use Rattle.sql_tables.specs.Keyed.{key_of}
use Rattle.sql_tables.specs.Schema.{answers, our_schema}
use Rattle.sql_tables.specs.Selects.{Selects, one_or_none}
use Rattle.sql_tables.specs.Statements.{Answers}
use Rattle.sql_tables.proofs.ByKey.{one_told}
use Rattle.sql_tables.proofs.Selected.{select_from, told}
use Rattle.sql_tables.proofs.Ties.{agree_ties_at}
use Rattle.sql_rows.specs.Values.{Kept, answer_key, answer_in_row, answer_cells}
use Rattle.sql_rows.specs.Content.{rows_in}

abbrev pub read_answer_text : List ℕ
read_answer_text = codes "SELECT content, answer FROM answers "
    ++ codes "WHERE account = ?1 AND kind = ?2 AND name = ?3 AND number = ?4"

abbrev terms : List Term
terms =
    op2 (Compare Eq Binary) (col 1 1) (col 0 0)
    ∷ op2 (Compare Eq Binary) (col 1 2) (col 0 1)
    ∷ op2 (Compare Eq Binary) (col 1 3) (col 0 2)
    ∷ op2 (Compare Eq Binary) (col 1 4) (col 0 3) ∷ []

abbrev project : List Term
project = col 1 5 ∷ col 1 6 ∷ []

abbrev names : List (List ℕ)
names = codes "content" ∷ codes "answer" ∷ []

abbrev places : List ℕ
places = 1 ∷ 2 ∷ 3 ∷ 4 ∷ []

text_is : (command_of (understood our_schema read_answer_text)
    ≡ Select (record { lets = []; body = select_from 14 terms project [] }) names) ×
    (reads_listing our_schema read_answer_text ≡ false)
unfolding understood everything
text_is = (refl, refl)

pub read_answer_plain : IsPlain (understood our_schema read_answer_text)
unfolding understood everything
read_answer_plain = (refl, refl)

abbrev pub columns : Row → Row
columns r = column r 5 ∷ column r 6 ∷ []

pub same_columns : (r : Row) → answer_in_row (drop 1 r) ≡ answer_in_row
    (Null ∷ Null ∷ Null ∷ Null ∷ columns r)
same_columns [] = refl
same_columns (v ∷ vs) = refl

back : (x : Kept) (r : Row) → answer_cells x ≡ columns r → answer_in_row (drop 1 r) ≡ x
back x r is = same_columns r ∙ ap (λ w. answer_in_row (Null ∷ Null ∷ Null ∷ Null ∷ w)) (sym is) ∙
    refl

module _ (a : List ℕ) (kind : ℕ) (name : List ℕ) (number : ℕ) where
  means : (r : Row) →
      list_all (holds_in (answer_key a kind name number ∷ r ∷ [])) terms ≡ eq_by_cmp row_cmp
      (key_of places r) (answer_key a kind name number)
  unfolding first_key
  means r = agree_ties_at places r (0 ∷ 1 ∷ 2 ∷ 3 ∷ []) (answer_key a kind name number)
      (refl, (refl, (refl, (refl, tt))))

  pub answer_selected : (old new : State) (rows : List Row)
      → Answers read_answer_text (answer_key a kind name number) old new rows
      → Selects (λ r. eq_by_cmp row_cmp (key_of places r) (answer_key a kind name number)) columns
      (old.now.trees 14) rows
  answer_selected old new rows got =
      told read_answer_text names 14 terms project [] text_is read_answer_plain
      (answer_key a kind name number)
      (λ r. eq_by_cmp row_cmp (key_of places r) (answer_key a kind name number)) columns means
      (λ r. refl) old new rows got

  -- rule: answer-rows
  pub answer_read : (old new : State) (rows : List Row) (o : Option Kept) → Answers read_answer_text
      (answer_key a kind name number) old new rows
      → rows ≡ map answer_cells (one_or_none o)
      → o ≡ (rows_in old.now.trees a).answers kind name number
  answer_read old new rows o got is =
      one_told answers (inr (inr (inr (inr (inr (inr (inr (inl refl))))))))
      (inr (inr (inr (inr (inr (inr (inr (inl refl)))))))) refl old.now.trees got.fits
      (got.book.stored.1.1.1.1.1.1.1.0) answer_in_row answer_cells columns
      (λ r. eq_by_cmp row_cmp (key_of places r) (answer_key a kind name number))
      (answer_key a kind name number) (refl, (refl, (refl, (refl, tt))))
      (λ x r m. back x r) (λ r. refl) o
      (subst (Selects (λ r.
      eq_by_cmp row_cmp (key_of places r) (answer_key a kind name number)) columns
      (old.now.trees 14)) is
      (answer_selected old new rows got))
