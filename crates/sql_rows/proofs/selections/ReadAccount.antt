-- What the text of `read_account` answers.
use Rattle.std.specs.Prelude.{codes}
use Rattle.std.proofs.Common.{◌≡◌, inl, inr, ℕ, List, [], ◌∷◌, ◌++◌, map, drop}
use Rattle.std.proofs.Common.{false, Option, refl, sym, ap, subst, ◌∙◌}
use Rattle.std.specs.List.{list_all}
use Rattle.std.specs.Ordering.{eq_by_cmp}
use Rattle.sqlite_value.specs.declared.value.Value.TheVariants.{Null}
use Rattle.sqlite_value.specs.declared.keys.Collation.TheVariants.{Binary}
use Rattle.sqlite_value.specs.Keys.{first_key}
use Rattle.sqlite_value.specs.Order.{Row, column, row_cmp}
use Rattle.sqlite_sql.specs.declared.ops.BinaryOp.TheVariants.{Compare}
use Rattle.sqlite_sql.specs.declared.ops.CompareOp.TheVariants.{Eq}
use Rattle.sqlite_sql.specs.Term.{Term, col, op2, holds as holds_in}
use Rattle.sqlite_schema.specs.declared.command.Command.TheVariants.{Select}
use Rattle.sqlite_tied.specs.Compute.{everything}
use Rattle.sqlite.specs.Given.{IsPlain}
use Rattle.sqlite.specs.Listing.{understood, reads_listing}
use Rattle.sqlite.specs.State.{State}
use Rattle.sqlite.proofs.Callers.{command_of}
use Rattle.sql_tables.specs.Keyed.{key_of}
use Rattle.sql_tables.specs.Schema.{accounts, our_schema}
use Rattle.sql_tables.specs.Selects.{Selects, one_or_none}
use Rattle.sql_tables.specs.Statements.{Answers}
use Rattle.sql_tables.proofs.ByKey.{one_told}
use Rattle.sql_tables.proofs.Selected.{select_from, told}
use Rattle.sql_tables.proofs.Ties.{agree_ties_at}
use Rattle.sql_rows.specs.declared.head.HeadColumns.{HeadColumns}
use Rattle.sql_rows.proofs.puts.PutAccount.{head_told}
use Rattle.sql_rows.specs.Values.{head_key, head_in, head_cells}
use Rattle.sql_rows.specs.Content.{rows_in}

abbrev pub read_account_text : List ℕ
read_account_text = codes "SELECT barred, as_of, next_bucket, next_charge FROM accounts "
    ++ codes "WHERE account = ?1"

abbrev terms : List Term
terms =
    op2 (Compare Eq Binary) (col 1 1) (col 0 0) ∷ []

abbrev project : List Term
project = col 1 2 ∷ col 1 3 ∷ col 1 4 ∷ col 1 5 ∷ []

abbrev names : List (List ℕ)
names = codes "barred" ∷ codes "as_of" ∷ codes "next_bucket" ∷ codes "next_charge" ∷ []

abbrev places : List ℕ
places = 1 ∷ []

text_is : (command_of (understood our_schema read_account_text)
    ≡ Select (record { lets = []; body = select_from 2 terms project [] }) names) ×
    (reads_listing our_schema read_account_text ≡ false)
unfolding understood everything
text_is = (refl, refl)

pub read_account_plain : IsPlain (understood our_schema read_account_text)
unfolding understood everything
read_account_plain = (refl, refl)

abbrev pub columns : Row → Row
columns r = column r 2 ∷ column r 3 ∷ column r 4 ∷ column r 5 ∷ []

pub same_columns : (r : Row) → head_in (drop 1 r) ≡ head_in (Null ∷ columns r)
same_columns [] = refl
same_columns (v ∷ vs) = refl

pub back : (x : HeadColumns) (r : Row) → head_cells x ≡ columns r → head_in (drop 1 r) ≡ x
back x r is = same_columns r ∙ ap (λ w. head_in (Null ∷ w)) (sym is) ∙ head_told Null x

module _ (a : List ℕ) where
  means : (r : Row) → list_all (holds_in (head_key a ∷ r ∷ [])) terms
      ≡ eq_by_cmp row_cmp (key_of places r) (head_key a)
  unfolding first_key
  means r = agree_ties_at places r (0 ∷ []) (head_key a) (refl, tt)

  pub account_selected : (old new : State) (rows : List Row)
      → Answers read_account_text (head_key a) old new rows
      → Selects (λ r. eq_by_cmp row_cmp (key_of places r) (head_key a)) columns
      (old.now.trees 2) rows
  account_selected old new rows got =
      told read_account_text names 2 terms project [] text_is read_account_plain (head_key a)
      (λ r. eq_by_cmp row_cmp (key_of places r) (head_key a)) columns
      means (λ r. refl) old new rows got

  pub account_read : (old new : State) (rows : List Row) (o : Option HeadColumns) →
      Answers read_account_text (head_key a) old new rows
      → rows ≡ map head_cells (one_or_none o) → o ≡ (rows_in old.now.trees a).head
  account_read old new rows o got is =
      one_told accounts (inr (inl refl)) (inr (inl refl)) refl old.now.trees got.fits
      (got.book.stored.1.0) head_in head_cells columns
      (λ r. eq_by_cmp row_cmp (key_of places r) (head_key a)) (head_key a) (refl, tt)
      (λ x r m. back x r) (λ r. refl) o
      (subst (Selects (λ r. eq_by_cmp row_cmp (key_of places r) (head_key a)) columns
      (old.now.trees 2)) is (account_selected old new rows got))
