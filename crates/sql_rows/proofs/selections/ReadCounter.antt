-- What the text of `read_counter` answers.
use Rattle.std.specs.Prelude.{codes}
use Rattle.std.proofs.Common.{◌≡◌, inl, inr, ℕ, List, [], ◌∷◌, ◌++◌, map, drop}
use Rattle.std.proofs.Common.{false, Option, refl, sym, ap, subst, ◌∙◌}
use Rattle.std.specs.List.{list_all}
use Rattle.std.specs.Ordering.{eq_by_cmp}
use Rattle.sqlite_value.specs.declared.value.Value.TheVariants.{Null}
use Rattle.sqlite_value.specs.declared.keys.Collation.TheVariants.{Binary}
use Rattle.sqlite_value.specs.Keys.{first_key}
use Rattle.sqlite_value.specs.Order.{Row, column, row_cmp}
use Rattle.sqlite_sql.specs.declared.ops.BinaryOp.TheVariants.{Compare}
use Rattle.sqlite_sql.specs.declared.ops.CompareOp.TheVariants.{Eq}
use Rattle.sqlite_sql.specs.Term.{Term, col, op2, holds as holds_in}
use Rattle.sqlite_schema.specs.declared.command.Command.TheVariants.{Select}
use Rattle.sqlite_tied.specs.Compute.{everything}
use Rattle.sqlite.specs.Given.{IsPlain}
use Rattle.sqlite.specs.Listing.{understood, reads_listing}
use Rattle.sqlite.specs.State.{State}
use Rattle.sqlite.proofs.Callers.{command_of}
use Rattle.sql_tables.specs.Keyed.{key_of}
use Rattle.sql_tables.specs.Schema.{counters, our_schema}
use Rattle.sql_tables.specs.Selects.{Selects, one_or_none}
use Rattle.sql_tables.specs.Statements.{Answers}
use Rattle.sql_tables.proofs.ByKey.{one_told}
use Rattle.sql_tables.proofs.Selected.{select_from, told}
use Rattle.sql_tables.proofs.Ties.{agree_ties_at}
use Rattle.reserving.specs.declared.session.Counter.{Counter}
use Rattle.sql_rows.specs.Values.{counter_key, counter_in_row, counter_cells}
use Rattle.sql_rows.specs.Content.{rows_in}

abbrev pub read_counter_text : List ℕ
read_counter_text = codes "SELECT rating_group, cycle, blocks FROM counters "
    ++ codes "WHERE account = ?1 AND rating_group = ?2 AND cycle = ?3"

abbrev terms : List Term
terms =
    op2 (Compare Eq Binary) (col 1 1) (col 0 0)
    ∷ op2 (Compare Eq Binary) (col 1 2) (col 0 1)
    ∷ op2 (Compare Eq Binary) (col 1 3) (col 0 2) ∷ []

abbrev project : List Term
project = col 1 2 ∷ col 1 3 ∷ col 1 4 ∷ []

abbrev names : List (List ℕ)
names = codes "rating_group" ∷ codes "cycle" ∷ codes "blocks" ∷ []

abbrev places : List ℕ
places = 1 ∷ 2 ∷ 3 ∷ []

text_is : (command_of (understood our_schema read_counter_text)
    ≡ Select (record { lets = []; body = select_from 6 terms project [] }) names) ×
    (reads_listing our_schema read_counter_text ≡ false)
unfolding understood everything
text_is = (refl, refl)

pub read_counter_plain : IsPlain (understood our_schema read_counter_text)
unfolding understood everything
read_counter_plain = (refl, refl)

abbrev pub columns : Row → Row
columns r = column r 2 ∷ column r 3 ∷ column r 4 ∷ []

pub same_columns : (r : Row) → counter_in_row (drop 1 r) ≡ counter_in_row (Null ∷ columns r)
same_columns [] = refl
same_columns (v ∷ vs) = refl

pub back : (x : Counter) (r : Row) → counter_cells x ≡ columns r → counter_in_row (drop 1 r) ≡ x
back x r is = same_columns r ∙ ap (λ w. counter_in_row (Null ∷ w)) (sym is) ∙ refl

module _ (a : List ℕ) (g y : ℕ) where
  means : (r : Row) →
      list_all (holds_in (counter_key a g y ∷ r ∷ [])) terms ≡ eq_by_cmp row_cmp (key_of places r)
      (counter_key a g y)
  unfolding first_key
  means r = agree_ties_at places r (0 ∷ 1 ∷ 2 ∷ []) (counter_key a g y) (refl, (refl, (refl, tt)))

  pub counter_selected : (old new : State) (rows : List Row)
      → Answers read_counter_text (counter_key a g y) old new rows
      → Selects (λ r. eq_by_cmp row_cmp (key_of places r) (counter_key a g y)) columns
      (old.now.trees 6) rows
  counter_selected old new rows got =
      told read_counter_text names 6 terms project [] text_is read_counter_plain
      (counter_key a g y) (λ r. eq_by_cmp row_cmp (key_of places r) (counter_key a g y)) columns
      means (λ r. refl) old new rows got

  pub counter_read : (old new : State) (rows : List Row) (o : Option Counter) →
      Answers read_counter_text (counter_key a g y) old new rows
      → rows ≡ map counter_cells (one_or_none o) → o ≡ (rows_in old.now.trees a).counters g y
  counter_read old new rows o got is =
      one_told counters (inr (inr (inr (inl refl))))
      (inr (inr (inr (inl refl)))) refl old.now.trees got.fits
      (got.book.stored.1.1.1.0) counter_in_row counter_cells columns
      (λ r. eq_by_cmp row_cmp (key_of places r) (counter_key a g y)) (counter_key a g y)
      (refl, (refl, (refl, tt)))
      (λ x r m. back x r) (λ r. refl) o
      (subst (Selects (λ r. eq_by_cmp row_cmp (key_of places r) (counter_key a g y)) columns
      (old.now.trees 6)) is (counter_selected old new rows got))
