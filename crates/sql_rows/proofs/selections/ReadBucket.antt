-- What the text of `read_bucket` answers.
use Rattle.std.specs.Prelude.{codes}
use Rattle.std.proofs.Common.{◌≡◌, inl, inr, ℕ, List, [], ◌∷◌, ◌++◌, map, false, Option, refl}
use Rattle.std.proofs.Common.{subst}
use Rattle.std.specs.List.{list_all}
use Rattle.std.specs.Ordering.{eq_by_cmp}
use Rattle.sqlite_value.specs.declared.keys.Collation.TheVariants.{Binary}
use Rattle.sqlite_value.specs.Keys.{first_key}
use Rattle.sqlite_value.specs.Order.{Row, row_cmp}
use Rattle.sqlite_sql.specs.declared.ops.BinaryOp.TheVariants.{Compare}
use Rattle.sqlite_sql.specs.declared.ops.CompareOp.TheVariants.{Eq}
use Rattle.sqlite_sql.specs.Term.{Term, col, op2, holds as holds_in}
use Rattle.sqlite_schema.specs.declared.command.Command.TheVariants.{Select}
use Rattle.sqlite_tied.specs.Compute.{everything}
use Rattle.sqlite.specs.Given.{IsPlain}
use Rattle.sqlite.specs.Listing.{understood, reads_listing}
use Rattle.sqlite.specs.State.{State}
use Rattle.sqlite.proofs.Callers.{command_of}
use Rattle.sql_tables.specs.Keyed.{key_of}
use Rattle.sql_tables.specs.Schema.{buckets, our_schema}
use Rattle.sql_tables.specs.Selects.{Selects, one_or_none}
use Rattle.sql_tables.specs.Statements.{Answers}
use Rattle.sql_tables.proofs.ByKey.{one_told}
use Rattle.sql_tables.proofs.Selected.{select_from, told}
use Rattle.sql_tables.proofs.Ties.{agree_ties_at}
use Rattle.buckets.specs.Row.{BucketRow}
use Rattle.sql_rows.specs.Values.{bucket_cells, bucket_in_row, bucket_key}
use Rattle.sql_rows.specs.Content.{rows_in}
use Rattle.sql_rows.proofs.selections.ReadBuckets.{project, names, columns, back}

abbrev pub read_bucket_text : List ℕ
read_bucket_text =
    codes "SELECT number, starts, ends, scope, credited, available, reserved, charged, expired "
    ++ codes "FROM buckets WHERE account = ?1 AND number = ?2"

abbrev terms : List Term
terms =
    op2 (Compare Eq Binary) (col 1 1) (col 0 0)
    ∷ op2 (Compare Eq Binary) (col 1 2) (col 0 1) ∷ []

abbrev places : List ℕ
places = 1 ∷ 2 ∷ []

text_is : (command_of (understood our_schema read_bucket_text)
    ≡ Select (record { lets = []; body = select_from 4 terms project [] }) names) ×
    (reads_listing our_schema read_bucket_text ≡ false)
unfolding understood everything
text_is = (refl, refl)

pub read_bucket_plain : IsPlain (understood our_schema read_bucket_text)
unfolding understood everything
read_bucket_plain = (refl, refl)

module _ (a : List ℕ) (n : ℕ) where
  means : (r : Row) → list_all (holds_in (bucket_key a n ∷ r ∷ [])) terms
      ≡ eq_by_cmp row_cmp (key_of places r) (bucket_key a n)
  unfolding first_key
  means r = agree_ties_at places r (0 ∷ 1 ∷ []) (bucket_key a n) (refl, (refl, tt))

  pub bucket_selected : (old new : State) (rows : List Row)
      → Answers read_bucket_text (bucket_key a n) old new rows
      → Selects (λ r. eq_by_cmp row_cmp (key_of places r) (bucket_key a n)) columns
      (old.now.trees 4) rows
  bucket_selected old new rows got =
      told read_bucket_text names 4 terms project [] text_is read_bucket_plain (bucket_key a n)
      (λ r. eq_by_cmp row_cmp (key_of places r) (bucket_key a n)) columns means (λ r. refl) old
      new rows got

  pub bucket_read : (old new : State) (rows : List Row) (o : Option BucketRow)
      → Answers read_bucket_text (bucket_key a n) old new rows
      → rows ≡ map bucket_cells (one_or_none o) → o ≡ (rows_in old.now.trees a).buckets n
  bucket_read old new rows o got is =
      one_told buckets (inr (inr (inl refl))) (inr (inr (inl refl))) refl old.now.trees got.fits
      (got.book.stored.1.1.0) bucket_in_row bucket_cells columns
      (λ r. eq_by_cmp row_cmp (key_of places r) (bucket_key a n)) (bucket_key a n)
      (refl, (refl, tt)) (λ x r m. back x r) (λ r. refl) o
      (subst (Selects (λ r. eq_by_cmp row_cmp (key_of places r) (bucket_key a n)) columns
      (old.now.trees 4)) is
      (bucket_selected old new rows got))
