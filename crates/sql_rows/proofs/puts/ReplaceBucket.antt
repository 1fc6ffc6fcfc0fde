-- What the text of `replace_bucket` does.
use Rattle.std.specs.Prelude.{codes, IfOk}
use Rattle.std.proofs.Common.{◌≡◌, inl, inr, ℕ, List, [], ◌∷◌, ◌++◌, ◌==◌, Ok, Result, OnOk, IsTrue}
use Rattle.std.proofs.Common.{refl, arith}
use Rattle.std.specs.List.{list_all}
use Rattle.std.specs.Ordering.{eq_by_cmp}
use Rattle.sqlite_value.specs.declared.keys.Collation.TheVariants.{Binary}
use Rattle.sqlite_value.specs.Keys.{first_key}
use Rattle.sqlite_value.specs.Order.{Row, row_cmp}
use Rattle.sqlite_sql.specs.declared.ops.BinaryOp.TheVariants.{Compare}
use Rattle.sqlite_sql.specs.declared.ops.CompareOp.TheVariants.{Eq}
use Rattle.sqlite_sql.specs.Term.{Term, col, op2, holds as holds_in}
use Rattle.sqlite_schema.specs.declared.command.Command.TheVariants.{Update}
use Rattle.sqlite_tied.specs.Compute.{everything}
use Rattle.sqlite.specs.declared.error.Error.{Error}
use Rattle.sqlite.specs.Listing.{understood}
use Rattle.sqlite.specs.State.{State, ExecutesInside}
use Rattle.sqlite.proofs.Callers.{IsPlain, command_of}
use Rattle.sql_tables.specs.Keyed.{key_of}
use Rattle.sql_tables.specs.Schema.{buckets, our_schema}
use Rattle.sql_tables.specs.Statements.{Attempts, HasTables, IsTabled}
use Rattle.sql_tables.proofs.Found.{is_some_map}
use Rattle.sql_tables.proofs.Selected.{select_from}
use Rattle.sql_tables.proofs.Ties.{agree_ties_at}
use Rattle.buckets.specs.declared.kind.BucketKind.TheVariants.{Money}
use Rattle.buckets.specs.Row.{BucketRow}
use Rattle.sql_rows.specs.Values.{bucket_in_row, bucket_key, bucket_values}
use Rattle.sql_rows.specs.Content.{has_bucket, with_bucket, with_rows}
use Rattle.sql_rows.specs.Makes.{ReplacesIfSome}
use Rattle.sql_rows.proofs.writes.Plains.{plain_beside}
use Rattle.sql_rows.proofs.puts.PutBucket.{keyed, turns}
use Rattle.sql_rows.proofs.writes.Replaces.{ReplacesRow, replaces_row, replaces}

abbrev pub replace_bucket_text : List ℕ
replace_bucket_text =
    codes "UPDATE buckets SET account = ?1, number = ?2, starts = ?3, ends = ?4, scope = ?5, "
    ++ codes "credited = ?6, available = ?7, reserved = ?8, charged = ?9, expired = ?10 "
    ++ codes "WHERE account = ?1 AND number = ?2"

abbrev terms : List Term
terms =
    op2 (Compare Eq Binary) (col 1 1) (col 0 0)
    ∷ op2 (Compare Eq Binary) (col 1 2) (col 0 1) ∷ []

abbrev project : List Term
project =
    col 1 0 ∷ col 1 0 ∷ col 0 0 ∷ col 0 1 ∷ col 0 2 ∷ col 0 3 ∷ col 0 4 ∷ col 0 5 ∷ col 0 6 ∷
    col 0 7 ∷ col 0 8 ∷ col 0 9 ∷ []

abbrev places : List ℕ
places = 1 ∷ 2 ∷ []

set_is : command_of (understood our_schema replace_bucket_text)
    ≡ Update 2 (record { lets = []; body = select_from 4 terms project [] })
unfolding understood everything
set_is = refl

set_plain : IsPlain (understood our_schema replace_bucket_text)
unfolding understood everything
set_plain = (refl, refl)

module _ (a : List ℕ) (b : BucketRow) (counts : b.kind ≡ Money) where
  means : (r : Row) → list_all (holds_in (bucket_values a b ∷ r ∷ [])) terms
      ≡ eq_by_cmp row_cmp (key_of places r) (bucket_key a b.number)
  unfolding first_key
  means r = agree_ties_at places r (0 ∷ 1 ∷ []) (bucket_values a b) (refl, (refl, tt))

  runs : (old new : State) (r : Result ℕ Error) → (IsTrue old.is_open → IsTabled old)
      → OnOk r (ExecutesInside 0 replace_bucket_text (bucket_values a b) old new r)
      → IfOk r (ReplacesRow buckets (bucket_values a b) old new)
  runs = replaces_row buckets (inr (inr (inl refl))) (inr (inr (inl refl))) refl terms project
      (bucket_values a b) means (λ r. refl) (keyed a b counts) 2 refl (λ e. omega arith)
      replace_bucket_text set_is set_plain

  pub replaces_bucket : (old new : State) (count : ℕ) → HasTables old
      → Attempts {A = ℕ} {E = Error}
      (λ old new. ExecutesInside 0 replace_bucket_text (bucket_values a b) old new (Ok count))
      old new (Ok count)
      → ReplacesIfSome {E = Error} (has_bucket a b.number)
      (with_rows a (with_bucket b)) old new (Ok (count == 1))
  replaces_bucket = replaces buckets (bucket_values a b) (has_bucket a b.number)
      (with_rows a (with_bucket b)) (λ trees. is_some_map bucket_in_row _)
      (λ old new c more. turns a b counts old new c)
      (plain_beside buckets (bucket_values a b) (omega arith) (omega arith) (omega arith))
      replace_bucket_text runs
