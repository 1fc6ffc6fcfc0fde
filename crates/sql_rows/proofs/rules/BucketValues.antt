-- Buckets as they are read: where each is in its rules, no fault of the rules is reported.
use Rattle.std.proofs.Common.{◌≡◌, inl, inr, ℕ, List, [], ◌∷◌, map, drop, Option, Some, None, refl}
use Rattle.std.proofs.Common.{sym, ap, ap₂, ◌∙◌, option_map}
use Rattle.std.specs.Prelude.{IfSome}
use Rattle.sqlite_value.specs.Order.{Row}
use Rattle.sqlite_sql.specs.Term.{col}
use Rattle.sqlite_schema.specs.Rules.{Fits}
use Rattle.sqlite_trees.specs.Tree.{Trees}
use Rattle.sqlite_rules.specs.Lists.{Has}
use Rattle.sqlite.specs.State.{State}
use Rattle.sql_tables.specs.Keyed.{look}
use Rattle.sql_tables.specs.Schema.{buckets, is_same, our_schema, plus}
use Rattle.sql_tables.specs.Selects.{one_or_none}
use Rattle.sql_tables.specs.Statements.{Answers}
use Rattle.buckets.specs.Row.{BucketRow}
use Rattle.sql_rows.specs.Values.{bucket_cells, bucket_in_row, bucket_key, money_cells}
use Rattle.sql_rows.specs.Content.{rows_in}
use Rattle.sql_rows.specs.Ruled.{IsRuledBucket}
use Rattle.sql_rows.proofs.rules.FittingRows.{AreValuesOf, fitting_values}
use Rattle.sql_rows.proofs.rules.KeyRules.{one_there}
use Rattle.sql_rows.proofs.selections.ReadBucket.{bucket_read, bucket_selected, read_bucket_text}
use Rattle.sql_rows.proofs.selections.ReadBuckets.{columns, same_columns}

pub bucket_values : (trees : Trees) → Fits our_schema trees → (row : Row) → Has (trees 4) row
    → AreValuesOf buckets.columns 0 row
bucket_values = fitting_values buckets (inr (inr (inl refl))) refl refl
    (is_same (col 1 6) (plus (plus (plus (col 1 7) (col 1 8)) (col 1 9)) (col 1 10)) ∷ []) refl

pub bucket_fits : (trees : Trees) → Fits our_schema trees → (r : Row) → Has (trees 4) r
    → columns r ≡ money_cells (bucket_in_row (drop 1 r))
bucket_fits trees fits r has =
    let values = bucket_values trees fits r has in
    let from_five = values.1.1.1.1 in
    let from_eight = from_five.1.1.1 in
    ap₂ ◌∷◌ values.1.0 (ap₂ ◌∷◌ values.1.1.0 (ap₂ ◌∷◌ values.1.1.1.0 (ap₂ ◌∷◌ from_five.0
    (ap₂ ◌∷◌ from_five.1.0 (ap₂ ◌∷◌ from_five.1.1.0 (ap₂ ◌∷◌ from_eight.0
    (ap₂ ◌∷◌ from_eight.1.0 (ap (λ v. v ∷ []) from_eight.1.1.0))))))))
    ∙ ap money_cells (sym (same_columns r))

-- a stored bucket counts money
of_money : (o : Option Row) → map bucket_cells (one_or_none (option_map bucket_in_row o))
    ≡ map money_cells (one_or_none (option_map bucket_in_row o))
of_money None = refl
of_money (Some v) = refl

module _ (a : List ℕ) (n : ℕ) where
  -- what was refused of the row that was read is refused of the tables
  pub bucket_refused : (old new : State) (rows : List Row)
      → Answers read_bucket_text (bucket_key a n) old new rows
      → ((o : Option BucketRow) → rows ≡ map money_cells (one_or_none o) → ¬ IfSome o IsRuledBucket)
      → ¬ IfSome ((rows_in old.now.trees a).buckets n) IsRuledBucket
  bucket_refused old new rows got refused =
      let it = one_there buckets (inr (inr (inl refl))) (inr (inr (inl refl))) refl old.now.trees
      got.fits got.book.stored.1.1.0 (bucket_key a n) (refl, (refl, tt)) bucket_in_row bucket_cells
      columns (λ r h is. bucket_fits old.now.trees got.fits r h) rows
      (bucket_selected a n old new rows got) in
      let same = bucket_read a n old new rows it.0 got it.1 in
      refused ((rows_in old.now.trees a).buckets n)
      (it.1 ∙ ap (λ o. map bucket_cells (one_or_none o)) same
      ∙ of_money (look buckets old.now.trees (bucket_key a n)))
