-- Counters as they are read: where each is in its rules, no fault of the rules is reported.
use Rattle.std.proofs.Common.{◌≡◌, inl, inr, ℕ, List, [], ◌∷◌, map, drop, Option, refl, sym, ap}
use Rattle.std.proofs.Common.{ap₂, subst, ◌∙◌}
use Rattle.std.specs.Prelude.{IfSome}
use Rattle.sqlite_value.specs.Order.{Row}
use Rattle.sqlite_schema.specs.Rules.{Fits}
use Rattle.sqlite_trees.specs.Tree.{Trees}
use Rattle.sqlite_rules.specs.Lists.{Has}
use Rattle.sqlite.specs.State.{State}
use Rattle.sql_tables.specs.Schema.{counters, our_schema}
use Rattle.sql_tables.specs.Selects.{one_or_none}
use Rattle.sql_tables.specs.Statements.{Answers}
use Rattle.reserving.specs.declared.session.Counter.{Counter}
use Rattle.sql_rows.specs.Values.{counter_cells, counter_in_row, counter_key}
use Rattle.sql_rows.specs.Content.{rows_in}
use Rattle.sql_rows.specs.Ruled.{IsRuledCounter}
use Rattle.sql_rows.proofs.rules.FittingRows.{AreValuesOf, fitting_values}
use Rattle.sql_rows.proofs.rules.KeyRules.{one_there}
use Rattle.sql_rows.proofs.selections.ReadCounter.{columns, counter_read, counter_selected}
use Rattle.sql_rows.proofs.selections.ReadCounter.{read_counter_text, same_columns}

pub counter_values : (trees : Trees) → Fits our_schema trees → (row : Row) → Has (trees 6) row
    → AreValuesOf counters.columns 0 row
counter_values = fitting_values counters (inr (inr (inr (inl refl)))) refl refl [] refl

pub counter_fits : (trees : Trees) → Fits our_schema trees → (r : Row) → Has (trees 6) r
    → columns r ≡ counter_cells (counter_in_row (drop 1 r))
counter_fits trees fits r has =
    let values = counter_values trees fits r has in
    ap₂ ◌∷◌ values.1.0 (ap₂ ◌∷◌ values.1.1.0 (ap (λ v. v ∷ []) values.1.1.1.0))
    ∙ ap counter_cells (sym (same_columns r))

module _ (a : List ℕ) (g y : ℕ) where
  -- what was refused of the row that was read is refused of the tables
  pub counter_refused : (old new : State) (rows : List Row)
      → Answers read_counter_text (counter_key a g y) old new rows
      → ((o : Option Counter) → rows ≡ map counter_cells (one_or_none o)
      → ¬ IfSome o IsRuledCounter)
      → ¬ IfSome ((rows_in old.now.trees a).counters g y) IsRuledCounter
  counter_refused old new rows got refused ruled =
      let it = one_there counters (inr (inr (inr (inl refl)))) (inr (inr (inr (inl refl)))) refl
      old.now.trees got.fits got.book.stored.1.1.1.0 (counter_key a g y) (refl, (refl, (refl, tt)))
      counter_in_row counter_cells columns (λ r h is. counter_fits old.now.trees got.fits r h) rows
      (counter_selected a g y old new rows got) in
      refused it.0 it.1 (subst (λ o. IfSome o IsRuledCounter)
      (sym (counter_read a g y old new rows it.0 got it.1)) ruled)
