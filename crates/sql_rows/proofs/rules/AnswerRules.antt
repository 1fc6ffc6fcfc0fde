-- Kept answers as they are read: where each is in its rules, no fault of the rules is reported.
use Rattle.std.proofs.Common.{◌≡◌, inl, inr, ℕ, List, [], ◌∷◌, map, drop, Option, refl, sym, ap}
use Rattle.std.proofs.Common.{ap₂, subst, ◌∙◌}
use Rattle.std.specs.Prelude.{IfSome}
use Rattle.sqlite_value.specs.Order.{Row}
use Rattle.sqlite_schema.specs.Rules.{Fits}
use Rattle.sqlite_trees.specs.Tree.{Trees}
use Rattle.sqlite_rules.specs.Lists.{Has}
use Rattle.sqlite.specs.State.{State}
use Rattle.sql_tables.specs.Schema.{answers, our_schema}
use Rattle.sql_tables.specs.Selects.{one_or_none}
use Rattle.sql_tables.specs.Statements.{Answers}
use Rattle.sql_rows.specs.Values.{Kept, answer_cells, answer_in_row, answer_key}
use Rattle.sql_rows.specs.Content.{rows_in}
use Rattle.sql_rows.specs.Ruled.{IsRuledKept}
use Rattle.sql_rows.proofs.rules.FittingRows.{AreValuesOf, fitting_values}
use Rattle.sql_rows.proofs.rules.KeyRules.{one_there}
use Rattle.sql_rows.proofs.selections.ReadAnswer.{answer_read, answer_selected, columns}
use Rattle.sql_rows.proofs.selections.ReadAnswer.{read_answer_text, same_columns}

pub answer_values : (trees : Trees) → Fits our_schema trees → (row : Row) → Has (trees 14) row
    → AreValuesOf answers.columns 0 row
answer_values = fitting_values answers
    (inr (inr (inr (inr (inr (inr (inr (inl refl)))))))) refl refl [] refl

pub kept_fits : (trees : Trees) → Fits our_schema trees → (r : Row) → Has (trees 14) r
    → columns r ≡ answer_cells (answer_in_row (drop 1 r))
kept_fits trees fits r has =
    let values = answer_values trees fits r has in
    ap₂ ◌∷◌ values.1.1.1.1.0 (ap (λ v. v ∷ []) values.1.1.1.1.1.0)
    ∙ ap answer_cells (sym (same_columns r))

module _ (a : List ℕ) (kind : ℕ) (name : List ℕ) (number : ℕ) where
  -- what was refused of the row that was read is refused of the tables
  pub answer_refused : (old new : State) (rows : List Row)
      → Answers read_answer_text (answer_key a kind name number) old new rows
      → ((o : Option Kept) → rows ≡ map answer_cells (one_or_none o) → ¬ IfSome o IsRuledKept)
      → ¬ IfSome ((rows_in old.now.trees a).answers kind name number) IsRuledKept
  answer_refused old new rows got refused ruled =
      let it = one_there answers (inr (inr (inr (inr (inr (inr (inr (inl refl))))))))
      (inr (inr (inr (inr (inr (inr (inr (inl refl)))))))) refl old.now.trees got.fits
      got.book.stored.1.1.1.1.1.1.1.0 (answer_key a kind name number)
      (refl, (refl, (refl, (refl, tt)))) answer_in_row answer_cells columns
      (λ r h is. kept_fits old.now.trees got.fits r h) rows
      (answer_selected a kind name number old new rows got) in
      refused it.0 it.1 (subst (λ o. IfSome o IsRuledKept)
      (sym (answer_read a kind name number old new rows it.0 got it.1)) ruled)
