-- What is kept of an account once, as it is read: where it is in its rules, no fault of the rules is
-- reported.
use Rattle.std.proofs.Common.{◌≡◌, inl, inr, ℕ, List, [], ◌∷◌, map, drop, true, Option, refl, sym}
use Rattle.std.proofs.Common.{ap, ap₂, subst, ◌∙◌, nat_le}
use Rattle.std.specs.Prelude.{IfSome}
use Rattle.sqlite_value.specs.Order.{Row, column}
use Rattle.sqlite_schema.specs.Rules.{Fits}
use Rattle.sqlite_trees.specs.Tree.{Trees}
use Rattle.sqlite_rules.specs.Lists.{Has}
use Rattle.sqlite.specs.State.{State}
use Rattle.sql_tables.specs.Schema.{accounts, our_schema}
use Rattle.sql_tables.specs.Selects.{one_or_none}
use Rattle.sql_tables.specs.Statements.{Answers}
use Rattle.sql_rows.specs.declared.head.HeadColumns.{HeadColumns}
use Rattle.sql_rows.specs.Values.{head_cells, head_in, head_key, nat_in}
use Rattle.sql_rows.specs.Content.{rows_in}
use Rattle.sql_rows.specs.Plain.{ArePlain, is_plain_head}
use Rattle.sql_rows.specs.Ruled.{IsRuledHead}
use Rattle.sql_rows.proofs.rules.FittingRows.{AreValuesOf, behind, fitting_values}
use Rattle.sql_rows.proofs.rules.KeyRules.{one_there}
use Rattle.sql_rows.proofs.rules.PlainValues.{flag_of}
use Rattle.sql_rows.proofs.selections.ReadAccount.{account_read, account_selected, columns}
use Rattle.sql_rows.proofs.selections.ReadAccount.{read_account_text, same_columns}

pub account_values : (trees : Trees) → Fits our_schema trees → (row : Row) → Has (trees 2) row
    → AreValuesOf accounts.columns 0 row
account_values = fitting_values accounts (inr (inl refl)) refl refl [] refl

pub head_fits : (trees : Trees) → Fits our_schema trees → (r : Row) → Has (trees 2) r
    → is_plain_head (drop 1 r) ≡ true → columns r ≡ head_cells (head_in (drop 1 r))
head_fits trees fits r has plain =
    let values = account_values trees fits r has in
    let flag : nat_le (nat_in (column r 2)) 1 ≡ true =
    ap (λ v. nat_le (nat_in v) 1) (behind r 1) ∙ plain in
    ap₂ ◌∷◌ (flag_of (column r 2) values.1.0 flag)
    (ap₂ ◌∷◌ values.1.1.0 (ap₂ ◌∷◌ values.1.1.1.0 (ap (λ v. v ∷ []) values.1.1.1.1.0)))
    ∙ ap head_cells (sym (same_columns r))

module _ (a : List ℕ) where
  -- what was refused of the row that was read is refused of the tables
  pub account_refused : (old new : State) (rows : List Row)
      → Answers read_account_text (head_key a) old new rows
      → ((o : Option HeadColumns) → rows ≡ map head_cells (one_or_none o) → ¬ IfSome o IsRuledHead)
      → ArePlain old.now.trees → ¬ IfSome (rows_in old.now.trees a).head IsRuledHead
  account_refused old new rows got refused plain ruled =
      let it = one_there accounts (inr (inl refl)) (inr (inl refl)) refl old.now.trees got.fits
      got.book.stored.1.0 (head_key a) (refl, tt) head_in head_cells columns
      (λ r h is. head_fits old.now.trees got.fits r h (plain.heads (head_key a) (drop 1 r) is))
      rows (account_selected a old new rows got) in
      refused it.0 it.1
      (subst (λ o. IfSome o IsRuledHead) (sym (account_read a old new rows it.0 got it.1)) ruled)
