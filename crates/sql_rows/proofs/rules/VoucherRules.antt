-- Vouchers as they are read: where each is in its rules, no fault of the rules is reported.
use Rattle.std.proofs.Common.{◌≡◌, inl, inr, ℕ, List, [], ◌∷◌, map, drop, Option, refl, sym, ap}
use Rattle.std.proofs.Common.{ap₂, subst, ◌∙◌}
use Rattle.std.specs.Prelude.{IfSome}
use Rattle.sqlite_value.specs.Order.{Row}
use Rattle.sqlite_schema.specs.Rules.{Fits}
use Rattle.sqlite_trees.specs.Tree.{Trees}
use Rattle.sqlite_rules.specs.Lists.{Has}
use Rattle.sqlite.specs.State.{State}
use Rattle.sql_tables.specs.Schema.{our_schema, vouchers}
use Rattle.sql_tables.specs.Selects.{one_or_none}
use Rattle.sql_tables.specs.Statements.{Answers}
use Rattle.sql_rows.specs.declared.voucher_rows.VoucherColumns.{VoucherColumns}
use Rattle.sql_rows.specs.Values.{voucher_cells, voucher_in_row, voucher_key}
use Rattle.sql_rows.specs.Content.{tables_content}
use Rattle.sql_rows.specs.Ruled.{IsRuledVoucher}
use Rattle.sql_rows.proofs.rules.FittingRows.{AreValuesOf, fitting_values}
use Rattle.sql_rows.proofs.rules.KeyRules.{one_there}
use Rattle.sql_rows.proofs.selections.ReadVoucher.{columns, read_voucher_text, same_columns}
use Rattle.sql_rows.proofs.selections.ReadVoucher.{voucher_read, voucher_selected}

pub voucher_values : (trees : Trees) → Fits our_schema trees → (row : Row) → Has (trees 16) row
    → AreValuesOf vouchers.columns 0 row
voucher_values = fitting_values vouchers
    (inr (inr (inr (inr (inr (inr (inr (inr (inl refl))))))))) refl refl [] refl

pub voucher_fits : (trees : Trees) → Fits our_schema trees → (r : Row) → Has (trees 16) r
    → columns r ≡ voucher_cells (voucher_in_row (drop 1 r))
voucher_fits trees fits r has =
    let values = voucher_values trees fits r has in
    ap₂ ◌∷◌ values.1.0
    (ap₂ ◌∷◌ values.1.1.0 (ap₂ ◌∷◌ values.1.1.1.0 (ap (λ v. v ∷ []) values.1.1.1.1.0)))
    ∙ ap voucher_cells (sym (same_columns r))

module _ (code : List ℕ) where
  -- what was refused of the row that was read is refused of the tables
  pub voucher_refused : (old new : State) (rows : List Row)
      → Answers read_voucher_text (voucher_key code) old new rows
      → ((o : Option VoucherColumns) → rows ≡ map voucher_cells (one_or_none o)
      → ¬ IfSome o IsRuledVoucher)
      → ¬ IfSome ((tables_content old.now.trees).vouchers code) IsRuledVoucher
  voucher_refused old new rows got refused ruled =
      let it = one_there vouchers (inr (inr (inr (inr (inr (inr (inr (inr (inl refl)))))))))
      (inr (inr (inr (inr (inr (inr (inr (inr (inl refl))))))))) refl old.now.trees got.fits
      got.book.stored.1.1.1.1.1.1.1.1.0 (voucher_key code) (refl, tt) voucher_in_row voucher_cells
      columns (λ r h is. voucher_fits old.now.trees got.fits r h) rows
      (voucher_selected code old new rows got) in
      refused it.0 it.1 (subst (λ o. IfSome o IsRuledVoucher)
      (sym (voucher_read code old new rows it.0 got it.1)) ruled)
