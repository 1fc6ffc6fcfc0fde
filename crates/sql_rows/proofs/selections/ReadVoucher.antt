-- What the text of `read_voucher` answers.
use Rattle.std.specs.Prelude.{codes}
use Rattle.std.proofs.Common.{◌≡◌, inl, inr, ℕ, List, [], ◌∷◌, map, drop, Bool}
use Rattle.std.proofs.Common.{false, Option, refl, sym, ap, subst, ◌∙◌}
use Rattle.std.specs.List.{list_all}
use Rattle.std.specs.Ordering.{eq_by_cmp}
use Rattle.sqlite_value.specs.declared.value.Value.TheVariants.{Null}
use Rattle.sqlite_value.specs.declared.keys.Collation.TheVariants.{Binary}
use Rattle.sqlite_value.specs.Keys.{first_key}
use Rattle.sqlite_value.specs.Order.{Row, column, row_cmp}
use Rattle.sqlite_sql.specs.declared.ops.BinaryOp.TheVariants.{Compare}
use Rattle.sqlite_sql.specs.declared.ops.CompareOp.TheVariants.{Eq}
use Rattle.sqlite_sql.specs.Term.{Term, col, op2, holds as holds_in}
use Rattle.sqlite_schema.specs.declared.command.Command.TheVariants.{Select}
use Rattle.sqlite_tied.specs.Compute.{everything}
use Rattle.sqlite.specs.Given.{IsPlain}
use Rattle.sqlite.specs.Listing.{understood, reads_listing}
use Rattle.sqlite.specs.State.{State}
use Rattle.sqlite.proofs.Callers.{command_of}
use Rattle.sql_tables.specs.Keyed.{key_of}
use Rattle.sql_tables.specs.Schema.{vouchers, our_schema}
use Rattle.sql_tables.specs.Selects.{Selects, one_or_none}
use Rattle.sql_tables.specs.Statements.{Answers}
use Rattle.sql_tables.proofs.ByKey.{one_told}
use Rattle.sql_tables.proofs.Selected.{select_from, told}
use Rattle.sql_tables.proofs.Ties.{agree_ties_at}
use Rattle.sql_rows.specs.declared.voucher_rows.VoucherColumns.{VoucherColumns}
use Rattle.sql_rows.specs.Values.{voucher_key, voucher_in_row, voucher_cells}
use Rattle.sql_rows.specs.Content.{tables_content}
use Rattle.sql_rows.proofs.puts.PutVoucher.{voucher_told}

abbrev pub read_voucher_text : List ℕ
read_voucher_text = codes "SELECT amount, days, scope, account FROM vouchers WHERE code = ?1"

abbrev terms : List Term
terms = op2 (Compare Eq Binary) (col 1 1) (col 0 0) ∷ []

abbrev project : List Term
project = col 1 2 ∷ col 1 3 ∷ col 1 4 ∷ col 1 5 ∷ []

abbrev names : List (List ℕ)
names = codes "amount" ∷ codes "days" ∷ codes "scope" ∷ codes "account" ∷ []

abbrev places : List ℕ
places = 1 ∷ []

text_is : (command_of (understood our_schema read_voucher_text)
    ≡ Select (record { lets = []; body = select_from 16 terms project [] }) names) ×
    (reads_listing our_schema read_voucher_text ≡ false)
unfolding understood everything
text_is = (refl, refl)

pub read_voucher_plain : IsPlain (understood our_schema read_voucher_text)
unfolding understood everything
read_voucher_plain = (refl, refl)

abbrev pub columns : Row → Row
columns r = column r 2 ∷ column r 3 ∷ column r 4 ∷ column r 5 ∷ []

pub same_columns : (r : Row) → voucher_in_row (drop 1 r) ≡ voucher_in_row (Null ∷ columns r)
same_columns [] = refl
same_columns (v ∷ vs) = refl

back : (x : VoucherColumns) (r : Row) → voucher_cells x ≡ columns r → voucher_in_row (drop 1 r) ≡ x
back x r is = same_columns r ∙ ap (λ w. voucher_in_row (Null ∷ w)) (sym is) ∙ voucher_told Null x

module _ (code : List ℕ) where
  means : (r : Row) → list_all (holds_in (voucher_key code ∷ r ∷ [])) terms
      ≡ eq_by_cmp row_cmp (key_of places r) (voucher_key code)
  unfolding first_key
  means r = agree_ties_at places r (0 ∷ []) (voucher_key code) (refl, tt)

  abbrev test : Row → Bool
  test r = eq_by_cmp row_cmp (key_of places r) (voucher_key code)

  pub voucher_selected : (old new : State) (rows : List Row)
      → Answers read_voucher_text (voucher_key code) old new rows
      → Selects (λ r. eq_by_cmp row_cmp (key_of places r) (voucher_key code)) columns
      (old.now.trees 16) rows
  voucher_selected old new rows got =
      told read_voucher_text names 16 terms project [] text_is read_voucher_plain
      (voucher_key code) test columns means (λ r. refl) old new rows got

  pub voucher_read : (old new : State) (rows : List Row) (o : Option VoucherColumns)
      → Answers read_voucher_text (voucher_key code) old new rows
      → rows ≡ map voucher_cells (one_or_none o) → o ≡ (tables_content old.now.trees).vouchers code
  voucher_read old new rows o got is =
      one_told vouchers (inr (inr (inr (inr (inr (inr (inr (inr (inl refl)))))))))
      (inr (inr (inr (inr (inr (inr (inr (inr (inl refl))))))))) refl old.now.trees got.fits
      (got.book.stored.1.1.1.1.1.1.1.1.0) voucher_in_row voucher_cells columns test
      (voucher_key code) (refl, tt) (λ x r m. back x r) (λ r. refl) o
      (subst (Selects test columns (old.now.trees 16)) is
      (voucher_selected old new rows got))
