-- What the text of `put_voucher` does.
use Rattle.std.specs.Prelude.{codes, ⊤}
use Rattle.std.proofs.Common.{◌≡◌, inl, inr, ℕ, ℤ, List, [], ◌∷◌, ◌++◌, map}
use Rattle.std.proofs.Common.{Some, None, Option, Result, OnOk, IsTrue, refl, ◌∙◌, arith}
use Rattle.std.specs.Ordering.{eq_by_cmp}
use Rattle.sqlite_value.specs.declared.value.Value.{Value}
use Rattle.sqlite_value.specs.declared.value.Value.TheVariants.{Null, Int, Text}
use Rattle.sqlite_value.specs.Order.{Row, row_cmp}
use Rattle.sqlite_value.specs.Keys.{plain}
use Rattle.sqlite_trees.specs.Tree.{Trees}
use Rattle.sqlite_schema.specs.declared.command.Source.TheVariants.{Values}
use Rattle.sqlite_schema.specs.declared.command.Conflict.TheVariants.{Abort}
use Rattle.sqlite_schema.specs.declared.command.Command.TheVariants.{InsertOr}
use Rattle.sqlite_schema.specs.Rules.{agree}
use Rattle.sqlite_rules.specs.Cast.{cast_row}
use Rattle.sqlite_rules.specs.Keys.{conflicts}
use Rattle.sqlite_tied.specs.Compute.{everything}
use Rattle.sqlite.specs.Values.{bound_value, or_null}
use Rattle.sqlite.specs.declared.error.Error.{Error}
use Rattle.sqlite.specs.Listing.{understood}
use Rattle.sqlite.specs.State.{State, ExecutesInside}
use Rattle.sqlite.proofs.Callers.{IsPlain, command_of}
use Rattle.sql_tables.specs.Keyed.{key_of, same_name}
use Rattle.sql_tables.specs.Schema.{vouchers, our_schema, key_index}
use Rattle.sql_tables.specs.Statements.{Attempts, Changes, HasTables, IsTabled, Puts}
use Rattle.sql_tables.proofs.Casts.{cast_int, cast_null, cast_or_null, cast_or_text}
use Rattle.sql_tables.proofs.Found.{put_tells}
use Rattle.sql_tables.proofs.Keys.{text_last}
use Rattle.sql_tables.proofs.Steps.{or_false}
use Rattle.sql_tables.proofs.Tabled.{puts_table}
use Rattle.sql_tables.proofs.Ties.{agree_ties}
use Rattle.sql_tables.proofs.Upserts.{pick}
use Rattle.sql_rows.specs.declared.voucher_rows.VoucherColumns.{VoucherColumns}
use Rattle.sql_rows.specs.Values.{nat, voucher_cells, voucher_values, voucher_key}
use Rattle.sql_rows.specs.Values.{voucher_in_row, optional_in, optional_text_in}
use Rattle.sql_rows.specs.Content.{with_voucher_row, tables_content}
use Rattle.sql_rows.specs.Makes.{HasRun, Makes}
use Rattle.sql_rows.proofs.writes.Plains.{plain_beside}
use Rattle.sql_rows.proofs.writes.Stays.{only_changed}
use Rattle.sql_rows.proofs.puts.PutAccount.{terms, project, places}
use Rattle.sql_rows.proofs.writes.Writes.{writes, puts_make}

abbrev pub put_voucher_text : List ℕ
put_voucher_text =
    codes "INSERT INTO vouchers VALUES (?1, ?2, ?3, ?4, ?5) "
    ++ codes "ON CONFLICT (code) DO UPDATE SET "
    ++ codes "code = excluded.code, amount = excluded.amount, days = excluded.days, "
    ++ codes "scope = excluded.scope, account = excluded.account"

put_is : command_of (understood our_schema put_voucher_text)
    ≡ InsertOr 8 Abort (Values terms 6)
    (record {
      target = Some places;
      update = Some (record { lets = []; body = pick 16 5 project });
    } ∷ [])
unfolding understood everything
put_is = refl

put_plain : IsPlain (understood our_schema put_voucher_text)
unfolding understood everything
put_plain = (refl, refl)

pub voucher_told : (v : Value) (row : VoucherColumns) → voucher_in_row (v ∷ voucher_cells row) ≡ row
voucher_told v row = λ i. record {
  amount = row.amount;
  days = number_told row.days i;
  scope = number_told row.scope i;
  account = text_told row.account i;
}
  where
    number_told : (o : Option ℕ) → optional_in (or_null nat o) ≡ o
    number_told None = refl
    number_told (Some n) = refl

    text_told : (o : Option (List ℕ)) → optional_text_in (or_null Text o) ≡ o
    text_told None = refl
    text_told (Some t) = refl

module _ (code : List ℕ) (row : VoucherColumns) where
  abbrev values : Row
  values = voucher_values code row

  again : (id : ℤ) → cast_row vouchers (Int id ∷ values) ≡ Int id ∷ values
  again id = simp (cast_int, cast_or_null, cast_or_text)

  unset : cast_row vouchers (Null ∷ values) ≡ Null ∷ values
  unset = simp (cast_int, cast_or_null, cast_or_text, cast_null)

  meets : (id : ℤ) (other : Row) →
      conflicts (Some places) our_schema.indexes vouchers (Int id ∷ values) other
      ≡ eq_by_cmp row_cmp (key_of places other) (key_of places (Int id ∷ values))
  meets id other = or_false (agree plain places other places (Int id ∷ values))
      ∙ agree_ties places other (Int id ∷ values) (refl, tt)

  puts : (old new : State) (r : Result ℕ Error) → (IsTrue old.is_open → IsTabled old)
      → OnOk r (ExecutesInside 0 put_voucher_text values old new r)
      → OnOk r (Puts vouchers values old new)
  puts =
      puts_table 8 vouchers refl (inr (inr (inr (inr (inr (inr (inr (inr (inl refl)))))))))
      (key_index vouchers) (inr (inr (inr (inr (inr (inr (inr (inr (inl refl)))))))))
      refl refl refl (λ e. omega arith) refl
      put_voucher_text terms project 6 5 put_is put_plain values (λ olds new. refl) again unset
      (λ id met r. refl) (λ id met. refl) refl (λ v. refl) (λ id. (refl, tt)) meets

  turns : (old new : Trees) → Changes vouchers values old new →
      tables_content new ≡ with_voucher_row code row (tables_content old)
  turns old new c = only_changed 16 old new c.others ∙ (λ i. record (tables_content old) {
    vouchers = λ k. put_tells voucher_in_row vouchers values old new c row
        (voucher_told (Text code) row) (voucher_key k) (same_name code k) (text_last code k) i;
  })

  pub makes_voucher : (params : Row) → params ≡ values
      → (old new : State) (r : Result ⊤ Error) → HasTables old
      → Attempts (HasRun put_voucher_text params) old new r
      → Attempts (Makes (with_voucher_row code row)) old new r
  makes_voucher = writes put_voucher_text values (Puts vouchers values) (with_voucher_row code row)
      puts
      (puts_make vouchers values (with_voucher_row code row) turns
      (plain_beside vouchers values (omega arith) (omega arith) (omega arith)))

  -- the parameters, as they are bound
  pub bound_voucher : (v1 v2 v3 v4 v5 : Value)
      → v1 ≡ Text code
      → v2 ≡ nat row.amount
      → bound_value v3 ≡ or_null nat row.days
      → bound_value v4 ≡ or_null nat row.scope
      → bound_value v5 ≡ or_null Text row.account
      → ◌≡◌ {A = Row} (map bound_value (v1 ∷ v2 ∷ v3 ∷ v4 ∷ v5 ∷ [])) values
  bound_voucher v1 v2 v3 v4 v5 e1 e2 e3 e4 e5 = rw (e1, e2, e3, e4, e5) refl
