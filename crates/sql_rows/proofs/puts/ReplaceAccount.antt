-- What the text of `replace_account` does.
use Rattle.std.specs.Prelude.{codes, IfOk}
use Rattle.std.proofs.Common.{◌≡◌, inl, inr, ℕ, List, [], ◌∷◌, ◌++◌, ◌==◌, Ok, Result, OnOk, IsTrue}
use Rattle.std.proofs.Common.{refl, arith}
use Rattle.std.specs.List.{list_all}
use Rattle.std.specs.Ordering.{eq_by_cmp}
use Rattle.sqlite_value.specs.declared.keys.Collation.TheVariants.{Binary}
use Rattle.sqlite_value.specs.Keys.{first_key}
use Rattle.sqlite_value.specs.Order.{Row, row_cmp}
use Rattle.sqlite_sql.specs.declared.ops.BinaryOp.TheVariants.{Compare}
use Rattle.sqlite_sql.specs.declared.ops.CompareOp.TheVariants.{Eq}
use Rattle.sqlite_sql.specs.Term.{Term, col, op2, holds as holds_in}
use Rattle.sqlite_schema.specs.declared.command.Command.TheVariants.{Update}
use Rattle.sqlite_tied.specs.Compute.{everything}
use Rattle.sqlite.specs.declared.error.Error.{Error}
use Rattle.sqlite.specs.Listing.{understood}
use Rattle.sqlite.specs.State.{State, ExecutesInside}
use Rattle.sqlite.proofs.Callers.{IsPlain, command_of}
use Rattle.sql_tables.specs.Keyed.{key_of}
use Rattle.sql_tables.specs.Schema.{accounts, our_schema}
use Rattle.sql_tables.specs.Statements.{Attempts, HasTables, HasRules, IsTabled}
use Rattle.sql_tables.proofs.Found.{is_some_map}
use Rattle.sql_tables.proofs.Selected.{select_from}
use Rattle.sql_tables.proofs.Ties.{agree_ties_at}
use Rattle.sql_rows.specs.declared.head.HeadColumns.{HeadColumns}
use Rattle.sql_rows.specs.Values.{head_in, head_key}
use Rattle.sql_rows.specs.Content.{has_account, with_account}
use Rattle.sql_rows.specs.Makes.{ReplacesIfSome}
use Rattle.sql_rows.proofs.writes.Plains.{plain_account}
use Rattle.sql_rows.proofs.puts.PutAccount.{values, keyed, turns}
use Rattle.sql_rows.proofs.writes.Replaces.{ReplacesRow, replaces_row, replaces, rules_replaced}

abbrev pub replace_account_text : List ℕ
replace_account_text =
    codes "UPDATE accounts SET account = ?1, barred = ?2, as_of = ?3, next_bucket = ?4, "
    ++ codes "next_charge = ?5 WHERE account = ?1"

abbrev terms : List Term
terms = op2 (Compare Eq Binary) (col 1 1) (col 0 0) ∷ []

abbrev project : List Term
project = col 1 0 ∷ col 1 0 ∷ col 0 0 ∷ col 0 1 ∷ col 0 2 ∷ col 0 3 ∷ col 0 4 ∷ []

abbrev places : List ℕ
places = 1 ∷ []

set_is : command_of (understood our_schema replace_account_text)
    ≡ Update 1 (record { lets = []; body = select_from 2 terms project [] })
unfolding understood everything
set_is = refl

set_plain : IsPlain (understood our_schema replace_account_text)
unfolding understood everything
set_plain = (refl, refl)

module _ (a : List ℕ) (h : HeadColumns) where
  means : (r : Row) → list_all (holds_in (values a h ∷ r ∷ [])) terms
      ≡ eq_by_cmp row_cmp (key_of places r) (head_key a)
  unfolding first_key
  means r = agree_ties_at places r (0 ∷ []) (values a h) (refl, tt)

  runs : (old new : State) (r : Result ℕ Error) → (IsTrue old.is_open → IsTabled old)
      → OnOk r (ExecutesInside 0 replace_account_text (values a h) old new r)
      → IfOk r (ReplacesRow accounts (values a h) old new)
  runs = replaces_row accounts (inr (inl refl)) (inr (inl refl)) refl terms project (values a h)
      means (λ r. refl) (keyed a h) 1 refl (λ e. omega arith) replace_account_text set_is set_plain

  pub replaces_account : (old new : State) (count : ℕ) → HasTables old
      → Attempts {A = ℕ} {E = Error}
      (λ old new. ExecutesInside 0 replace_account_text (values a h) old new (Ok count)) old new
      (Ok count)
      → ReplacesIfSome {E = Error} (has_account a) (with_account a h) old new (Ok (count == 1))
  replaces_account = replaces accounts (values a h) (has_account a) (with_account a h)
      (λ trees. is_some_map head_in _) (turns a h) (plain_account a h) replace_account_text runs

  pub rules_account_replaced : (old new : State) (count : ℕ) → HasTables old
      → Attempts {A = ℕ} {E = Error}
      (λ old new. ExecutesInside 0 replace_account_text (values a h) old new (Ok count)) old new
      (Ok count)
      → HasRules new
  rules_account_replaced = rules_replaced accounts (values a h) (has_account a) (with_account a h)
      (λ trees. is_some_map head_in _) (turns a h) (plain_account a h) replace_account_text runs
