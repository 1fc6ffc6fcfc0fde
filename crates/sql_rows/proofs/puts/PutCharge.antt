-- What the text of `put_charge` does.
use Rattle.std.specs.Prelude.{codes, ⊤}
use Rattle.std.proofs.Common.{◌≡◌, inl, inr, ℕ, ℤ, ◌+◌, List, [], ◌∷◌, ◌++◌, map}
use Rattle.std.proofs.Common.{◌&&◌, Some, Result, OnOk, IsTrue, refl, sym, ap, ◌∙◌, arith, nat_eq}
use Rattle.std.specs.Ordering.{eq_by_cmp}
use Rattle.sqlite_value.specs.declared.value.Value.{Value}
use Rattle.sqlite_value.specs.declared.value.Value.TheVariants.{Null, Int, Text}
use Rattle.sqlite_value.specs.Order.{Row, row_cmp}
use Rattle.sqlite_value.specs.Keys.{plain}
use Rattle.sqlite_trees.specs.Tree.{Trees}
use Rattle.sqlite_sql.specs.Term.{Term, lit, col}
use Rattle.sqlite_schema.specs.declared.command.Source.TheVariants.{Values}
use Rattle.sqlite_schema.specs.declared.command.Conflict.TheVariants.{Abort}
use Rattle.sqlite_schema.specs.declared.command.Command.TheVariants.{InsertOr}
use Rattle.sqlite_schema.specs.Rules.{agree}
use Rattle.sqlite_rules.specs.Cast.{cast_row}
use Rattle.sqlite_rules.specs.Keys.{conflicts}
use Rattle.sqlite_tied.specs.Compute.{everything}
use Rattle.sqlite.specs.Values.{bound_value}
use Rattle.sqlite.specs.declared.error.Error.{Error}
use Rattle.sqlite.specs.Listing.{understood}
use Rattle.sqlite.specs.State.{State, ExecutesInside}
use Rattle.sqlite.proofs.Callers.{IsPlain, command_of}
use Rattle.ledger.specs.declared.charge.ChargeRow.{ChargeRow}
use Rattle.sql_tables.specs.Keyed.{key_of, same_name}
use Rattle.sql_tables.specs.Schema.{charges, our_schema, key_index}
use Rattle.sql_tables.specs.Statements.{Attempts, Changes, HasTables, IsTabled, Puts}
use Rattle.sql_tables.proofs.Casts.{cast_int, cast_null}
use Rattle.sql_tables.proofs.Found.{put_tells, apart_if}
use Rattle.sql_tables.proofs.Keys.{text_number}
use Rattle.sql_tables.proofs.Steps.{or_false}
use Rattle.sql_tables.proofs.Tabled.{puts_table}
use Rattle.sql_tables.proofs.Ties.{agree_ties}
use Rattle.sql_tables.proofs.Upserts.{pick}
use Rattle.sql_rows.specs.Values.{nat, priced_cells, charge_values, charge_key, charge_in_row}
use Rattle.sql_rows.specs.Content.{with_rows, with_charge_row, rows_in, tables_content}
use Rattle.sql_rows.specs.Makes.{HasRun, Makes}
use Rattle.sql_rows.proofs.writes.Keyed.{IsKeyed}
use Rattle.sql_rows.proofs.writes.Plains.{plain_beside}
use Rattle.sql_rows.proofs.writes.Stays.{only_changed, rows_turn, at_each}
use Rattle.sql_rows.proofs.writes.Writes.{writes, puts_make}

abbrev pub put_charge_text : List ℕ
put_charge_text =
    codes "INSERT INTO charges VALUES (?1, ?2, ?3, ?4, ?5, ?6, ?7, ?8, ?9) "
    ++ codes "ON CONFLICT (account, number) DO UPDATE SET "
    ++ codes "account = excluded.account, number = excluded.number, moment = excluded.moment, "
    ++ codes "session = excluded.session, rating_group = excluded.rating_group, "
    ++ codes "blocks = excluded.blocks, rated = excluded.rated, collected = excluded.collected, "
    ++ codes "uncollected = excluded.uncollected"

abbrev pub terms : List Term
terms = lit Null ∷ col 0 0 ∷ col 0 1 ∷ col 0 2 ∷ col 0 3 ∷ col 0 4 ∷ col 0 5 ∷ col 0 6 ∷ col 0 7
    ∷ col 0 8 ∷ []

abbrev project : List Term
project =
    col 1 0 ∷ col 1 0 ∷ col 0 11 ∷ col 0 12 ∷ col 0 13 ∷ col 0 14 ∷ col 0 15 ∷ col 0 16 ∷ col 0 17 ∷
    col 0 18 ∷ col 0 19 ∷ []

abbrev places : List ℕ
places = 1 ∷ 2 ∷ []

put_is : command_of (understood our_schema put_charge_text)
    ≡ InsertOr 9 Abort (Values terms 10)
    (record {
      target = Some places;
      update = Some (record { lets = []; body = pick 18 9 project });
    } ∷ [])
unfolding understood everything
put_is = refl

put_plain : IsPlain (understood our_schema put_charge_text)
unfolding understood everything
put_plain = (refl, refl)

-- a charge without covered blocks
pub charge_told : (v : Value) (row : ChargeRow) → row.covered.0 ≡ 0 →
    charge_in_row (v ∷ priced_cells row) ≡ row
charge_told v row none = ap (λ n. record row { covered = record { 0 = n } }) (sym none)

module _ (a : List ℕ) (row : ChargeRow) (none : row.covered.0 ≡ 0) where
  abbrev pub values : Row
  values = charge_values a row

  again : (id : ℤ) → cast_row charges (Int id ∷ values) ≡ Int id ∷ values
  again id = simp (cast_int)

  unset : cast_row charges (Null ∷ values) ≡ Null ∷ values
  unset = simp (cast_int, cast_null)

  meets : (id : ℤ) (other : Row) →
      conflicts (Some places) our_schema.indexes charges (Int id ∷ values) other
      ≡ eq_by_cmp row_cmp (key_of places other) (key_of places (Int id ∷ values))
  meets id other = or_false (agree plain places other places (Int id ∷ values))
      ∙ agree_ties places other (Int id ∷ values) (refl, (refl, tt))

  pub keyed : IsKeyed charges values
  keyed = record {
    again = again;
    unset = unset;
    keys = λ v. refl;
    full = λ id. (refl, (refl, tt));
    ties = meets;
  }

  puts : (old new : State) (r : Result ℕ Error) → (IsTrue old.is_open → IsTabled old)
      → OnOk r (ExecutesInside 0 put_charge_text values old new r)
      → OnOk r (Puts charges values old new)
  puts =
      puts_table 9 charges refl (inr (inr (inr (inr (inr (inr (inr (inr (inr (inl refl))))))))))
      (key_index charges) (inr (inr (inr (inr (inr (inr (inr (inr (inr (inl refl))))))))))
      refl refl refl (λ e. omega arith) refl
      put_charge_text terms project 10 9 put_is put_plain values (λ olds new. refl)
      keyed.again keyed.unset
      (λ id met r. refl) (λ id met. refl) refl keyed.keys keyed.full keyed.ties

  pub charge_turns : (old new : Trees) → Changes charges values old new
      → tables_content new ≡ with_rows a (with_charge_row row) (tables_content old)
  charge_turns old new c =
      only_changed 18 old new c.others
      ∙ rows_turn a (tables_content old) (with_charge_row row) (λ r. r.charges)
      (λ r f. record r { charges = f }) (λ r. refl)
      (λ r. refl) (rows_in new) (λ x. at_each (same_name a x) _ _ _ (λ n.
      put_tells charge_in_row charges values old new c row (charge_told (Text a) row none)
      (charge_key x n)
      (same_name a x && (nat_eq row.number n))
      (text_number a x row.number n) ∙ apart_if (same_name a x) (nat_eq row.number n) _ _))

  pub makes_charge : (old new : State) (r : Result ⊤ Error) → HasTables old
      → Attempts (HasRun put_charge_text values) old new r
      → Attempts (Makes (with_rows a (with_charge_row row))) old new r
  makes_charge =
      writes put_charge_text values (Puts charges values) (with_rows a (with_charge_row row)) puts
      (puts_make charges values (with_rows a (with_charge_row row)) charge_turns
      (plain_beside charges values (omega arith) (omega arith) (omega arith))) values refl

  -- the parameters, as they are bound
  pub bound_charge : (v1 v2 v3 v4 v5 v6 v7 v8 v9 : Value)
      → v1 ≡ Text a
      → v2 ≡ nat row.number
      → v3 ≡ nat row.moment
      → v4 ≡ Text row.session
      → v5 ≡ nat row.group
      → v6 ≡ nat row.blocks.0
      → v7 ≡ nat row.rated.0
      → v8 ≡ nat row.collected.0
      → v9 ≡ nat row.uncollected.0
      → ◌≡◌ {A = Row} (map bound_value (v1 ∷ v2 ∷ v3 ∷ v4 ∷ v5 ∷ v6 ∷ v7 ∷ v8 ∷ v9 ∷ [])) values
  bound_charge v1 v2 v3 v4 v5 v6 v7 v8 v9 e1 e2 e3 e4 e5 e6 e7 e8 e9 =
      rw (e1, e2, e3, e4, e5, e6, e7, e8, e9) refl
