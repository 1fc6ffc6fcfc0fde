-- What the text of `put_covered` does.
use Rattle.std.specs.Prelude.{codes, ⊤}
use Rattle.std.proofs.Common.{◌≡◌, inl, inr, ℕ, ℤ, List, [], ◌∷◌, ◌++◌, map, ◌&&◌, Some, Result}
use Rattle.std.proofs.Common.{OnOk, IsTrue, refl, ◌∙◌, arith, nat_eq}
use Rattle.std.specs.Ordering.{eq_by_cmp}
use Rattle.sqlite_value.specs.declared.value.Value.{Value}
use Rattle.sqlite_value.specs.declared.value.Value.TheVariants.{Null, Int, Text}
use Rattle.sqlite_value.specs.Order.{Row, row_cmp}
use Rattle.sqlite_value.specs.Keys.{plain}
use Rattle.sqlite_trees.specs.Tree.{Trees}
use Rattle.sqlite_sql.specs.Term.{Term, lit, col}
use Rattle.sqlite_schema.specs.declared.command.Source.TheVariants.{Values}
use Rattle.sqlite_schema.specs.declared.command.Conflict.TheVariants.{Abort}
use Rattle.sqlite_schema.specs.declared.command.Command.TheVariants.{InsertOr}
use Rattle.sqlite_schema.specs.Rules.{agree}
use Rattle.sqlite_rules.specs.Cast.{cast_row}
use Rattle.sqlite_rules.specs.Keys.{conflicts}
use Rattle.sqlite_tied.specs.Compute.{everything}
use Rattle.sqlite.specs.Values.{bound_value}
use Rattle.sqlite.specs.declared.error.Error.{Error}
use Rattle.sqlite.specs.Listing.{understood}
use Rattle.sqlite.specs.State.{State, ExecutesInside}
use Rattle.sqlite.proofs.Callers.{IsPlain, command_of}
use Rattle.sql_tables.specs.Keyed.{key_of, same_name}
use Rattle.sql_tables.specs.Schema.{covered, our_schema, key_index}
use Rattle.sql_tables.specs.Statements.{Attempts, Changes, HasTables, IsTabled, Puts}
use Rattle.sql_tables.proofs.Casts.{cast_int, cast_null}
use Rattle.sql_tables.proofs.Found.{put_tells, apart_if}
use Rattle.sql_tables.proofs.Keys.{text_number}
use Rattle.sql_tables.proofs.Steps.{or_false}
use Rattle.sql_tables.proofs.Tabled.{puts_table}
use Rattle.sql_tables.proofs.Ties.{agree_ties}
use Rattle.sql_tables.proofs.Upserts.{pick}
use Rattle.sql_rows.specs.declared.covered_rows.CoveredColumns.{CoveredColumns}
use Rattle.sql_rows.specs.Values.{nat, covered_values, covered_in_row, charge_key}
use Rattle.sql_rows.specs.Content.{with_rows, with_covered, rows_in, tables_content}
use Rattle.sql_rows.specs.Makes.{HasRun, Makes}
use Rattle.sql_rows.proofs.writes.Plains.{plain_beside}
use Rattle.sql_rows.proofs.writes.Stays.{only_changed, rows_turn, at_each}
use Rattle.sql_rows.proofs.writes.Writes.{writes, puts_make}

abbrev pub put_covered_text : List ℕ
put_covered_text =
    codes "INSERT INTO covered VALUES (?1, ?2, ?3) "
    ++ codes "ON CONFLICT (account, number) DO UPDATE SET "
    ++ codes "account = excluded.account, number = excluded.number, blocks = excluded.blocks"

abbrev terms : List Term
terms = lit Null ∷ col 0 0 ∷ col 0 1 ∷ col 0 2 ∷ []

abbrev project : List Term
project = col 1 0 ∷ col 1 0 ∷ col 0 5 ∷ col 0 6 ∷ col 0 7 ∷ []

abbrev places : List ℕ
places = 1 ∷ 2 ∷ []

put_is : command_of (understood our_schema put_covered_text)
    ≡ InsertOr 13 Abort (Values terms 4)
    (record {
      target = Some places;
      update = Some (record { lets = []; body = pick 29 3 project });
    } ∷ [])
unfolding understood everything
put_is = refl

put_plain : IsPlain (understood our_schema put_covered_text)
unfolding understood everything
put_plain = (refl, refl)

module _ (a : List ℕ) (x : CoveredColumns) where
  abbrev values : Row
  values = covered_values a x

  again : (id : ℤ) → cast_row covered (Int id ∷ values) ≡ Int id ∷ values
  again id = simp (cast_int)

  unset : cast_row covered (Null ∷ values) ≡ Null ∷ values
  unset = simp (cast_int, cast_null)

  meets : (id : ℤ) (other : Row) →
      conflicts (Some places) our_schema.indexes covered (Int id ∷ values) other
      ≡ eq_by_cmp row_cmp (key_of places other) (key_of places (Int id ∷ values))
  meets id other = or_false (agree plain places other places (Int id ∷ values))
      ∙ agree_ties places other (Int id ∷ values) (refl, (refl, tt))

  puts : (old new : State) (r : Result ℕ Error) → (IsTrue old.is_open → IsTabled old)
      → OnOk r (ExecutesInside 0 put_covered_text values old new r)
      → OnOk r (Puts covered values old new)
  puts =
      puts_table 13 covered refl
      (inr (inr (inr (inr (inr (inr (inr (inr (inr (inr (inr (inr (inr (inl refl))))))))))))))
      (key_index covered)
      (inr (inr (inr (inr (inr (inr (inr (inr
      (inr (inr (inr (inr (inr (inr (inr (inr (inl refl)))))))))))))))))
      refl refl refl (λ e. omega arith) refl
      put_covered_text terms project 4 3 put_is put_plain values (λ olds new. refl) again unset
      (λ id met r. refl) (λ id met. refl) refl (λ v. refl) (λ id. (refl, (refl, tt))) meets

  turns : (old new : Trees) → Changes covered values old new
      → tables_content new ≡ with_rows a (with_covered x) (tables_content old)
  turns old new c =
      only_changed 29 old new c.others
      ∙ rows_turn a (tables_content old) (with_covered x) (λ r. r.covered)
      (λ r f. record r { covered = f }) (λ r. refl)
      (λ r. refl) (rows_in new) (λ y. at_each (same_name a y) _ _ _ (λ m.
      put_tells covered_in_row covered values old new c x.blocks refl (charge_key y m)
      (same_name a y && nat_eq x.number m) (text_number a y x.number m)
      ∙ apart_if (same_name a y) (nat_eq x.number m) _ _))

  pub makes_covered : (params : Row) → params ≡ values
      → (old new : State) (r : Result ⊤ Error) → HasTables old
      → Attempts (HasRun put_covered_text params) old new r
      → Attempts (Makes (with_rows a (with_covered x))) old new r
  makes_covered =
      writes put_covered_text values (Puts covered values) (with_rows a (with_covered x)) puts
      (puts_make covered values (with_rows a (with_covered x)) turns
      (plain_beside covered values (omega arith) (omega arith) (omega arith)))

  -- the parameters, as they are bound
  pub bound_covered : (v1 v2 v3 : Value)
      → v1 ≡ Text a
      → v2 ≡ nat x.number
      → v3 ≡ nat x.blocks
      → ◌≡◌ {A = Row} (map bound_value (v1 ∷ v2 ∷ v3 ∷ [])) values
  bound_covered v1 v2 v3 e1 e2 e3 = rw (e1, e2, e3) refl
