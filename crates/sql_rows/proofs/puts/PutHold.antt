-- What the text of `put_hold` does.
use Rattle.std.specs.Prelude.{codes, ⊤}
use Rattle.std.proofs.Common.{◌≡◌, inl, inr, ℕ, ℤ, ◌+◌, List, [], ◌∷◌, ◌++◌, map}
use Rattle.std.proofs.Common.{◌&&◌, Some, Result, OnOk, IsTrue, refl, ◌∙◌, arith, nat_eq}
use Rattle.std.specs.Ordering.{eq_by_cmp}
use Rattle.sqlite_value.specs.declared.value.Value.{Value}
use Rattle.sqlite_value.specs.declared.value.Value.TheVariants.{Null, Int, Text}
use Rattle.sqlite_value.specs.Order.{Row, row_cmp}
use Rattle.sqlite_value.specs.Keys.{plain}
use Rattle.sqlite_trees.specs.Tree.{Trees}
use Rattle.sqlite_sql.specs.Term.{Term, lit, col}
use Rattle.sqlite_schema.specs.declared.command.Source.TheVariants.{Values}
use Rattle.sqlite_schema.specs.declared.command.Conflict.TheVariants.{Abort}
use Rattle.sqlite_schema.specs.declared.command.Command.TheVariants.{InsertOr}
use Rattle.sqlite_schema.specs.Rules.{agree}
use Rattle.sqlite_rules.specs.Cast.{cast_row}
use Rattle.sqlite_rules.specs.Keys.{conflicts}
use Rattle.sqlite_tied.specs.Compute.{everything}
use Rattle.sqlite.specs.Values.{bound_value}
use Rattle.sqlite.specs.declared.error.Error.{Error}
use Rattle.sqlite.specs.Listing.{understood}
use Rattle.sqlite.specs.State.{State, ExecutesInside}
use Rattle.sqlite.proofs.Callers.{IsPlain, command_of}
use Rattle.sql_tables.specs.Keyed.{key_of, same_name}
use Rattle.sql_tables.specs.Schema.{holds, our_schema, key_index}
use Rattle.sql_tables.specs.Statements.{Attempts, Changes, HasTables, IsTabled, Puts}
use Rattle.sql_tables.proofs.Casts.{cast_int, cast_null}
use Rattle.sql_tables.proofs.Found.{put_tells, apart_if}
use Rattle.sql_tables.proofs.Keys.{text_text_number_number}
use Rattle.sql_tables.proofs.Steps.{or_false}
use Rattle.sql_tables.proofs.Tabled.{puts_table}
use Rattle.sql_tables.proofs.Ties.{agree_ties}
use Rattle.sql_tables.proofs.Upserts.{pick}
use Rattle.sql_rows.specs.Values.{nat, hold_values, hold_key, hold_in}
use Rattle.sql_rows.specs.Content.{with_rows, with_hold_row, rows_in, tables_content}
use Rattle.sql_rows.specs.Makes.{HasRun, Makes}
use Rattle.sql_rows.proofs.writes.Plains.{plain_beside}
use Rattle.sql_rows.proofs.writes.Stays.{only_changed, rows_turn, at_each}
use Rattle.sql_rows.proofs.writes.Writes.{writes, puts_make}

abbrev pub put_hold_text : List ℕ
put_hold_text =
    codes "INSERT INTO holds VALUES (?1, ?2, ?3, ?4, ?5) "
    ++ codes "ON CONFLICT (account, session, rating_group, bucket) DO UPDATE SET "
    ++ codes "account = excluded.account, session = excluded.session, "
    ++ codes
    "rating_group = excluded.rating_group, bucket = excluded.bucket, amount = excluded.amount"

abbrev terms : List Term
terms = lit Null ∷ col 0 0 ∷ col 0 1 ∷ col 0 2 ∷ col 0 3 ∷ col 0 4 ∷ []

abbrev project : List Term
project = col 1 0 ∷ col 1 0 ∷ col 0 7 ∷ col 0 8 ∷ col 0 9 ∷ col 0 10 ∷ col 0 11 ∷ []

abbrev places : List ℕ
places = 1 ∷ 2 ∷ 3 ∷ 4 ∷ []

put_is : command_of (understood our_schema put_hold_text)
    ≡ InsertOr 6 Abort (Values terms 6)
    (record {
      target = Some places;
      update = Some (record { lets = []; body = pick 12 5 project });
    } ∷ [])
unfolding understood everything
put_is = refl

put_plain : IsPlain (understood our_schema put_hold_text)
unfolding understood everything
put_plain = (refl, refl)

module _ (a s : List ℕ) (g n amount : ℕ) where
  abbrev values : Row
  values = hold_values a s g n amount

  again : (id : ℤ) → cast_row holds (Int id ∷ values) ≡ Int id ∷ values
  again id = simp (cast_int)

  unset : cast_row holds (Null ∷ values) ≡ Null ∷ values
  unset = simp (cast_int, cast_null)

  meets : (id : ℤ) (other : Row) →
      conflicts (Some places) our_schema.indexes holds (Int id ∷ values) other
      ≡ eq_by_cmp row_cmp (key_of places other) (key_of places (Int id ∷ values))
  meets id other = or_false (agree plain places other places (Int id ∷ values))
      ∙ agree_ties places other (Int id ∷ values) (refl, (refl, (refl, (refl, tt))))

  puts : (old new : State) (r : Result ℕ Error) → (IsTrue old.is_open → IsTabled old)
      → OnOk r (ExecutesInside 0 put_hold_text values old new r)
      → OnOk r (Puts holds values old new)
  puts =
      puts_table 6 holds refl (inr (inr (inr (inr (inr (inr (inl refl))))))) (key_index holds)
      (inr (inr (inr (inr (inr (inr (inl refl)))))))
      refl refl refl (λ e. omega arith) refl
      put_hold_text terms project 6 5 put_is put_plain values (λ olds new. refl) again unset
      (λ id met r. refl) (λ id met. refl) refl (λ v. refl)
      (λ id. (refl, (refl, (refl, (refl, tt))))) meets

  turns : (old new : Trees) → Changes holds values old new
      → tables_content new ≡ with_rows a (with_hold_row s g n amount) (tables_content old)
  turns old new c =
      only_changed 12 old new c.others
      ∙ rows_turn a (tables_content old) (with_hold_row s g n amount) (λ r. r.holds)
      (λ r f. record r { holds = f }) (λ r. refl)
      (λ r. refl) (rows_in new) (λ x. at_each (same_name a x) _ _ _
      (λ t. at_each (same_name a x) _ _ _ (λ h. at_each (same_name a x) _ _ _ (λ m.
      put_tells hold_in holds values old new c amount refl (hold_key x t h m)
      (same_name a x && (same_name s t && (nat_eq g h && nat_eq n m)))
      (text_text_number_number a x s t g h n m)
      ∙ apart_if (same_name a x) (same_name s t && (nat_eq g h && nat_eq n m)) _ _))))

  pub makes_hold : (params : Row) → params ≡ values
      → (old new : State) (r : Result ⊤ Error) → HasTables old
      → Attempts (HasRun put_hold_text params) old new r
      → Attempts (Makes (with_rows a (with_hold_row s g n amount))) old new r
  makes_hold =
      writes put_hold_text values (Puts holds values) (with_rows a (with_hold_row s g n amount))
      puts
      (puts_make holds values (with_rows a (with_hold_row s g n amount)) turns
      (plain_beside holds values (omega arith) (omega arith) (omega arith)))

  -- the parameters, as they are bound
  pub bound_hold : (v1 v2 v3 v4 v5 : Value)
      → v1 ≡ Text a
      → v2 ≡ Text s
      → v3 ≡ nat g
      → v4 ≡ nat n
      → v5 ≡ nat amount
      → ◌≡◌ {A = Row} (map bound_value (v1 ∷ v2 ∷ v3 ∷ v4 ∷ v5 ∷ [])) values
  bound_hold v1 v2 v3 v4 v5 e1 e2 e3 e4 e5 = rw (e1, e2, e3, e4, e5) refl
