-- What the text of `put_counter` does.
use Rattle.std.specs.Prelude.{codes, ⊤}
use Rattle.std.proofs.Common.{◌≡◌, inl, inr, ℕ, ℤ, ◌+◌, List, [], ◌∷◌, ◌++◌, map}
use Rattle.std.proofs.Common.{◌&&◌, Some, Result, OnOk, IsTrue, refl, ◌∙◌, arith, nat_eq}
use Rattle.std.specs.Ordering.{eq_by_cmp}
use Rattle.sqlite_value.specs.declared.value.Value.{Value}
use Rattle.sqlite_value.specs.declared.value.Value.TheVariants.{Null, Int, Text}
use Rattle.sqlite_value.specs.Order.{Row, row_cmp}
use Rattle.sqlite_value.specs.Keys.{plain}
use Rattle.sqlite_trees.specs.Tree.{Trees}
use Rattle.sqlite_sql.specs.Term.{Term, lit, col}
use Rattle.sqlite_schema.specs.declared.command.Source.TheVariants.{Values}
use Rattle.sqlite_schema.specs.declared.command.Conflict.TheVariants.{Abort}
use Rattle.sqlite_schema.specs.declared.command.Command.TheVariants.{InsertOr}
use Rattle.sqlite_schema.specs.Rules.{agree}
use Rattle.sqlite_rules.specs.Cast.{cast_row}
use Rattle.sqlite_rules.specs.Keys.{conflicts}
use Rattle.sqlite_tied.specs.Compute.{everything}
use Rattle.sqlite.specs.Values.{bound_value}
use Rattle.sqlite.specs.declared.error.Error.{Error}
use Rattle.sqlite.specs.Listing.{understood}
use Rattle.sqlite.specs.State.{State, ExecutesInside}
use Rattle.sqlite.proofs.Callers.{IsPlain, command_of}
use Rattle.reserving.specs.declared.session.Counter.{Counter}
use Rattle.sql_tables.specs.Keyed.{key_of, same_name}
use Rattle.sql_tables.specs.Schema.{counters, our_schema, key_index}
use Rattle.sql_tables.specs.Statements.{Attempts, Changes, HasTables, IsTabled, Puts}
use Rattle.sql_tables.proofs.Casts.{cast_int, cast_null}
use Rattle.sql_tables.proofs.Found.{put_tells, apart_if}
use Rattle.sql_tables.proofs.Keys.{text_number_number}
use Rattle.sql_tables.proofs.Steps.{or_false}
use Rattle.sql_tables.proofs.Tabled.{puts_table}
use Rattle.sql_tables.proofs.Ties.{agree_ties}
use Rattle.sql_tables.proofs.Upserts.{pick}
use Rattle.sql_rows.specs.Values.{nat, counter_values, counter_key, counter_in_row}
use Rattle.sql_rows.specs.Content.{with_rows, with_counter_row, rows_in, tables_content}
use Rattle.sql_rows.specs.Makes.{HasRun, Makes}
use Rattle.sql_rows.proofs.writes.Keyed.{IsKeyed}
use Rattle.sql_rows.proofs.writes.Plains.{plain_beside}
use Rattle.sql_rows.proofs.writes.Stays.{only_changed, rows_turn, at_each}
use Rattle.sql_rows.proofs.writes.Writes.{writes, puts_make}

abbrev pub put_counter_text : List ℕ
put_counter_text =
    codes "INSERT INTO counters VALUES (?1, ?2, ?3, ?4) "
    ++ codes "ON CONFLICT (account, rating_group, cycle) DO UPDATE SET "
    ++ codes "account = excluded.account, rating_group = excluded.rating_group, "
    ++ codes "cycle = excluded.cycle, blocks = excluded.blocks"

abbrev terms : List Term
terms = lit Null ∷ col 0 0 ∷ col 0 1 ∷ col 0 2 ∷ col 0 3 ∷ []

abbrev project : List Term
project = col 1 0 ∷ col 1 0 ∷ col 0 6 ∷ col 0 7 ∷ col 0 8 ∷ col 0 9 ∷ []

abbrev places : List ℕ
places = 1 ∷ 2 ∷ 3 ∷ []

put_is : command_of (understood our_schema put_counter_text)
    ≡ InsertOr 3 Abort (Values terms 5)
    (record {
      target = Some places;
      update = Some (record { lets = []; body = pick 6 4 project });
    } ∷ [])
unfolding understood everything
put_is = refl

put_plain : IsPlain (understood our_schema put_counter_text)
unfolding understood everything
put_plain = (refl, refl)

module _ (a : List ℕ) (k : Counter) where
  abbrev pub values : Row
  values = counter_values a k

  again : (id : ℤ) → cast_row counters (Int id ∷ values) ≡ Int id ∷ values
  again id = simp (cast_int)

  unset : cast_row counters (Null ∷ values) ≡ Null ∷ values
  unset = simp (cast_int, cast_null)

  meets : (id : ℤ) (other : Row) →
      conflicts (Some places) our_schema.indexes counters (Int id ∷ values) other
      ≡ eq_by_cmp row_cmp (key_of places other) (key_of places (Int id ∷ values))
  meets id other = or_false (agree plain places other places (Int id ∷ values))
      ∙ agree_ties places other (Int id ∷ values) (refl, (refl, (refl, tt)))

  pub keyed : IsKeyed counters values
  keyed = record {
    again = again;
    unset = unset;
    keys = λ v. refl;
    full = λ id. (refl, (refl, (refl, tt)));
    ties = meets;
  }

  puts : (old new : State) (r : Result ℕ Error) → (IsTrue old.is_open → IsTabled old)
      → OnOk r (ExecutesInside 0 put_counter_text values old new r)
      → OnOk r (Puts counters values old new)
  puts =
      puts_table 3 counters refl (inr (inr (inr (inl refl)))) (key_index counters)
      (inr (inr (inr (inl refl)))) refl refl refl (λ e. omega arith) refl
      put_counter_text terms project 5 4 put_is put_plain values (λ olds new. refl)
      keyed.again keyed.unset
      (λ id met r. refl) (λ id met. refl) refl keyed.keys keyed.full keyed.ties

  pub turns : (old new : Trees) → Changes counters values old new
      → tables_content new ≡ with_rows a (with_counter_row k) (tables_content old)
  turns old new c =
      only_changed 6 old new c.others
      ∙ rows_turn a (tables_content old) (with_counter_row k) (λ r. r.counters)
      (λ r f. record r { counters = f }) (λ r. refl) (λ r. refl) (rows_in new)
      (λ x. at_each (same_name a x) _ _ _ (λ g. at_each (same_name a x) _ _ _ (λ y.
      put_tells counter_in_row counters values old new c k refl (counter_key x g y)
      (same_name a x && (nat_eq k.group g && nat_eq k.cycle y)) (text_number_number a x k.group g
      k.cycle y) ∙ apart_if (same_name a x) (nat_eq k.group g && nat_eq k.cycle y) _ _)))

  pub makes_counter : (old new : State) (r : Result ⊤ Error) → HasTables old
      → Attempts (HasRun put_counter_text values) old new r
      → Attempts (Makes (with_rows a (with_counter_row k))) old new r
  makes_counter =
      writes put_counter_text values (Puts counters values) (with_rows a (with_counter_row k)) puts
      (puts_make counters values (with_rows a (with_counter_row k)) turns
      (plain_beside counters values (omega arith) (omega arith) (omega arith))) values refl

  -- the parameters, as they are bound
  pub bound_counter : (v1 v2 v3 v4 : Value)
      → v1 ≡ Text a
      → v2 ≡ nat k.group
      → v3 ≡ nat k.cycle
      → v4 ≡ nat k.blocks
      → ◌≡◌ {A = Row} (map bound_value (v1 ∷ v2 ∷ v3 ∷ v4 ∷ [])) values
  bound_counter v1 v2 v3 v4 e1 e2 e3 e4 = rw (e1, e2, e3, e4) refl
