-- What the text of `put_group` does.
use Rattle.std.specs.Prelude.{codes, is_some, ⊤}
use Rattle.std.proofs.Common.{◌≡◌, inl, inr, ℕ, ℤ, ◌+◌, List, [], ◌∷◌, ◌++◌, map}
use Rattle.std.proofs.Common.{◌&&◌, Some, None, Option, Result, OnOk, IsTrue}
use Rattle.std.proofs.Common.{refl, ◌∙◌, arith, nat_eq}
use Rattle.std.specs.Ordering.{eq_by_cmp}
use Rattle.sqlite_value.specs.declared.value.Value.{Value}
use Rattle.sqlite_value.specs.declared.value.Value.TheVariants.{Null, Int, Text}
use Rattle.sqlite_value.specs.Order.{Row, row_cmp}
use Rattle.sqlite_value.specs.Keys.{plain}
use Rattle.sqlite_trees.specs.Tree.{Trees}
use Rattle.sqlite_sql.specs.Term.{Term, lit, col}
use Rattle.sqlite_schema.specs.declared.command.Source.TheVariants.{Values}
use Rattle.sqlite_schema.specs.declared.command.Conflict.TheVariants.{Abort}
use Rattle.sqlite_schema.specs.declared.command.Command.TheVariants.{InsertOr}
use Rattle.sqlite_schema.specs.Rules.{agree}
use Rattle.sqlite_rules.specs.Cast.{cast_row}
use Rattle.sqlite_rules.specs.Keys.{conflicts}
use Rattle.sqlite_tied.specs.Compute.{everything}
use Rattle.sqlite.specs.Values.{bound_value, or_null}
use Rattle.sqlite.specs.declared.error.Error.{Error}
use Rattle.sqlite.specs.Listing.{understood}
use Rattle.sqlite.specs.State.{State, ExecutesInside}
use Rattle.sqlite.proofs.Callers.{IsPlain, command_of}
use Rattle.sql_tables.specs.Keyed.{key_of, same_name}
use Rattle.sql_tables.specs.Schema.{session_groups, our_schema, key_index}
use Rattle.sql_tables.specs.Statements.{Attempts, Changes, HasTables, IsTabled, Puts}
use Rattle.sql_tables.proofs.Casts.{cast_int, cast_null, cast_or_text}
use Rattle.sql_tables.proofs.Found.{put_tells, apart_if}
use Rattle.sql_tables.proofs.Keys.{text_text_number}
use Rattle.sql_tables.proofs.Steps.{or_false}
use Rattle.sql_tables.proofs.Tabled.{puts_table}
use Rattle.sql_tables.proofs.Ties.{agree_ties}
use Rattle.sql_tables.proofs.Upserts.{pick}
use Rattle.sql_rows.specs.Values.{nat, Group, PeriodNames, group_cells, group_values, group_key}
use Rattle.sql_rows.specs.Values.{group_in_row, flag_number}
use Rattle.sql_rows.specs.Content.{with_rows, with_group_row, rows_in, tables_content}
use Rattle.sql_rows.specs.Makes.{HasRun, Makes}
use Rattle.sql_rows.proofs.writes.Keyed.{IsKeyed}
use Rattle.sql_rows.proofs.writes.Plains.{plain_group}
use Rattle.sql_rows.proofs.writes.Stays.{only_changed, rows_turn, at_each}
use Rattle.sql_rows.proofs.writes.Writes.{writes, puts_make}

abbrev pub put_group_text : List ℕ
put_group_text =
    codes "INSERT INTO session_groups VALUES (?1, ?2, ?3, ?4, ?5, ?6, ?7) "
    ++ codes "ON CONFLICT (account, session, rating_group) DO UPDATE SET "
    ++ codes "account = excluded.account, session = excluded.session, "
    ++ codes "rating_group = excluded.rating_group, used = excluded.used, "
    ++ codes "reserved = excluded.reserved, period_before = excluded.period_before, "
    ++ codes "period_after = excluded.period_after"

abbrev pub terms : List Term
terms = lit Null ∷ col 0 0 ∷ col 0 1 ∷ col 0 2 ∷ col 0 3 ∷ col 0 4 ∷ col 0 5 ∷ col 0 6 ∷ []

abbrev project : List Term
project = col 1 0 ∷ col 1 0 ∷ col 0 9 ∷ col 0 10 ∷ col 0 11 ∷ col 0 12 ∷ col 0 13 ∷ col 0 14
    ∷ col 0 15 ∷ []

abbrev places : List ℕ
places = 1 ∷ 2 ∷ 3 ∷ []

put_is : command_of (understood our_schema put_group_text)
    ≡ InsertOr 5 Abort (Values terms 8)
    (record {
      target = Some places;
      update = Some (record { lets = []; body = pick 10 7 project });
    } ∷ [])
unfolding understood everything
put_is = refl

put_plain : IsPlain (understood our_schema put_group_text)
unfolding understood everything
put_plain = (refl, refl)

pub group_told : (v w : Value) (g : ℕ) (row : Group) → group_in_row (v ∷ w ∷ group_cells g row) ≡
    row
group_told v w g row = go row.periods refl
  where
    go : (o : Option PeriodNames) → row.periods ≡ o → group_in_row (v ∷ w ∷ group_cells g row) ≡ row
    go None e = rw e refl
    go (Some p) e = rw e refl

module _ (a s : List ℕ) (g : ℕ) (row : Group) where
  abbrev pub values : Row
  values = group_values a s g row

  again : (id : ℤ) → cast_row session_groups (Int id ∷ values) ≡ Int id ∷ values
  again id = simp (cast_int, cast_or_text)

  unset : cast_row session_groups (Null ∷ values) ≡ Null ∷ values
  unset = simp (cast_int, cast_or_text, cast_null)

  meets : (id : ℤ) (other : Row) →
      conflicts (Some places) our_schema.indexes session_groups (Int id ∷ values) other
      ≡ eq_by_cmp row_cmp (key_of places other) (key_of places (Int id ∷ values))
  meets id other = or_false (agree plain places other places (Int id ∷ values))
      ∙ agree_ties places other (Int id ∷ values) (refl, (refl, (refl, tt)))

  pub keyed : IsKeyed session_groups values
  keyed = record {
    again = again;
    unset = unset;
    keys = λ v. refl;
    full = λ id. (refl, (refl, (refl, tt)));
    ties = meets;
  }

  puts : (old new : State) (r : Result ℕ Error) → (IsTrue old.is_open → IsTabled old)
      → OnOk r (ExecutesInside 0 put_group_text values old new r)
      → OnOk r (Puts session_groups values old new)
  puts =
      puts_table 5 session_groups refl (inr (inr (inr (inr (inr (inl refl))))))
      (key_index session_groups) (inr (inr (inr (inr (inr (inl refl))))))
      refl refl refl (λ e. omega arith) refl
      put_group_text terms project 8 7 put_is put_plain values (λ olds new. refl)
      keyed.again keyed.unset
      (λ id met r. refl) (λ id met. refl) refl keyed.keys keyed.full keyed.ties

  pub turns : (old new : Trees) → Changes session_groups values old new
      → tables_content new ≡ with_rows a (with_group_row s g row) (tables_content old)
  turns old new c =
      only_changed 10 old new c.others
      ∙ rows_turn a (tables_content old) (with_group_row s g row) (λ r. r.groups)
      (λ r f. record r { groups = f }) (λ r. refl) (λ r. refl) (rows_in new)
      (λ x. at_each (same_name a x) _ _ _ (λ t. at_each (same_name a x) _ _ _ (λ h.
      put_tells group_in_row session_groups values old new c row
      (group_told (Text a) (Text s) g row)
      (group_key x t h) (same_name a x && (same_name s t && nat_eq g h))
      (text_text_number a x s t g h) ∙ apart_if (same_name a x) (same_name s t && nat_eq g h) _ _)))

  -- rule: statements-of-tables.with-session-row
  pub makes_group : (params : Row) → params ≡ values
      → (old new : State) (r : Result ⊤ Error) → HasTables old
      → Attempts (HasRun put_group_text params) old new r
      → Attempts (Makes (with_rows a (with_group_row s g row))) old new r
  makes_group = writes put_group_text values (Puts session_groups values)
      (with_rows a (with_group_row s g row)) puts
      (puts_make session_groups values (with_rows a (with_group_row s g row)) turns
      (plain_group a s g row))

  -- the parameters, as they are bound
  pub bound_group : (v1 v2 v3 v4 v5 v6 v7 : Value)
      → v1 ≡ Text a
      → v2 ≡ Text s
      → v3 ≡ nat g
      → v4 ≡ nat row.used
      → v5 ≡ nat (flag_number (is_some row.periods))
      → bound_value v6 ≡ or_null (λ p. Text p.before) row.periods
      → bound_value v7 ≡ or_null (λ p. Text p.after) row.periods
      → ◌≡◌ {A = Row} (map bound_value (v1 ∷ v2 ∷ v3 ∷ v4 ∷ v5 ∷ v6 ∷ v7 ∷ [])) values
  bound_group v1 v2 v3 v4 v5 v6 v7 e1 e2 e3 e4 e5 e6 e7 = rw (e1, e2, e3, e4, e5, e6, e7) refl
