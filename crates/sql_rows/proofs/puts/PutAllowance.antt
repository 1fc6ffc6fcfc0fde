-- What the text of `put_allowance` does.
use Rattle.std.specs.Prelude.{codes, if◌then◌else◌, is_some, ⊤}
use Rattle.std.proofs.Common.{◌≡◌, inl, inr, ℕ, ℤ, List, [], ◌∷◌, ◌++◌, map, Bool, true, false}
use Rattle.std.proofs.Common.{◌&&◌, Option, Some, Result, OnOk, IsTrue, refl, ap, ◌∙◌, arith}
use Rattle.std.proofs.Common.{nat_eq}
use Rattle.std.specs.Ordering.{eq_by_cmp}
use Rattle.sqlite_value.specs.declared.value.Value.{Value}
use Rattle.sqlite_value.specs.declared.value.Value.TheVariants.{Null, Int, Text}
use Rattle.sqlite_value.specs.Order.{Row, row_cmp}
use Rattle.sqlite_value.specs.Keys.{plain}
use Rattle.sqlite_trees.specs.Tree.{Trees}
use Rattle.sqlite_sql.specs.Term.{Term, lit, col}
use Rattle.sqlite_schema.specs.declared.command.Source.TheVariants.{Values}
use Rattle.sqlite_schema.specs.declared.command.Conflict.TheVariants.{Abort}
use Rattle.sqlite_schema.specs.declared.command.Command.TheVariants.{InsertOr}
use Rattle.sqlite_schema.specs.Rules.{agree}
use Rattle.sqlite_rules.specs.Cast.{cast_row}
use Rattle.sqlite_rules.specs.Keys.{conflicts}
use Rattle.sqlite_tied.specs.Compute.{everything}
use Rattle.sqlite.specs.Values.{bound_value}
use Rattle.sqlite.specs.declared.error.Error.{Error}
use Rattle.sqlite.specs.Listing.{understood}
use Rattle.sqlite.specs.State.{State, ExecutesInside}
use Rattle.sqlite.proofs.Callers.{IsPlain, command_of}
use Rattle.sql_tables.specs.Keyed.{key_of, same_name}
use Rattle.sql_tables.specs.Schema.{allowance_buckets, our_schema, key_index}
use Rattle.sql_tables.specs.Statements.{Attempts, Changes, HasTables, IsTabled, Puts}
use Rattle.sql_tables.proofs.Casts.{cast_int, cast_null}
use Rattle.sql_tables.proofs.Found.{put_tells, apart_if}
use Rattle.sql_tables.proofs.Keys.{text_number}
use Rattle.sql_tables.proofs.Steps.{or_false}
use Rattle.sql_tables.proofs.Tabled.{puts_table}
use Rattle.sql_tables.proofs.Ties.{agree_ties}
use Rattle.sql_tables.proofs.Upserts.{pick}
use Rattle.sql_rows.specs.Values.{nat, bucket_key, allowance_in}
use Rattle.sql_rows.specs.Content.{with_rows, with_allowance, rows_in, tables_content}
use Rattle.sql_rows.specs.Makes.{HasRun, Makes}
use Rattle.sql_rows.proofs.writes.Plains.{plain_beside}
use Rattle.sql_rows.proofs.writes.Stays.{only_changed, rows_turn, at_each}
use Rattle.sql_rows.proofs.writes.Writes.{writes, puts_make}

abbrev pub put_allowance_text : List ℕ
put_allowance_text =
    codes "INSERT INTO allowance_buckets VALUES (?1, ?2) "
    ++ codes "ON CONFLICT (account, number) DO UPDATE SET "
    ++ codes "account = excluded.account, number = excluded.number"

abbrev terms : List Term
terms = lit Null ∷ col 0 0 ∷ col 0 1 ∷ []

abbrev project : List Term
project = col 1 0 ∷ col 1 0 ∷ col 0 4 ∷ col 0 5 ∷ []

abbrev places : List ℕ
places = 1 ∷ 2 ∷ []

put_is : command_of (understood our_schema put_allowance_text)
    ≡ InsertOr 12 Abort (Values terms 3)
    (record {
      target = Some places;
      update = Some (record { lets = []; body = pick 27 2 project });
    } ∷ [])
unfolding understood everything
put_is = refl

put_plain : IsPlain (understood our_schema put_allowance_text)
unfolding understood everything
put_plain = (refl, refl)

some_if : {A : Type 0} (p : Bool) (x : A) (o : Option A)
    → is_some (if p then Some x else o) ≡ (if p then true else is_some o)
some_if true x o = refl
some_if false x o = refl

module _ (a : List ℕ) (n : ℕ) where
  abbrev values : Row
  values = bucket_key a n

  again : (id : ℤ) → cast_row allowance_buckets (Int id ∷ values) ≡ Int id ∷ values
  again id = simp (cast_int)

  unset : cast_row allowance_buckets (Null ∷ values) ≡ Null ∷ values
  unset = simp (cast_int, cast_null)

  meets : (id : ℤ) (other : Row) →
      conflicts (Some places) our_schema.indexes allowance_buckets (Int id ∷ values) other
      ≡ eq_by_cmp row_cmp (key_of places other) (key_of places (Int id ∷ values))
  meets id other = or_false (agree plain places other places (Int id ∷ values))
      ∙ agree_ties places other (Int id ∷ values) (refl, (refl, tt))

  puts : (old new : State) (r : Result ℕ Error) → (IsTrue old.is_open → IsTabled old)
      → OnOk r (ExecutesInside 0 put_allowance_text values old new r)
      → OnOk r (Puts allowance_buckets values old new)
  puts =
      puts_table 12 allowance_buckets refl
      (inr (inr (inr (inr (inr (inr (inr (inr (inr (inr (inr (inr (inl refl)))))))))))))
      (key_index allowance_buckets)
      (inr (inr (inr (inr (inr (inr (inr (inr (inr
      (inr (inr (inr (inr (inr (inr (inl refl)))))))))))))))) refl refl refl (λ e. omega arith) refl
      put_allowance_text terms project 3 2 put_is put_plain values (λ olds new. refl) again unset
      (λ id met r. refl) (λ id met. refl) refl (λ v. refl) (λ id. (refl, (refl, tt))) meets

  turns : (old new : Trees) → Changes allowance_buckets values old new
      → tables_content new ≡ with_rows a (with_allowance n) (tables_content old)
  turns old new c =
      only_changed 27 old new c.others
      ∙ rows_turn a (tables_content old) (with_allowance n) (λ r. r.allowances)
      (λ r f. record r { allowances = f }) (λ r. refl)
      (λ r. refl) (rows_in new) (λ x. at_each (same_name a x) _ _ _ (λ m.
      ap is_some (put_tells allowance_in allowance_buckets values old new c n refl (bucket_key x m)
      (same_name a x && nat_eq n m) (text_number a x n m))
      ∙ some_if (same_name a x && nat_eq n m) n _
      ∙ apart_if (same_name a x) (nat_eq n m) _ _))

  pub makes_allowance : (params : Row) → params ≡ values
      → (old new : State) (r : Result ⊤ Error) → HasTables old
      → Attempts (HasRun put_allowance_text params) old new r
      → Attempts (Makes (with_rows a (with_allowance n))) old new r
  makes_allowance =
      writes put_allowance_text values (Puts allowance_buckets values)
      (with_rows a (with_allowance n)) puts
      (puts_make allowance_buckets values (with_rows a (with_allowance n)) turns
      (plain_beside allowance_buckets values (omega arith) (omega arith) (omega arith)))

  -- the parameters, as they are bound
  pub bound_allowance : (v1 v2 : Value)
      → v1 ≡ Text a
      → v2 ≡ nat n
      → ◌≡◌ {A = Row} (map bound_value (v1 ∷ v2 ∷ [])) values
  bound_allowance v1 v2 e1 e2 = rw (e1, e2) refl
