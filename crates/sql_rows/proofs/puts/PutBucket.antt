-- What the text of `put_bucket` does.
use Rattle.std.specs.Prelude.{codes, ⊤}
use Rattle.std.proofs.Common.{◌≡◌, inl, inr, ℕ, ℤ, ◌+◌, List, [], ◌∷◌, ◌++◌, map}
use Rattle.std.proofs.Common.{◌&&◌, Some, None, Option, Result, OnOk, IsTrue}
use Rattle.std.proofs.Common.{refl, sym, ap, ◌∙◌, arith, nat_eq}
use Rattle.std.specs.Ordering.{eq_by_cmp}
use Rattle.sqlite_value.specs.declared.value.Value.{Value}
use Rattle.sqlite_value.specs.declared.value.Value.TheVariants.{Null, Int, Text}
use Rattle.sqlite_value.specs.Order.{Row, row_cmp}
use Rattle.sqlite_value.specs.Keys.{plain}
use Rattle.sqlite_trees.specs.Tree.{Trees}
use Rattle.sqlite_sql.specs.Term.{Term, lit, col}
use Rattle.sqlite_schema.specs.declared.command.Source.TheVariants.{Values}
use Rattle.sqlite_schema.specs.declared.command.Conflict.TheVariants.{Abort}
use Rattle.sqlite_schema.specs.declared.command.Command.TheVariants.{InsertOr}
use Rattle.sqlite_schema.specs.Rules.{agree}
use Rattle.sqlite_rules.specs.Cast.{cast_row}
use Rattle.sqlite_rules.specs.Keys.{conflicts}
use Rattle.sqlite_tied.specs.Compute.{everything}
use Rattle.sqlite.specs.Values.{bound_value, or_null}
use Rattle.sqlite.specs.declared.error.Error.{Error}
use Rattle.sqlite.specs.Listing.{understood}
use Rattle.sqlite.specs.State.{State, ExecutesInside}
use Rattle.sqlite.proofs.Callers.{IsPlain, command_of}
use Rattle.buckets.specs.declared.kind.BucketKind.TheVariants.{Money}
use Rattle.buckets.specs.Row.{BucketRow}
use Rattle.sql_tables.specs.Keyed.{key_of, same_name}
use Rattle.sql_tables.specs.Schema.{buckets, our_schema, key_index}
use Rattle.sql_tables.specs.Statements.{Attempts, Changes, HasTables, IsTabled, Puts}
use Rattle.sql_tables.proofs.Casts.{cast_int, cast_null, cast_or_null}
use Rattle.sql_tables.proofs.Found.{put_tells, apart_if}
use Rattle.sql_tables.proofs.Keys.{text_number}
use Rattle.sql_tables.proofs.Steps.{or_false}
use Rattle.sql_tables.proofs.Tabled.{puts_table}
use Rattle.sql_tables.proofs.Ties.{agree_ties}
use Rattle.sql_tables.proofs.Upserts.{pick}
use Rattle.sql_rows.specs.Values.{nat, money_cells, bucket_values, bucket_key, bucket_in_row}
use Rattle.sql_rows.specs.Content.{with_rows, with_bucket, rows_in, tables_content}
use Rattle.sql_rows.specs.Makes.{HasRun, Makes}
use Rattle.sql_rows.proofs.writes.Keyed.{IsKeyed}
use Rattle.sql_rows.proofs.writes.Plains.{plain_beside}
use Rattle.sql_rows.proofs.writes.Stays.{only_changed, rows_turn, at_each}
use Rattle.sql_rows.proofs.writes.Writes.{writes, puts_make}

abbrev pub put_bucket_text : List ℕ
put_bucket_text =
    codes "INSERT INTO buckets VALUES (?1, ?2, ?3, ?4, ?5, ?6, ?7, ?8, ?9, ?10) "
    ++ codes "ON CONFLICT (account, number) DO UPDATE SET "
    ++ codes "account = excluded.account, number = excluded.number, starts = excluded.starts, "
    ++ codes "ends = excluded.ends, scope = excluded.scope, credited = excluded.credited, "
    ++ codes "available = excluded.available, reserved = excluded.reserved, "
    ++ codes "charged = excluded.charged, expired = excluded.expired"

abbrev terms : List Term
terms = lit Null ∷ col 0 0 ∷ col 0 1 ∷ col 0 2 ∷ col 0 3 ∷ col 0 4 ∷ col 0 5 ∷ col 0 6
    ∷ col 0 7 ∷ col 0 8 ∷
    col 0 9 ∷ []

abbrev project : List Term
project =
    col 1 0 ∷ col 1 0 ∷ col 0 12 ∷ col 0 13 ∷ col 0 14 ∷ col 0 15 ∷ col 0 16 ∷ col 0 17 ∷ col 0 18 ∷
    col 0 19 ∷ col 0 20 ∷ col 0 21 ∷ []

abbrev places : List ℕ
places = 1 ∷ 2 ∷ []

put_is : command_of (understood our_schema put_bucket_text)
    ≡ InsertOr 2 Abort (Values terms 11)
    (record {
      target = Some places;
      update = Some (record { lets = []; body = pick 4 10 project });
    } ∷ [])
unfolding understood everything
put_is = refl

put_plain : IsPlain (understood our_schema put_bucket_text)
unfolding understood everything
put_plain = (refl, refl)

pub bucket_told : (v : Value) (b : BucketRow) → b.kind ≡ Money →
    bucket_in_row (v ∷ money_cells b) ≡ b
bucket_told v b counts = go b.scope refl ∙ ap (λ k. record b { kind = k }) (sym counts)
  where
    go : (o : Option ℕ) → b.scope ≡ o → bucket_in_row (v ∷ money_cells b) ≡
        record b { kind = Money }
    go None e = rw e refl
    go (Some n) e = rw e refl

-- a bucket of money
module _ (a : List ℕ) (b : BucketRow) (counts : b.kind ≡ Money) where
  abbrev pub values : Row
  values = bucket_values a b

  again : (id : ℤ) → cast_row buckets (Int id ∷ values) ≡ Int id ∷ values
  again id = simp (cast_int, cast_or_null)

  unset : cast_row buckets (Null ∷ values) ≡ Null ∷ values
  unset = simp (cast_int, cast_or_null, cast_null)

  meets : (id : ℤ) (other : Row) →
      conflicts (Some places) our_schema.indexes buckets (Int id ∷ values) other
      ≡ eq_by_cmp row_cmp (key_of places other) (key_of places (Int id ∷ values))
  meets id other = or_false (agree plain places other places (Int id ∷ values))
      ∙ agree_ties places other (Int id ∷ values) (refl, (refl, tt))

  pub keyed : IsKeyed buckets values
  keyed = record {
    again = again;
    unset = unset;
    keys = λ v. refl;
    full = λ id. (refl, (refl, tt));
    ties = meets;
  }

  puts : (old new : State) (r : Result ℕ Error) → (IsTrue old.is_open → IsTabled old)
      → OnOk r (ExecutesInside 0 put_bucket_text values old new r)
      → OnOk r (Puts buckets values old new)
  puts =
      puts_table 2 buckets refl (inr (inr (inl refl))) (key_index buckets) (inr (inr (inl refl)))
      refl refl refl (λ e. omega arith) refl
      put_bucket_text terms project 11 10 put_is put_plain values (λ olds new. refl)
      keyed.again keyed.unset
      (λ id met r. refl) (λ id met. refl) refl keyed.keys keyed.full keyed.ties

  pub turns : (old new : Trees) → Changes buckets values old new
      → tables_content new ≡ with_rows a (with_bucket b) (tables_content old)
  turns old new c =
      only_changed 4 old new c.others
      ∙ rows_turn a (tables_content old) (with_bucket b) (λ r. r.buckets)
      (λ r f. record r { buckets = f }) (λ r. refl)
      (λ r. refl) (rows_in new) (λ x. at_each (same_name a x) _ _ _ (λ n.
      put_tells bucket_in_row buckets values old new c b (bucket_told (Text a) b counts)
      (bucket_key x n)
      (same_name a x && (nat_eq b.number n))
      (text_number a x b.number n) ∙ apart_if (same_name a x) (nat_eq b.number n) _ _))

  pub makes_bucket : (old new : State) (r : Result ⊤ Error) → HasTables old
      → Attempts (HasRun put_bucket_text values) old new r
      → Attempts (Makes (with_rows a (with_bucket b))) old new r
  makes_bucket =
      writes put_bucket_text values (Puts buckets values) (with_rows a (with_bucket b)) puts
      (puts_make buckets values (with_rows a (with_bucket b)) turns
      (plain_beside buckets values (omega arith) (omega arith) (omega arith))) values refl

  -- the parameters, as they are bound
  pub bound_bucket : (v1 v2 v3 v4 v5 v6 v7 v8 v9 v10 : Value)
      → v1 ≡ Text a
      → v2 ≡ nat b.number
      → v3 ≡ nat b.from
      → v4 ≡ nat b.until
      → bound_value v5 ≡ or_null nat b.scope
      → v6 ≡ nat b.credited
      → v7 ≡ nat b.available
      → v8 ≡ nat b.reserved
      → v9 ≡ nat b.charged
      → v10 ≡ nat b.expired
      → ◌≡◌ {A = Row}
      (map bound_value (v1 ∷ v2 ∷ v3 ∷ v4 ∷ v5 ∷ v6 ∷ v7 ∷ v8 ∷ v9 ∷ v10 ∷ [])) values
  bound_bucket v1 v2 v3 v4 v5 v6 v7 v8 v9 v10 e1 e2 e3 e4 e5 e6 e7 e8 e9 e10 = rw
      (e1, e2, e3, e4, e5, e6, e7, e8, e9, e10) refl
