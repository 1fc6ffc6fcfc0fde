-- What the text of `put_answer` does.
use Rattle.std.specs.Prelude.{codes, ⊤}
use Rattle.std.proofs.Common.{◌≡◌, inl, inr, ℕ, ℤ, ◌+◌, List, [], ◌∷◌, ◌++◌, map}
use Rattle.std.proofs.Common.{◌&&◌, Some, Result, OnOk, IsTrue, refl, ◌∙◌, arith, nat_eq}
use Rattle.std.specs.Ordering.{eq_by_cmp}
use Rattle.sqlite_value.specs.declared.value.Value.{Value}
use Rattle.sqlite_value.specs.declared.value.Value.TheVariants.{Null, Int, Text}
use Rattle.sqlite_value.specs.Order.{Row, row_cmp}
use Rattle.sqlite_value.specs.Keys.{plain}
use Rattle.sqlite_trees.specs.Tree.{Trees}
use Rattle.sqlite_sql.specs.Term.{Term, lit, col}
use Rattle.sqlite_schema.specs.declared.command.Source.TheVariants.{Values}
use Rattle.sqlite_schema.specs.declared.command.Conflict.TheVariants.{Abort}
use Rattle.sqlite_schema.specs.declared.command.Command.TheVariants.{InsertOr}
use Rattle.sqlite_schema.specs.Rules.{agree}
use Rattle.sqlite_rules.specs.Cast.{cast_row}
use Rattle.sqlite_rules.specs.Keys.{conflicts}
use Rattle.sqlite_tied.specs.Compute.{everything}
use Rattle.sqlite.specs.Values.{bound_value}
use Rattle.sqlite.specs.declared.error.Error.{Error}
use Rattle.sqlite.specs.Listing.{understood}
use Rattle.sqlite.specs.State.{State, ExecutesInside}
use Rattle.sqlite.proofs.Callers.{IsPlain, command_of}
use Rattle.sql_tables.specs.Keyed.{key_of, same_name}
use Rattle.sql_tables.specs.Schema.{answers, our_schema, key_index}
use Rattle.sql_tables.specs.Statements.{Attempts, Changes, HasTables, IsTabled, Puts}
use Rattle.sql_tables.proofs.Casts.{cast_int, cast_null}
use Rattle.sql_tables.proofs.Found.{put_tells, apart_if}
use Rattle.sql_tables.proofs.Keys.{text_number_text_number}
use Rattle.sql_tables.proofs.Steps.{or_false}
use Rattle.sql_tables.proofs.Tabled.{puts_table}
use Rattle.sql_tables.proofs.Ties.{agree_ties}
use Rattle.sql_tables.proofs.Upserts.{pick}
use Rattle.sql_rows.specs.Values.{nat, Kept, answer_values, answer_key, answer_in_row}
use Rattle.sql_rows.specs.Content.{with_rows, with_answer, rows_in, tables_content}
use Rattle.sql_rows.specs.Makes.{HasRun, Makes}
use Rattle.sql_rows.proofs.writes.Plains.{plain_beside}
use Rattle.sql_rows.proofs.writes.Stays.{only_changed, rows_turn, at_each}
use Rattle.sql_rows.proofs.writes.Writes.{writes, puts_make}

abbrev pub put_answer_text : List ℕ
put_answer_text =
    codes "INSERT INTO answers VALUES (?1, ?2, ?3, ?4, ?5, ?6) "
    ++ codes "ON CONFLICT (account, kind, name, number) DO UPDATE SET "
    ++ codes "account = excluded.account, kind = excluded.kind, name = excluded.name, "
    ++ codes "number = excluded.number, content = excluded.content, answer = excluded.answer"

abbrev terms : List Term
terms = lit Null ∷ col 0 0 ∷ col 0 1 ∷ col 0 2 ∷ col 0 3 ∷ col 0 4 ∷ col 0 5 ∷ []

abbrev project : List Term
project = col 1 0 ∷ col 1 0 ∷ col 0 8 ∷ col 0 9 ∷ col 0 10 ∷ col 0 11 ∷ col 0 12 ∷ col 0 13 ∷ []

abbrev places : List ℕ
places = 1 ∷ 2 ∷ 3 ∷ 4 ∷ []

put_is : command_of (understood our_schema put_answer_text)
    ≡ InsertOr 7 Abort (Values terms 7)
    (record {
      target = Some places;
      update = Some (record { lets = []; body = pick 14 6 project });
    } ∷ [])
unfolding understood everything
put_is = refl

put_plain : IsPlain (understood our_schema put_answer_text)
unfolding understood everything
put_plain = (refl, refl)

module _ (a : List ℕ) (kind : ℕ) (name : List ℕ) (number : ℕ) (k : Kept) where
  abbrev values : Row
  values = answer_values a kind name number k

  again : (id : ℤ) → cast_row answers (Int id ∷ values) ≡ Int id ∷ values
  again id = simp (cast_int)

  unset : cast_row answers (Null ∷ values) ≡ Null ∷ values
  unset = simp (cast_int, cast_null)

  meets : (id : ℤ) (other : Row) →
      conflicts (Some places) our_schema.indexes answers (Int id ∷ values) other
      ≡ eq_by_cmp row_cmp (key_of places other) (key_of places (Int id ∷ values))
  meets id other = or_false (agree plain places other places (Int id ∷ values))
      ∙ agree_ties places other (Int id ∷ values) (refl, (refl, (refl, (refl, tt))))

  puts : (old new : State) (r : Result ℕ Error) → (IsTrue old.is_open → IsTabled old)
      → OnOk r (ExecutesInside 0 put_answer_text values old new r)
      → OnOk r (Puts answers values old new)
  puts =
      puts_table 7 answers refl (inr (inr (inr (inr (inr (inr (inr (inl refl))))))))
      (key_index answers) (inr (inr (inr (inr (inr (inr (inr (inl refl))))))))
      refl refl refl (λ e. omega arith) refl
      put_answer_text terms project 7 6 put_is put_plain values (λ olds new. refl) again unset
      (λ id met r. refl) (λ id met. refl) refl (λ v. refl)
      (λ id. (refl, (refl, (refl, (refl, tt))))) meets

  turns : (old new : Trees) → Changes answers values old new
      → tables_content new ≡ with_rows a (with_answer kind name number k) (tables_content old)
  turns old new c =
      only_changed 14 old new c.others
      ∙ rows_turn a (tables_content old) (with_answer kind name number k) (λ r. r.answers)
      (λ r f. record r { answers = f }) (λ r. refl)
      (λ r. refl) (rows_in new) (λ x. at_each (same_name a x) _ _ _
      (λ l. at_each (same_name a x) _ _ _ (λ t. at_each (same_name a x) _ _ _ (λ m.
      put_tells answer_in_row answers values old new c k refl (answer_key x l t m)
      (same_name a x && (nat_eq kind l && (same_name name t && nat_eq number m)))
      (text_number_text_number a x kind l name t number m)
      ∙ apart_if (same_name a x) (nat_eq kind l && (same_name name t && nat_eq number m)) _ _))))

  -- rule: answer-rows
  pub makes_answer : (params : Row) → params ≡ values
      → (old new : State) (r : Result ⊤ Error) → HasTables old
      → Attempts (HasRun put_answer_text params) old new r
      → Attempts (Makes (with_rows a (with_answer kind name number k))) old new r
  makes_answer = writes put_answer_text values (Puts answers values)
      (with_rows a (with_answer kind name number k)) puts
      (puts_make answers values (with_rows a (with_answer kind name number k)) turns
      (plain_beside answers values (omega arith) (omega arith) (omega arith)))

  -- the parameters, as they are bound
  pub bound_answer : (v1 v2 v3 v4 v5 v6 : Value)
      → v1 ≡ Text a
      → v2 ≡ nat kind
      → v3 ≡ Text name
      → v4 ≡ nat number
      → v5 ≡ Text k.content
      → v6 ≡ Text k.answer
      → ◌≡◌ {A = Row} (map bound_value (v1 ∷ v2 ∷ v3 ∷ v4 ∷ v5 ∷ v6 ∷ [])) values
  bound_answer v1 v2 v3 v4 v5 v6 e1 e2 e3 e4 e5 e6 = rw (e1, e2, e3, e4, e5, e6) refl
