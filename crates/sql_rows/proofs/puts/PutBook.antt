-- What the text of `put_book` does.
use Rattle.std.specs.Prelude.{codes, ⊤}
use Rattle.std.proofs.Common.{◌≡◌, inl, inr, ℕ, ℤ, List, [], ◌∷◌, ◌++◌, map, Some, Result}
use Rattle.std.proofs.Common.{OnOk, IsTrue, refl, ◌∙◌, arith, nat_eq}
use Rattle.std.specs.Ordering.{eq_by_cmp}
use Rattle.sqlite_value.specs.declared.value.Value.{Value}
use Rattle.sqlite_value.specs.declared.value.Value.TheVariants.{Null, Int, Text}
use Rattle.sqlite_value.specs.Order.{Row, row_cmp}
use Rattle.sqlite_value.specs.Keys.{plain}
use Rattle.sqlite_trees.specs.Tree.{Trees}
use Rattle.sqlite_sql.specs.Term.{Term, lit, col}
use Rattle.sqlite_schema.specs.declared.command.Source.TheVariants.{Values}
use Rattle.sqlite_schema.specs.declared.command.Conflict.TheVariants.{Abort}
use Rattle.sqlite_schema.specs.declared.command.Command.TheVariants.{InsertOr}
use Rattle.sqlite_schema.specs.Rules.{agree}
use Rattle.sqlite_rules.specs.Cast.{cast_row}
use Rattle.sqlite_rules.specs.Keys.{conflicts}
use Rattle.sqlite_tied.specs.Compute.{everything}
use Rattle.sqlite.specs.Values.{bound_value}
use Rattle.sqlite.specs.declared.error.Error.{Error}
use Rattle.sqlite.specs.Listing.{understood}
use Rattle.sqlite.specs.State.{State, ExecutesInside}
use Rattle.sqlite.proofs.Callers.{IsPlain, command_of}
use Rattle.sql_tables.specs.Keyed.{key_of}
use Rattle.sql_tables.specs.Schema.{books, our_schema, key_index}
use Rattle.sql_tables.specs.Statements.{Attempts, Changes, HasTables, IsTabled, Puts}
use Rattle.sql_tables.proofs.Casts.{cast_int, cast_null}
use Rattle.sql_tables.proofs.Found.{put_tells}
use Rattle.sql_tables.proofs.Keys.{number_last}
use Rattle.sql_tables.proofs.Steps.{or_false}
use Rattle.sql_tables.proofs.Tabled.{puts_table}
use Rattle.sql_tables.proofs.Ties.{agree_ties}
use Rattle.sql_tables.proofs.Upserts.{pick}
use Rattle.sql_rows.specs.Values.{nat, BookRow, book_values, book_key, book_in_row}
use Rattle.sql_rows.specs.Content.{with_book_row, tables_content}
use Rattle.sql_rows.specs.Makes.{HasRun, Makes}
use Rattle.sql_rows.proofs.writes.Plains.{plain_beside}
use Rattle.sql_rows.proofs.writes.Stays.{only_changed}
use Rattle.sql_rows.proofs.writes.Writes.{writes, puts_make}

abbrev pub put_book_text : List ℕ
put_book_text =
    codes "INSERT INTO books VALUES (?1, ?2, ?3) "
    ++ codes "ON CONFLICT (number) DO UPDATE SET "
    ++ codes "number = excluded.number, starts = excluded.starts, content = excluded.content"

abbrev terms : List Term
terms = lit Null ∷ col 0 0 ∷ col 0 1 ∷ col 0 2 ∷ []

abbrev project : List Term
project = col 1 0 ∷ col 1 0 ∷ col 0 5 ∷ col 0 6 ∷ col 0 7 ∷ []

abbrev places : List ℕ
places = 1 ∷ []

put_is : command_of (understood our_schema put_book_text)
    ≡ InsertOr 10 Abort (Values terms 4)
    (record {
      target = Some places;
      update = Some (record { lets = []; body = pick 22 3 project });
    } ∷ [])
unfolding understood everything
put_is = refl

put_plain : IsPlain (understood our_schema put_book_text)
unfolding understood everything
put_plain = (refl, refl)

module _ (n : ℕ) (x : BookRow) where
  abbrev values : Row
  values = book_values n x

  again : (id : ℤ) → cast_row books (Int id ∷ values) ≡ Int id ∷ values
  again id = simp (cast_int)

  unset : cast_row books (Null ∷ values) ≡ Null ∷ values
  unset = simp (cast_int, cast_null)

  meets : (id : ℤ) (other : Row) →
      conflicts (Some places) our_schema.indexes books (Int id ∷ values) other
      ≡ eq_by_cmp row_cmp (key_of places other) (key_of places (Int id ∷ values))
  meets id other = or_false (agree plain places other places (Int id ∷ values))
      ∙ agree_ties places other (Int id ∷ values) (refl, tt)

  puts : (old new : State) (r : Result ℕ Error) → (IsTrue old.is_open → IsTabled old)
      → OnOk r (ExecutesInside 0 put_book_text values old new r)
      → OnOk r (Puts books values old new)
  puts =
      puts_table 10 books refl
      (inr (inr (inr (inr (inr (inr (inr (inr (inr (inr (inl refl))))))))))) (key_index books)
      (inr (inr (inr (inr (inr (inr (inr (inr (inr (inr (inr (inr (inl refl)))))))))))))
      refl refl refl (λ e. omega arith) refl
      put_book_text terms project 4 3 put_is put_plain values (λ olds new. refl) again unset
      (λ id met r. refl) (λ id met. refl) refl (λ v. refl) (λ id. (refl, tt)) meets

  turns : (old new : Trees) → Changes books values old new
      → tables_content new ≡ with_book_row n x (tables_content old)
  turns old new c = only_changed 22 old new c.others ∙ (λ i. record (tables_content old) {
    books = λ m.
        put_tells book_in_row books values old new c x refl (book_key m) (nat_eq n m)
        (number_last n m) i;
  })

  -- rule: book-rows
  pub makes_book : (params : Row) → params ≡ values
      → (old new : State) (r : Result ⊤ Error) → HasTables old
      → Attempts (HasRun put_book_text params) old new r
      → Attempts (Makes (with_book_row n x)) old new r
  makes_book =
      writes put_book_text values (Puts books values) (with_book_row n x) puts
      (puts_make books values (with_book_row n x) turns
      (plain_beside books values (omega arith) (omega arith) (omega arith)))

  -- the parameters, as they are bound
  pub bound_book : (v1 v2 v3 : Value)
      → v1 ≡ nat n
      → v2 ≡ nat x.starts
      → v3 ≡ Text x.content
      → ◌≡◌ {A = Row} (map bound_value (v1 ∷ v2 ∷ v3 ∷ [])) values
  bound_book v1 v2 v3 e1 e2 e3 = rw (e1, e2, e3) refl
