-- What the text of `put_grant_book` does.
use Rattle.std.specs.Prelude.{codes, ⊤}
use Rattle.std.proofs.Common.{◌≡◌, inl, inr, ℕ, ℤ, List, [], ◌∷◌, ◌++◌, map, ◌&&◌, Some, Result}
use Rattle.std.proofs.Common.{OnOk, IsTrue, refl, ◌∙◌, arith, nat_eq}
use Rattle.std.specs.Ordering.{eq_by_cmp}
use Rattle.sqlite_value.specs.declared.value.Value.{Value}
use Rattle.sqlite_value.specs.declared.value.Value.TheVariants.{Null, Int, Text}
use Rattle.sqlite_value.specs.Order.{Row, row_cmp}
use Rattle.sqlite_value.specs.Keys.{plain}
use Rattle.sqlite_trees.specs.Tree.{Trees}
use Rattle.sqlite_sql.specs.Term.{Term, lit, col}
use Rattle.sqlite_schema.specs.declared.command.Source.TheVariants.{Values}
use Rattle.sqlite_schema.specs.declared.command.Conflict.TheVariants.{Abort}
use Rattle.sqlite_schema.specs.declared.command.Command.TheVariants.{InsertOr}
use Rattle.sqlite_schema.specs.Rules.{agree}
use Rattle.sqlite_rules.specs.Cast.{cast_row}
use Rattle.sqlite_rules.specs.Keys.{conflicts}
use Rattle.sqlite_tied.specs.Compute.{everything}
use Rattle.sqlite.specs.Values.{bound_value}
use Rattle.sqlite.specs.declared.error.Error.{Error}
use Rattle.sqlite.specs.Listing.{understood}
use Rattle.sqlite.specs.State.{State, ExecutesInside}
use Rattle.sqlite.proofs.Callers.{IsPlain, command_of}
use Rattle.sql_tables.specs.Keyed.{key_of, same_name}
use Rattle.sql_tables.specs.Schema.{grant_books, our_schema, key_index}
use Rattle.sql_tables.specs.Statements.{Attempts, Changes, HasTables, IsTabled, Puts}
use Rattle.sql_tables.proofs.Casts.{cast_int, cast_null}
use Rattle.sql_tables.proofs.Found.{put_tells, apart_if}
use Rattle.sql_tables.proofs.Keys.{text_text_number}
use Rattle.sql_tables.proofs.Steps.{or_false}
use Rattle.sql_tables.proofs.Tabled.{puts_table}
use Rattle.sql_tables.proofs.Ties.{agree_ties}
use Rattle.sql_tables.proofs.Upserts.{pick}
use Rattle.sql_rows.specs.Values.{nat, grant_book_values, grant_book_in, group_key}
use Rattle.sql_rows.specs.Content.{with_rows, with_grant_book, rows_in, tables_content}
use Rattle.sql_rows.specs.Makes.{HasRun, Makes}
use Rattle.sql_rows.proofs.writes.Plains.{plain_beside}
use Rattle.sql_rows.proofs.writes.Stays.{only_changed, rows_turn, at_each}
use Rattle.sql_rows.proofs.writes.Writes.{writes, puts_make}

abbrev pub put_grant_book_text : List ℕ
put_grant_book_text =
    codes "INSERT INTO grant_books VALUES (?1, ?2, ?3, ?4) "
    ++ codes "ON CONFLICT (account, session, rating_group) DO UPDATE SET "
    ++ codes "account = excluded.account, session = excluded.session, "
    ++ codes "rating_group = excluded.rating_group, book = excluded.book"

abbrev terms : List Term
terms = lit Null ∷ col 0 0 ∷ col 0 1 ∷ col 0 2 ∷ col 0 3 ∷ []

abbrev project : List Term
project = col 1 0 ∷ col 1 0 ∷ col 0 6 ∷ col 0 7 ∷ col 0 8 ∷ col 0 9 ∷ []

abbrev places : List ℕ
places = 1 ∷ 2 ∷ 3 ∷ []

put_is : command_of (understood our_schema put_grant_book_text)
    ≡ InsertOr 11 Abort (Values terms 5)
    (record {
      target = Some places;
      update = Some (record { lets = []; body = pick 24 4 project });
    } ∷ [])
unfolding understood everything
put_is = refl

put_plain : IsPlain (understood our_schema put_grant_book_text)
unfolding understood everything
put_plain = (refl, refl)

module _ (a s : List ℕ) (g n : ℕ) where
  abbrev values : Row
  values = grant_book_values a s g n

  again : (id : ℤ) → cast_row grant_books (Int id ∷ values) ≡ Int id ∷ values
  again id = simp (cast_int)

  unset : cast_row grant_books (Null ∷ values) ≡ Null ∷ values
  unset = simp (cast_int, cast_null)

  meets : (id : ℤ) (other : Row) →
      conflicts (Some places) our_schema.indexes grant_books (Int id ∷ values) other
      ≡ eq_by_cmp row_cmp (key_of places other) (key_of places (Int id ∷ values))
  meets id other = or_false (agree plain places other places (Int id ∷ values))
      ∙ agree_ties places other (Int id ∷ values) (refl, (refl, (refl, tt)))

  puts : (old new : State) (r : Result ℕ Error) → (IsTrue old.is_open → IsTabled old)
      → OnOk r (ExecutesInside 0 put_grant_book_text values old new r)
      → OnOk r (Puts grant_books values old new)
  puts =
      puts_table 11 grant_books refl
      (inr (inr (inr (inr (inr (inr (inr (inr (inr (inr (inr (inl refl))))))))))))
      (key_index grant_books)
      (inr (inr (inr (inr (inr (inr (inr (inr (inr (inr (inr (inr (inr (inl refl))))))))))))))
      refl refl refl (λ e. omega arith) refl
      put_grant_book_text terms project 5 4 put_is put_plain values (λ olds new. refl) again unset
      (λ id met r. refl) (λ id met. refl) refl (λ v. refl) (λ id. (refl, (refl, (refl, tt)))) meets

  turns : (old new : Trees) → Changes grant_books values old new
      → tables_content new ≡ with_rows a (with_grant_book s g n) (tables_content old)
  turns old new c =
      only_changed 24 old new c.others
      ∙ rows_turn a (tables_content old) (with_grant_book s g n) (λ r. r.grant_books)
      (λ r f. record r { grant_books = f }) (λ r. refl)
      (λ r. refl) (rows_in new) (λ x. at_each (same_name a x) _ _ _
      (λ t. at_each (same_name a x) _ _ _ (λ h.
      put_tells grant_book_in grant_books values old new c n refl (group_key x t h)
      (same_name a x && (same_name s t && nat_eq g h)) (text_text_number a x s t g h)
      ∙ apart_if (same_name a x) (same_name s t && nat_eq g h) _ _)))

  pub makes_grant_book : (params : Row) → params ≡ values
      → (old new : State) (r : Result ⊤ Error) → HasTables old
      → Attempts (HasRun put_grant_book_text params) old new r
      → Attempts (Makes (with_rows a (with_grant_book s g n))) old new r
  makes_grant_book =
      writes put_grant_book_text values (Puts grant_books values)
      (with_rows a (with_grant_book s g n)) puts
      (puts_make grant_books values (with_rows a (with_grant_book s g n)) turns
      (plain_beside grant_books values (omega arith) (omega arith) (omega arith)))

  -- the parameters, as they are bound
  pub bound_grant_book : (v1 v2 v3 v4 : Value)
      → v1 ≡ Text a
      → v2 ≡ Text s
      → v3 ≡ nat g
      → v4 ≡ nat n
      → ◌≡◌ {A = Row} (map bound_value (v1 ∷ v2 ∷ v3 ∷ v4 ∷ [])) values
  bound_grant_book v1 v2 v3 v4 e1 e2 e3 e4 = rw (e1, e2, e3, e4) refl
