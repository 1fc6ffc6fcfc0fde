-- What the text of `put_session` does.
use Rattle.std.specs.Prelude.{codes, ⊤}
use Rattle.std.proofs.Common.{◌≡◌, inl, inr, ℕ, ℤ, ◌+◌, List, [], ◌∷◌, ◌++◌, map}
use Rattle.std.proofs.Common.{◌&&◌, Some, Result, OnOk, IsTrue, refl, ◌∙◌, arith}
use Rattle.std.specs.Ordering.{eq_by_cmp}
use Rattle.sqlite_value.specs.declared.value.Value.{Value}
use Rattle.sqlite_value.specs.declared.value.Value.TheVariants.{Null, Int, Text}
use Rattle.sqlite_value.specs.Order.{Row, row_cmp}
use Rattle.sqlite_value.specs.Keys.{plain}
use Rattle.sqlite_trees.specs.Tree.{Trees}
use Rattle.sqlite_sql.specs.Term.{Term, lit, col}
use Rattle.sqlite_schema.specs.declared.command.Source.TheVariants.{Values}
use Rattle.sqlite_schema.specs.declared.command.Conflict.TheVariants.{Abort}
use Rattle.sqlite_schema.specs.declared.command.Command.TheVariants.{InsertOr}
use Rattle.sqlite_schema.specs.Rules.{agree}
use Rattle.sqlite_rules.specs.Cast.{cast_row}
use Rattle.sqlite_rules.specs.Keys.{conflicts}
use Rattle.sqlite_tied.specs.Compute.{everything}
use Rattle.sqlite.specs.Values.{bound_value}
use Rattle.sqlite.specs.declared.error.Error.{Error}
use Rattle.sqlite.specs.Listing.{understood}
use Rattle.sqlite.specs.State.{State, ExecutesInside}
use Rattle.sqlite.proofs.Callers.{IsPlain, command_of}
use Rattle.reserving.specs.declared.session.Session.{Session}
use Rattle.reserving.specs.declared.session.SessionState.{SessionState}
use Rattle.reserving.specs.declared.session.SessionState.TheVariants.{Open, Ended, NeverOpened}
use Rattle.sql_tables.specs.Keyed.{key_of, same_name}
use Rattle.sql_tables.specs.Schema.{sessions, our_schema, key_index}
use Rattle.sql_tables.specs.Statements.{Attempts, Changes, HasTables, IsTabled, Puts}
use Rattle.sql_tables.proofs.Casts.{cast_int, cast_null}
use Rattle.sql_tables.proofs.Found.{put_tells, apart_if}
use Rattle.sql_tables.proofs.Keys.{text_text}
use Rattle.sql_tables.proofs.Steps.{or_false}
use Rattle.sql_tables.proofs.Tabled.{puts_table}
use Rattle.sql_tables.proofs.Ties.{agree_ties}
use Rattle.sql_tables.proofs.Upserts.{pick}
use Rattle.sql_rows.specs.Values.{nat, session_cells, session_values, session_key, session_in_row}
use Rattle.sql_rows.specs.Values.{state_number}
use Rattle.sql_rows.specs.Content.{with_rows, with_session_row, rows_in, tables_content}
use Rattle.sql_rows.specs.Makes.{HasRun, Makes}
use Rattle.sql_rows.proofs.writes.Keyed.{IsKeyed}
use Rattle.sql_rows.proofs.writes.Plains.{plain_session}
use Rattle.sql_rows.proofs.writes.Stays.{only_changed, rows_turn, at_each}
use Rattle.sql_rows.proofs.writes.Writes.{writes, puts_make}

abbrev pub put_session_text : List ℕ
put_session_text =
    codes "INSERT INTO sessions VALUES (?1, ?2, ?3, ?4, ?5) "
    ++ codes "ON CONFLICT (account, session) DO UPDATE SET "
    ++ codes "account = excluded.account, session = excluded.session, "
    ++ codes
    "last_number = excluded.last_number, touched = excluded.touched, state = excluded.state"

abbrev pub terms : List Term
terms = lit Null ∷ col 0 0 ∷ col 0 1 ∷ col 0 2 ∷ col 0 3 ∷ col 0 4 ∷ []

abbrev project : List Term
project = col 1 0 ∷ col 1 0 ∷ col 0 7 ∷ col 0 8 ∷ col 0 9 ∷ col 0 10 ∷ col 0 11 ∷ []

abbrev places : List ℕ
places = 1 ∷ 2 ∷ []

put_is : command_of (understood our_schema put_session_text)
    ≡ InsertOr 4 Abort (Values terms 6)
    (record {
      target = Some places;
      update = Some (record { lets = []; body = pick 8 5 project });
    } ∷ [])
unfolding understood everything
put_is = refl

put_plain : IsPlain (understood our_schema put_session_text)
unfolding understood everything
put_plain = (refl, refl)

pub session_told : (v : Value) (row : Session) → session_in_row (v ∷ session_cells row) ≡ row
session_told v row = go row.state refl
  where
    go : (o : SessionState) → row.state ≡ o → session_in_row (v ∷ session_cells row) ≡ row
    go Open e = rw e refl
    go Ended e = rw e refl
    go NeverOpened e = rw e refl

module _ (a : List ℕ) (row : Session) where
  abbrev pub values : Row
  values = session_values a row

  again : (id : ℤ) → cast_row sessions (Int id ∷ values) ≡ Int id ∷ values
  again id = simp (cast_int)

  unset : cast_row sessions (Null ∷ values) ≡ Null ∷ values
  unset = simp (cast_int, cast_null)

  meets : (id : ℤ) (other : Row) →
      conflicts (Some places) our_schema.indexes sessions (Int id ∷ values) other
      ≡ eq_by_cmp row_cmp (key_of places other) (key_of places (Int id ∷ values))
  meets id other = or_false (agree plain places other places (Int id ∷ values))
      ∙ agree_ties places other (Int id ∷ values) (refl, (refl, tt))

  pub keyed : IsKeyed sessions values
  keyed = record {
    again = again;
    unset = unset;
    keys = λ v. refl;
    full = λ id. (refl, (refl, tt));
    ties = meets;
  }

  puts : (old new : State) (r : Result ℕ Error) → (IsTrue old.is_open → IsTabled old)
      → OnOk r (ExecutesInside 0 put_session_text values old new r)
      → OnOk r (Puts sessions values old new)
  puts =
      puts_table 4 sessions refl (inr (inr (inr (inr (inl refl))))) (key_index sessions)
      (inr (inr (inr (inr (inl refl)))))
      refl refl refl (λ e. omega arith) refl
      put_session_text terms project 6 5 put_is put_plain values (λ olds new. refl)
      keyed.again keyed.unset
      (λ id met r. refl) (λ id met. refl) refl keyed.keys keyed.full keyed.ties

  pub turns : (old new : Trees) → Changes sessions values old new
      → tables_content new ≡ with_rows a (with_session_row row) (tables_content old)
  turns old new c =
      only_changed 8 old new c.others
      ∙ rows_turn a (tables_content old) (with_session_row row) (λ r. r.sessions)
      (λ r f. record r { sessions = f }) (λ r. refl)
      (λ r. refl) (rows_in new) (λ x. at_each (same_name a x) _ _ _ (λ s.
      put_tells session_in_row sessions values old new c row (session_told (Text a) row)
      (session_key x s) (same_name a x && (same_name row.id s))
      (text_text a x row.id s) ∙ apart_if (same_name a x) (same_name row.id s) _ _))

  pub makes_session : (old new : State) (r : Result ⊤ Error) → HasTables old
      → Attempts (HasRun put_session_text values) old new r
      → Attempts (Makes (with_rows a (with_session_row row))) old new r
  makes_session =
      writes put_session_text values (Puts sessions values) (with_rows a (with_session_row row))
      puts
      (puts_make sessions values (with_rows a (with_session_row row)) turns
      (plain_session a row)) values refl

  -- the parameters, as they are bound
  pub bound_session : (v1 v2 v3 v4 v5 : Value)
      → v1 ≡ Text a
      → v2 ≡ Text row.id
      → v3 ≡ nat row.last_number
      → v4 ≡ nat row.touched
      → v5 ≡ nat (state_number row.state)
      → ◌≡◌ {A = Row} (map bound_value (v1 ∷ v2 ∷ v3 ∷ v4 ∷ v5 ∷ [])) values
  bound_session v1 v2 v3 v4 v5 e1 e2 e3 e4 e5 = rw (e1, e2, e3, e4, e5) refl
