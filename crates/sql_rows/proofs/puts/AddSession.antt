-- What the text of `add_session` does.
use Rattle.std.specs.Prelude.{codes, ⊤}
use Rattle.std.proofs.Common.{◌≡◌, inl, inr, ℕ, List, Result, OnOk, IsTrue, refl, arith}
use Rattle.sqlite_schema.specs.declared.command.Source.TheVariants.{Values}
use Rattle.sqlite_schema.specs.declared.command.Command.TheVariants.{Insert}
use Rattle.sqlite_tied.specs.Compute.{everything}
use Rattle.sqlite.specs.declared.error.Error.{Error}
use Rattle.sqlite.specs.Listing.{understood}
use Rattle.sqlite.specs.State.{State, ExecutesInside}
use Rattle.sqlite.proofs.Callers.{IsPlain, command_of}
use Rattle.reserving.specs.declared.session.Session.{Session}
use Rattle.sql_rows.specs.Values.{session_in_row}
use Rattle.sql_rows.specs.Content.{has_session, with_rows, with_session_row}
use Rattle.sql_rows.proofs.writes.Plains.{plain_session}
use Rattle.sql_tables.specs.Schema.{sessions, our_schema}
use Rattle.sql_tables.specs.Statements.{Attempts, HasTables, IsTabled}
use Rattle.sql_tables.proofs.Found.{is_some_map}
use Rattle.sql_rows.specs.Makes.{Adds, HasRun}
use Rattle.sql_rows.proofs.writes.Inserts.{InsertsRow, inserts, inserts_row}
use Rattle.sql_rows.proofs.puts.PutSession.{terms, values, keyed, turns}
use Rattle.sql_rows.proofs.writes.Writes.{puts_make}

abbrev pub add_session_text : List ℕ
add_session_text = codes "INSERT INTO sessions VALUES (?1, ?2, ?3, ?4, ?5)"

add_is : command_of (understood our_schema add_session_text) ≡ Insert 4 (Values terms 6)
unfolding understood everything
add_is = refl

add_plain : IsPlain (understood our_schema add_session_text)
unfolding understood everything
add_plain = (refl, refl)

module _ (a : List ℕ) (row : Session) where
  runs : (old new : State) (r : Result ℕ Error) → (IsTrue old.is_open → IsTabled old)
      → OnOk r (ExecutesInside 0 add_session_text (values a row) old new r)
      → OnOk r (InsertsRow sessions (values a row) old new)
  runs = inserts_row 4 sessions refl (inr (inr (inr (inr (inl refl)))))
      (inr (inr (inr (inr (inl refl))))) refl (λ e. omega arith) refl
      add_session_text terms 6 add_is add_plain (values a row) refl (keyed a row)

  pub adds_session : (old new : State) (r : Result ⊤ Error) → HasTables old
      → Attempts (HasRun add_session_text (values a row)) old new r
      → Attempts (Adds (has_session a row.id) (with_rows a (with_session_row row))) old new r
  adds_session = inserts sessions (values a row) (has_session a row.id)
      (with_rows a (with_session_row row)) add_session_text (λ trees. is_some_map session_in_row _)
      (puts_make sessions (values a row) (with_rows a (with_session_row row)) (turns a row)
      (plain_session a row)) runs (values a row) refl
