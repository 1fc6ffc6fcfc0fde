-- What the text of `read_sessions_open` answers.
use Rattle.std.specs.Prelude.{codes}
use Rattle.std.proofs.Common.{◌≡◌, inl, inr, ℕ, pos, List, [], ◌∷◌, ◌++◌, map, drop, Bool, true}
use Rattle.std.proofs.Common.{false, ◌&&◌, is_eq, refl, sym, ap, ap₂, subst, ◌∙◌}
use Rattle.sqlite_value.specs.declared.value.Value.TheVariants.{Int, Text}
use Rattle.sqlite_value.specs.declared.keys.Collation.TheVariants.{Binary}
use Rattle.sqlite_value.specs.declared.keys.Key.{Key}
use Rattle.sqlite_value.specs.Order.{Row, column, value_cmp}
use Rattle.sqlite_sql.specs.declared.ops.BinaryOp.TheVariants.{Compare}
use Rattle.sqlite_sql.specs.declared.ops.CompareOp.TheVariants.{Eq}
use Rattle.sqlite_sql.specs.Term.{Term, lit, col, op2}
use Rattle.sqlite_schema.specs.declared.command.Command.TheVariants.{Select}
use Rattle.sqlite_schema.specs.Rules.{equal}
use Rattle.sqlite_tied.specs.Compute.{everything}
use Rattle.sqlite.specs.Given.{IsPlain}
use Rattle.sqlite.specs.Listing.{understood, reads_listing}
use Rattle.sqlite.specs.State.{State}
use Rattle.sqlite.proofs.Callers.{command_of}
use Rattle.sql_tables.specs.Keyed.{same_name}
use Rattle.sql_tables.specs.Schema.{sessions, our_schema}
use Rattle.sql_tables.specs.Selects.{Selects}
use Rattle.sql_tables.specs.Statements.{Answers}
use Rattle.sql_tables.proofs.ByKey.{listed_told}
use Rattle.sql_tables.proofs.Columns.{equal_turned}
use Rattle.sql_tables.proofs.Keys.{keys_split, text_tie}
use Rattle.sql_tables.proofs.Selected.{select_from, told}
use Rattle.sql_tables.proofs.Selections.{meets}
use Rattle.sql_tables.proofs.Steps.{and_last, and_true}
use Rattle.reserving.specs.declared.session.Session.{Session}
use Rattle.reserving.specs.Sessions.{is_open}
use Rattle.sql_rows.specs.Values.{nat, session_key, session_in_row, session_cells}
use Rattle.sql_rows.specs.Content.{rows_in}
use Rattle.sql_rows.specs.Lists.{AreSessions}
use Rattle.sql_rows.proofs.selections.ReadSession.{project, names, columns, back}
use Rattle.sql_rows.proofs.queries.Tests.{open_tested, tested_open}

abbrev pub read_sessions_open_text : List ℕ
read_sessions_open_text = codes "SELECT session, last_number, touched, state "
    ++ codes "FROM sessions WHERE account = ?1 AND state = 1 ORDER BY session"

abbrev pub sessions_open_terms : List Term
sessions_open_terms =
    op2 (Compare Eq Binary) (col 1 1) (col 0 0)
    ∷ op2 (Compare Eq Binary) (col 1 5) (lit (Int (pos 1))) ∷ []

abbrev pub sessions_open_order : List (Term × Key)
sessions_open_order = (col 1 2, record { collation = Binary; descending = false }) ∷ []

pub sessions_open_is : (command_of (understood our_schema read_sessions_open_text)
    ≡ Select (record {
      lets = [];
      body = select_from 8 sessions_open_terms project sessions_open_order;
    }) names) ×
    (reads_listing our_schema read_sessions_open_text ≡ false)
unfolding understood everything
sessions_open_is = (refl, refl)

pub read_sessions_open_plain : IsPlain (understood our_schema read_sessions_open_text)
unfolding understood everything
read_sessions_open_plain = (refl, refl)

module _ (a : List ℕ) where
  abbrev pub front : Row → Bool
  front r = equal Binary (column r 1) (Text a)

  abbrev pub rest : List ℕ → Row → Bool
  rest s r = is_eq (value_cmp (Text s) (column r 2))

  abbrev pub extra : Row → Bool
  extra r = equal Binary (column r 5) (nat 1)

  pub splits : (s : List ℕ) (r : Row) → meets (1 ∷ 2 ∷ []) (session_key a s) r ≡ (front r && rest s r)
  splits s r =
      keys_split (Text a) (column r 1) (Text s ∷ []) (column r 2 ∷ [])
      ∙ ap₂ ◌&&◌ (sym (equal_turned (column r 1) (Text a) refl))
      (keys_split (Text s) (column r 2) [] [] ∙ and_true _)

  wanted : (s : List ℕ) (x : Session) (r : Row) → session_cells x ≡ columns r →
      rest s r ≡ same_name x.id s
  wanted s x r is = ap (λ (w : Row). is_eq (value_cmp (Text s) (column w 0))) (sym is)
      ∙ text_tie x.id s

  lives : (r : Row) → is_open (session_in_row (drop 1 r)).state ≡ true → extra r ≡ true
  lives [] h = absurd (cc)
  lives (v ∷ vs) h = open_tested (column vs 4) h

  pub open_told : (x : Session) (r : Row) → extra r ≡ true → session_cells x ≡ columns r →
      is_open x.state ≡ true
  open_told x r e is =
      tested_open x.state (ap (λ (w : Row). equal Binary (column w 3) (nat 1)) is ∙ e)

  pub open_selected : (old new : State) (rows : List Row)
      → Answers read_sessions_open_text (Text a ∷ []) old new rows
      → Selects (λ r. front r && extra r) columns (old.now.trees 8) rows
  open_selected old new rows got =
      told read_sessions_open_text names 8 sessions_open_terms project sessions_open_order
      sessions_open_is read_sessions_open_plain (Text a ∷ [])
      (λ r. front r && extra r) columns (λ r. and_last (front r) (extra r))
      (λ r. refl) old new rows got

  pub open_read : (old new : State) (rows : List Row) (xs : List Session) →
      Answers read_sessions_open_text (Text a ∷ []) old new rows
      → map session_cells xs ≡ rows
      → AreSessions (λ x. is_open x.state) (rows_in old.now.trees a) xs
  open_read old new rows xs got is s =
      listed_told sessions (inr (inr (inr (inr (inl refl)))))
      (inr (inr (inr (inr (inl refl))))) refl old.now.trees
      got.fits (got.book.stored.1.1.1.1.0) session_in_row session_cells columns
      (λ r. front r && extra r) (session_key a s) (refl, (refl, tt)) (λ x r m. back x r)
      (λ x. same_name x.id s) (λ x. is_open x.state) front (rest s) extra (λ r. refl)
      (splits s) (wanted s) (λ r m. lives r) open_told xs
      (subst (Selects (λ r. front r && extra r) columns (old.now.trees 8)) (sym is)
      (open_selected old new rows got))
