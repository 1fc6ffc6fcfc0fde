-- What the text of `read_session` answers.
use Rattle.std.specs.Prelude.{codes}
use Rattle.std.proofs.Common.{◌≡◌, inl, inr, ℕ, List, [], ◌∷◌, ◌++◌, map, drop, true, false}
use Rattle.std.proofs.Common.{Option, Some, None, Result, Ok, Err, IfOk, refl, sym, ap, subst, ◌∙◌}
use Rattle.std.specs.Prelude.{is_some, option_map}
use Rattle.std.proofs.lemmas.Bool.{false≢true as not_both}
use Rattle.std.specs.List.{list_all}
use Rattle.std.specs.Ordering.{eq_by_cmp}
use Rattle.sqlite_value.specs.declared.value.Value.TheVariants.{Null}
use Rattle.sqlite_value.specs.declared.keys.Collation.TheVariants.{Binary}
use Rattle.sqlite_value.specs.Keys.{first_key}
use Rattle.sqlite_value.specs.Order.{Row, column, row_cmp}
use Rattle.sqlite_sql.specs.declared.ops.BinaryOp.TheVariants.{Compare}
use Rattle.sqlite_sql.specs.declared.ops.CompareOp.TheVariants.{Eq}
use Rattle.sqlite_sql.specs.Term.{Term, col, op2, holds as holds_in}
use Rattle.sqlite_schema.specs.declared.command.Command.TheVariants.{Select}
use Rattle.sqlite_schema.specs.declared.schema.Constraint.TheVariants.{ForeignKey}
use Rattle.sqlite_schema.specs.Rules.{Keeps}
use Rattle.sqlite_trees.specs.Tree.{Trees}
use Rattle.sqlite_tied.specs.Compute.{everything}
use Rattle.sqlite.specs.Given.{IsPlain}
use Rattle.sqlite.specs.Listing.{understood, reads_listing}
use Rattle.sqlite.specs.State.{State}
use Rattle.sqlite.proofs.Callers.{command_of}
use Rattle.sql_tables.specs.Keyed.{key_of, look}
use Rattle.sql_tables.specs.Schema.{our_schema, grant_books, holds, session_groups, sessions}
use Rattle.sql_tables.specs.Selects.{Selects, one_or_none}
use Rattle.sql_tables.specs.Statements.{Answers}
use Rattle.sql_tables.proofs.ByKey.{one_told}
use Rattle.sql_tables.proofs.Found.{is_some_map}
use Rattle.sql_tables.proofs.Parents.{group_of_book, group_of_hold, session_of_group}
use Rattle.sql_tables.proofs.Selected.{select_from, told}
use Rattle.sql_tables.proofs.Ties.{agree_ties_at}
use Rattle.reserving.specs.declared.session.Session.{Session}
use Rattle.sql_rows.proofs.puts.PutSession.{session_told}
use Rattle.sql_rows.specs.Values.{session_key, session_in_row, session_cells, group_key}
use Rattle.sql_rows.specs.Values.{group_in_row}
use Rattle.sql_rows.specs.Values.{grant_book_in, hold_key, hold_in}
use Rattle.sql_rows.specs.Content.{rows_in}
use Rattle.sql_rows.specs.Lists.{HasNoGroups}

abbrev pub read_session_text : List ℕ
read_session_text = codes "SELECT session, last_number, touched, state FROM sessions "
    ++ codes "WHERE account = ?1 AND session = ?2"

abbrev terms : List Term
terms =
    op2 (Compare Eq Binary) (col 1 1) (col 0 0)
    ∷ op2 (Compare Eq Binary) (col 1 2) (col 0 1) ∷ []

abbrev pub project : List Term
project = col 1 2 ∷ col 1 3 ∷ col 1 4 ∷ col 1 5 ∷ []

abbrev pub names : List (List ℕ)
names = codes "session" ∷ codes "last_number" ∷ codes "touched" ∷ codes "state" ∷ []

abbrev places : List ℕ
places = 1 ∷ 2 ∷ []

text_is : (command_of (understood our_schema read_session_text)
    ≡ Select (record { lets = []; body = select_from 8 terms project [] }) names) ×
    (reads_listing our_schema read_session_text ≡ false)
unfolding understood everything
text_is = (refl, refl)

pub read_session_plain : IsPlain (understood our_schema read_session_text)
unfolding understood everything
read_session_plain = (refl, refl)

abbrev pub columns : Row → Row
columns r = column r 2 ∷ column r 3 ∷ column r 4 ∷ column r 5 ∷ []

pub same_columns : (r : Row) → session_in_row (drop 1 r) ≡ session_in_row (Null ∷ columns r)
same_columns [] = refl
same_columns (v ∷ vs) = refl

pub back : (x : Session) (r : Row) → session_cells x ≡ columns r → session_in_row (drop 1 r) ≡ x
back x r is = same_columns r ∙ ap (λ w. session_in_row (Null ∷ w)) (sym is) ∙ session_told Null x

module _ (a s : List ℕ) where
  means : (r : Row) →
      list_all (holds_in (session_key a s ∷ r ∷ [])) terms ≡ eq_by_cmp row_cmp (key_of places r)
      (session_key a s)
  unfolding first_key
  means r = agree_ties_at places r (0 ∷ 1 ∷ []) (session_key a s) (refl, (refl, tt))

  pub session_selected : (old new : State) (rows : List Row)
      → Answers read_session_text (session_key a s) old new rows
      → Selects (λ r. eq_by_cmp row_cmp (key_of places r) (session_key a s)) columns
      (old.now.trees 8) rows
  session_selected old new rows got =
      told read_session_text names 8 terms project [] text_is read_session_plain (session_key a s)
      (λ r. eq_by_cmp row_cmp (key_of places r) (session_key a s)) columns means (λ r. refl) old
      new rows got

  -- rule: statements-of-tables.with-session-row
  pub session_read : (old new : State) (rows : List Row) (o : Option Session) →
      Answers read_session_text (session_key a s) old new rows
      → rows ≡ map session_cells (one_or_none o) → o ≡ (rows_in old.now.trees a).sessions s
  session_read old new rows o got is =
      one_told sessions (inr (inr (inr (inr (inl refl)))))
      (inr (inr (inr (inr (inl refl))))) refl old.now.trees got.fits
      (got.book.stored.1.1.1.1.0) session_in_row session_cells columns
      (λ r. eq_by_cmp row_cmp (key_of places r) (session_key a s)) (session_key a s)
      (refl, (refl, tt)) (λ x r m. back x r) (λ r. refl) o
      (subst (Selects (λ r. eq_by_cmp row_cmp (key_of places r) (session_key a s)) columns
      (old.now.trees 8)) is
      (session_selected old new rows got))

-- ---- where there is none

module _ (a s : List ℕ) (trees : Trees) (keys : Keeps ForeignKey our_schema trees)
    (none : (rows_in trees a).sessions s ≡ None) where
  not_there : {A : Type 0} → is_some (look sessions trees (session_key a s)) ≡ true → A
  not_there there = absurd (not_both (sym (ap is_some none)
      ∙ is_some_map session_in_row (look sessions trees (session_key a s)) ∙ there))

  no_group : {A : Type 0} (g : ℕ) →
      is_some (look session_groups trees (group_key a s g)) ≡ true → A
  no_group {A} g = at (look session_groups trees (group_key a s g)) refl
    where
      at : (o : Option Row) → look session_groups trees (group_key a s g) ≡ o →
          is_some o ≡ true → A
      at None e there = absurd (not_both there)
      at (Some v) e there = not_there (session_of_group trees keys a s g v e)

  -- what has the session's name in its key isn't there
  no_groups : HasNoGroups (rows_in trees a) s
  no_groups = record {
    groups = λ g. group g (look session_groups trees (group_key a s g)) refl;
    books = λ g. book g (look grant_books trees (group_key a s g)) refl;
    holds = λ g n. held g n (look holds trees (hold_key a s g n)) refl;
  }
    where
      group : (g : ℕ) (o : Option Row) → look session_groups trees (group_key a s g) ≡ o →
          option_map group_in_row o ≡ None
      group g None e = refl
      group g (Some v) e = not_there (session_of_group trees keys a s g v e)

      book : (g : ℕ) (o : Option Row) → look grant_books trees (group_key a s g) ≡ o →
          option_map grant_book_in o ≡ None
      book g None e = refl
      book g (Some v) e = no_group g (group_of_book trees keys a s g v e)

      held : (g n : ℕ) (o : Option Row) → look holds trees (hold_key a s g n) ≡ o →
          option_map hold_in o ≡ None
      held g n None e = refl
      held g n (Some v) e = no_group g (group_of_hold trees keys a s g n v e)

-- rule: statements-of-tables.with-session-row
pub none_told : {E : Type 0} (a s : List ℕ) (trees : Trees) (r : Result (Option Session) E) →
    IfOk r (λ o. o ≡ (rows_in trees a).sessions s) → Keeps ForeignKey our_schema trees →
    IfOk r (λ o. o ≡ None → HasNoGroups (rows_in trees a) s)
none_told a s trees (Ok o) found keys = λ none. no_groups a s trees keys (sym found ∙ none)
none_told a s trees (Err e) found keys = tt
