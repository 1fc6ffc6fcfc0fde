-- Sessions as they are read: where each is in its rules, no fault of the rules is reported.
use Rattle.std.proofs.Common.{◌≡◌, inl, inr, ℕ, List, [], ◌∷◌, ◌&&◌, map, drop, true, Option, refl}
use Rattle.std.proofs.Common.{sym, ap, ap₂, subst, ◌∙◌, nat_le}
use Rattle.std.specs.Prelude.{IfSome}
use Rattle.sqlite_value.specs.Order.{Row, column}
use Rattle.sqlite_schema.specs.Rules.{Fits}
use Rattle.sqlite_trees.specs.Tree.{Trees}
use Rattle.sqlite_rules.specs.Lists.{Has}
use Rattle.sqlite.specs.State.{State}
use Rattle.sql_tables.specs.Schema.{our_schema, sessions}
use Rattle.sql_tables.specs.Selects.{one_or_none}
use Rattle.sql_tables.specs.Statements.{Answers}
use Rattle.reserving.specs.declared.session.Session.{Session}
use Rattle.sql_rows.specs.Values.{nat_in, session_cells, session_in_row, session_key}
use Rattle.sql_rows.specs.Content.{rows_in}
use Rattle.sql_rows.specs.Plain.{ArePlain, is_plain_session}
use Rattle.sql_rows.specs.Ruled.{IsRuledSession}
use Rattle.sql_rows.proofs.rules.FittingRows.{AreValuesOf, behind, fitting_values}
use Rattle.sql_rows.proofs.rules.KeyRules.{one_there}
use Rattle.sql_rows.proofs.rules.PlainValues.{state_of}
use Rattle.sql_rows.proofs.selections.ReadSession.{columns, read_session_text, same_columns}
use Rattle.sql_rows.proofs.selections.ReadSession.{session_read, session_selected}

pub session_values : (trees : Trees) → Fits our_schema trees → (row : Row) → Has (trees 8) row
    → AreValuesOf sessions.columns 0 row
session_values = fitting_values sessions (inr (inr (inr (inr (inl refl))))) refl refl [] refl

pub session_fits : (trees : Trees) → Fits our_schema trees → (r : Row) → Has (trees 8) r
    → is_plain_session (drop 1 r) ≡ true → columns r ≡ session_cells (session_in_row (drop 1 r))
session_fits trees fits r has plain =
    let values = session_values trees fits r has in
    let state : (nat_le 1 (nat_in (column r 5)) && nat_le (nat_in (column r 5)) 3) ≡ true =
    ap (λ v. nat_le 1 (nat_in v) && nat_le (nat_in v) 3) (behind r 4) ∙ plain in
    ap₂ ◌∷◌ values.1.0 (ap₂ ◌∷◌ values.1.1.0 (ap₂ ◌∷◌ values.1.1.1.0
    (ap (λ v. v ∷ []) (state_of (column r 5) values.1.1.1.1.0 state))))
    ∙ ap session_cells (sym (same_columns r))

module _ (a s : List ℕ) where
  -- what was refused of the row that was read is refused of the tables
  pub session_refused : (old new : State) (rows : List Row)
      → Answers read_session_text (session_key a s) old new rows
      → ((o : Option Session) → rows ≡ map session_cells (one_or_none o)
      → ¬ IfSome o IsRuledSession)
      → ArePlain old.now.trees → ¬ IfSome ((rows_in old.now.trees a).sessions s) IsRuledSession
  session_refused old new rows got refused plain ruled =
      let it = one_there sessions (inr (inr (inr (inr (inl refl)))))
      (inr (inr (inr (inr (inl refl))))) refl old.now.trees got.fits got.book.stored.1.1.1.1.0
      (session_key a s) (refl, (refl, tt)) session_in_row session_cells columns
      (λ r h is. session_fits old.now.trees got.fits r h
      (plain.of_sessions (session_key a s) (drop 1 r) is))
      rows (session_selected a s old new rows got) in
      refused it.0 it.1 (subst (λ o. IfSome o IsRuledSession)
      (sym (session_read a s old new rows it.0 got it.1)) ruled)
