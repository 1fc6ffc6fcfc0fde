-- Open sessions, as they are read: where each is in its rules, no fault of the rules is reported.
use Rattle.std.proofs.Common.{◌≡◌, inl, inr, ℕ, List, [], ◌∷◌, map, drop, Bool, true, ◌&&◌, Some}
use Rattle.std.proofs.Common.{is_eq, refl, sym, ap, subst, ◌∙◌, option_map, nat_eq, nat_le, eqb-true}
use Rattle.std.proofs.lemmas.Bool.{and_from, and_parts}
use Rattle.std.specs.List.{AllByRecursion}
use Rattle.sqlite_value.specs.declared.value.Value.{Value}
use Rattle.sqlite_value.specs.declared.value.Value.TheVariants.{Text}
use Rattle.sqlite_value.specs.declared.keys.Collation.TheVariants.{Binary}
use Rattle.sqlite_value.specs.Order.{Row, column}
use Rattle.sqlite_sql.specs.Query.{key_cmp}
use Rattle.sqlite_schema.specs.Rules.{Fits, equal}
use Rattle.sqlite_trees.specs.Tree.{Trees}
use Rattle.sqlite_rules.specs.Lists.{Has}
use Rattle.sqlite.specs.State.{State}
use Rattle.sql_tables.specs.Schema.{our_schema, sessions}
use Rattle.sql_tables.specs.Statements.{Answers}
use Rattle.sql_tables.proofs.Keys.{int_tie}
use Rattle.sql_tables.proofs.Selected.{selected_from}
use Rattle.sql_tables.proofs.Selections.{meets}
use Rattle.sql_tables.proofs.Steps.{and_last}
use Rattle.sql_tables.proofs.Ties.{equal_present}
use Rattle.reserving.specs.declared.session.Session.{Session}
use Rattle.reserving.specs.Sessions.{is_open, session_before}
use Rattle.sql_rows.specs.Values.{nat, nat_in, session_cells, session_in_row, session_key, text_in}
use Rattle.sql_rows.specs.Content.{rows_in}
use Rattle.sql_rows.specs.Lists.{Ascends}
use Rattle.sql_rows.specs.Ruled.{AreRuledOpen, IsRuledSession}
use Rattle.sql_rows.proofs.rules.FittingRows.{behind}
use Rattle.sql_rows.proofs.rules.ListRules.{less_last_name, list_refused, tie_last_name, tie_own_name}
use Rattle.sql_rows.proofs.rules.OrderedRows.{IsBefore, ordered_told, row_under}
use Rattle.sql_rows.proofs.rules.SessionRules.{session_fits, session_values}
use Rattle.sql_rows.proofs.selections.ReadOpen.{extra, front, open_selected, open_told}
use Rattle.sql_rows.proofs.selections.ReadOpen.{read_sessions_open_plain, read_sessions_open_text}
use Rattle.sql_rows.proofs.selections.ReadOpen.{sessions_open_is, sessions_open_order}
use Rattle.sql_rows.proofs.selections.ReadOpen.{sessions_open_terms, splits}
use Rattle.sql_rows.proofs.selections.ReadSession.{columns, names, project}

-- a number that is tested for being one is one
one_is : (v : Value) → v ≡ nat (nat_in v) → equal Binary v (nat 1) ≡ true → nat_in v ≡ 1
one_is v is one =
    let tested : equal Binary (nat (nat_in v)) (nat 1) ≡ true =
    subst (λ w. equal Binary w (nat 1) ≡ true) is one in
    let same : nat_eq 1 (nat_in v) ≡ true =
    sym (equal_present (nat (nat_in v)) (nat 1) refl ∙ int_tie 1 (nat_in v)) ∙ tested in
    sym (eqb-true 1 (nat_in v) same)

module _ (a : List ℕ) where
  abbrev test : Row → Bool
  test r = front a r && extra a r

  abbrev key : Row → Row
  key r = column r 2 ∷ []

  -- the key under which a row is
  abbrev keyed : Row → Row
  keyed r = session_key a (session_in_row (drop 1 r)).id

  module _ (trees : Trees) (fits : Fits our_schema trees) where
    open_fits : (r : Row) → Has (trees 8) r → extra a r ≡ true
        → columns r ≡ session_cells (session_in_row (drop 1 r))
    open_fits r h one =
        let values = session_values trees fits r h in
        let is : nat_in (column r 5) ≡ 1 = one_is (column r 5) values.1.1.1.1.0 one in
        session_fits trees fits r h
        (ap (λ v. nat_le 1 (nat_in v) && nat_le (nat_in v) 3) (sym (behind r 4))
        ∙ ap (λ n. nat_le 1 n && nat_le n 3) is)

    id_is : (r : Row) → Has (trees 8) r → column r 2 ≡ Text (session_in_row (drop 1 r)).id
    id_is r h = (session_values trees fits r h).1.0 ∙ ap (λ v. Text (text_in v)) (behind r 1)

    meeting : (r : Row) → Has (trees 8) r → test r ≡ true → meets (1 ∷ 2 ∷ []) (keyed r) r ≡ true
    meeting r h p =
        splits a (session_in_row (drop 1 r)).id r
        ∙ and_from _ _ (and_parts (front a r) (extra a r) p).0
        (tie_own_name (column r 2) (session_in_row (drop 1 r)).id (id_is r h))

    ties : (r t : Row) → Has (trees 8) r → Has (trees 8) t → test r ≡ true → test t ≡ true
        → is_eq (key_cmp 0 (map (λ k. k.1) sessions_open_order) (key r) (key t)) ≡ true
        → meets (1 ∷ 2 ∷ []) (keyed r) t ≡ true
    ties r t h k p q tie =
        splits a (session_in_row (drop 1 r)).id t
        ∙ and_from _ _ (and_parts (front a t) (extra a t) q).0
        (tie_last_name (column r 2) (column t 2) (session_in_row (drop 1 r)).id (id_is r h) tie)

  -- what was refused of the rows that were read is refused of the tables
  pub open_refused : (old new : State) (rows : List Row)
      → Answers read_sessions_open_text (Text a ∷ []) old new rows
      → ((xs : List Session) → rows ≡ map session_cells xs → Ascends session_before xs
      → ¬ AllByRecursion IsRuledSession xs)
      → ¬ AreRuledOpen (rows_in old.now.trees a)
  open_refused old new rows got refused ruled =
      let trees = old.now.trees in
      let fits = got.fits in
      let stored = got.book.stored.1.1.1.1.0 in
      list_refused session_cells session_before
      (λ x. ((rows_in trees a).sessions x.id ≡ Some x) × (is_open x.state ≡ true)) IsRuledSession
      (IsBefore sessions trees test sessions_open_order key columns) rows
      (ordered_told read_sessions_open_text names sessions (inr (inr (inr (inr (inl refl)))))
      (inr (inr (inr (inr (inl refl))))) refl sessions_open_terms project sessions_open_order
      sessions_open_is read_sessions_open_plain (Text a ∷ []) test key columns keyed
      (λ r. (refl, (refl, tt))) (λ r. and_last (front a r) (extra a r)) (λ r. refl) (λ r. refl)
      old new rows got stored (meeting trees fits) (ties trees fits))
      (λ x y b. less_last_name (column b.first 2) (column b.second 2) x.id y.id
      (ap (λ (w : Row). column w 0) b.is) (ap (λ (w : Row). column w 0) b.later) b.less)
      (λ w h. let from = selected_from test columns (trees 8) rows
      (open_selected a old new rows got) w h in
      let passes = and_parts (front a from.0) (extra a from.0) from.2 in
      let is = open_fits trees fits from.0 from.1 passes.1 in
      record {
        at = session_in_row (drop 1 from.0);
        is = from.3 ∙ is;
        stands = (
          ap (option_map session_in_row) (row_under sessions (inr (inr (inr (inr (inl refl)))))
              (inr (inr (inr (inr (inl refl))))) refl trees fits stored test keyed
              (λ r. (refl, (refl, tt))) (meeting trees fits) from.0 from.1 from.2),
          open_told a (session_in_row (drop 1 from.0)) from.0 passes.1 (sym is),
        );
      })
      (λ x stands. ruled x.id x stands.0 stands.1) refused
