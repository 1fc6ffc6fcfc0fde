-- What is held for a session, as it is read: where each row is in its rules, no fault of the rules
-- is reported.
use Rattle.std.proofs.Common.{◌≡◌, inl, inr, ℕ, List, [], ◌∷◌, map, drop, Bool, true, ◌&&◌, Some}
use Rattle.std.proofs.Common.{is_eq, refl, sym, ap, ap₂, ◌∙◌, option_map}
use Rattle.std.proofs.lemmas.Bool.{and_from, and_parts}
use Rattle.std.specs.List.{AllByRecursion}
use Rattle.sqlite_value.specs.declared.value.Value.TheVariants.{Text}
use Rattle.sqlite_value.specs.declared.keys.Collation.TheVariants.{Binary}
use Rattle.sqlite_value.specs.Order.{Row, column}
use Rattle.sqlite_sql.specs.Query.{key_cmp}
use Rattle.sqlite_schema.specs.Rules.{Fits, equal}
use Rattle.sqlite_trees.specs.Tree.{Trees}
use Rattle.sqlite_rules.specs.Lists.{Has}
use Rattle.sqlite.specs.State.{State}
use Rattle.sql_tables.specs.Schema.{holds, our_schema}
use Rattle.sql_tables.specs.Statements.{Answers}
use Rattle.sql_tables.proofs.Selected.{selected_from}
use Rattle.sql_tables.proofs.Selections.{meets}
use Rattle.sql_tables.proofs.Steps.{and_apart}
use Rattle.sql_rows.specs.declared.hold_rows.HeldColumns.{HeldColumns}
use Rattle.sql_rows.specs.Values.{hold_in, hold_key, nat}
use Rattle.sql_rows.specs.Content.{rows_in}
use Rattle.sql_rows.specs.Lists.{Ascends, hold_before, hold_cells}
use Rattle.sql_rows.specs.Ruled.{AreRuledHolds, IsRuledHold}
use Rattle.sql_rows.proofs.rules.FittingRows.{AreValuesOf, fitting_values}
use Rattle.sql_rows.proofs.rules.ListRules.{less_both, list_refused, tie_both, tie_own}
use Rattle.sql_rows.proofs.rules.OrderedRows.{IsBefore, ordered_told, row_under}
use Rattle.sql_rows.proofs.selections.ReadHolds.{at_in, columns, front, holds_is, holds_order}
use Rattle.sql_rows.proofs.selections.ReadHolds.{holds_selected, holds_terms, names, project}
use Rattle.sql_rows.proofs.selections.ReadHolds.{read_holds_plain, read_holds_text, same_columns}
use Rattle.sql_rows.proofs.selections.ReadHolds.{splits}

pub hold_values : (trees : Trees) → Fits our_schema trees → (row : Row) → Has (trees 12) row
    → AreValuesOf holds.columns 0 row
hold_values = fitting_values holds (inr (inr (inr (inr (inr (inr (inl refl))))))) refl refl [] refl

pub hold_fits : (trees : Trees) → Fits our_schema trees → (r : Row) → Has (trees 12) r
    → columns r ≡ hold_cells (at_in (drop 1 r))
hold_fits trees fits r has =
    let values = hold_values trees fits r has in
    ap₂ ◌∷◌ values.1.1.0 (ap₂ ◌∷◌ values.1.1.1.0 (ap (λ v. v ∷ []) values.1.1.1.1.0))
    ∙ ap hold_cells (sym (same_columns r))

module _ (a s : List ℕ) where
  abbrev test : Row → Bool
  test r = front a s r && true

  abbrev key : Row → Row
  key r = column r 3 ∷ column r 4 ∷ []

  -- the key under which a row is
  abbrev keyed : Row → Row
  keyed r = hold_key a s (at_in (drop 1 r)).group (at_in (drop 1 r)).bucket

  module _ (trees : Trees) (fits : Fits our_schema trees) where
    group_is : (r : Row) → Has (trees 12) r → column r 3 ≡ nat (at_in (drop 1 r)).group
    group_is r h = ap (λ (w : Row). column w 0) (hold_fits trees fits r h)

    bucket_is : (r : Row) → Has (trees 12) r → column r 4 ≡ nat (at_in (drop 1 r)).bucket
    bucket_is r h = ap (λ (w : Row). column w 1) (hold_fits trees fits r h)

    meeting : (r : Row) → Has (trees 12) r → test r ≡ true
        → meets (1 ∷ 2 ∷ 3 ∷ 4 ∷ []) (keyed r) r ≡ true
    meeting r h p =
        splits a s (at_in (drop 1 r)).group (at_in (drop 1 r)).bucket r
        ∙ and_from _ _ (and_parts (front a s r) true p).0
        (and_from _ _ (tie_own (column r 3) (at_in (drop 1 r)).group (group_is r h))
        (tie_own (column r 4) (at_in (drop 1 r)).bucket (bucket_is r h)))

    ties : (r t : Row) → Has (trees 12) r → Has (trees 12) t → test r ≡ true → test t ≡ true
        → is_eq (key_cmp 0 (map (λ k. k.1) holds_order) (key r) (key t)) ≡ true
        → meets (1 ∷ 2 ∷ 3 ∷ 4 ∷ []) (keyed r) t ≡ true
    ties r t h k p q tie =
        splits a s (at_in (drop 1 r)).group (at_in (drop 1 r)).bucket t
        ∙ and_from _ _ (and_parts (front a s t) true q).0
        (tie_both (column r 3) (column t 3) (column r 4) (column t 4) (at_in (drop 1 r)).group
        (at_in (drop 1 r)).bucket (group_is r h) (bucket_is r h) tie)

  -- what was refused of the rows that were read is refused of the tables
  pub holds_refused : (old new : State) (rows : List Row)
      → Answers read_holds_text (Text a ∷ Text s ∷ []) old new rows
      → ((xs : List HeldColumns) → rows ≡ map hold_cells xs → Ascends hold_before xs
      → ¬ AllByRecursion IsRuledHold xs)
      → ¬ AreRuledHolds (rows_in old.now.trees a) s
  holds_refused old new rows got refused ruled =
      let trees = old.now.trees in
      let fits = got.fits in
      let stored = got.book.stored.1.1.1.1.1.1.0 in
      list_refused hold_cells hold_before
      (λ x. (rows_in trees a).holds s x.group x.bucket ≡ Some x.amount) IsRuledHold
      (IsBefore holds trees test holds_order key columns) rows
      (ordered_told read_holds_text names holds (inr (inr (inr (inr (inr (inr (inl refl)))))))
      (inr (inr (inr (inr (inr (inr (inl refl))))))) refl holds_terms project holds_order holds_is
      read_holds_plain (Text a ∷ Text s ∷ []) test key columns keyed
      (λ r. (refl, (refl, (refl, (refl, tt)))))
      (λ r. and_apart (equal Binary (column r 1) (Text a)) (equal Binary (column r 2) (Text s))
      true) (λ r. refl) (λ r. refl) old new rows got stored (meeting trees fits) (ties trees fits))
      (λ x y b. less_both (column b.first 3) (column b.second 3) (column b.first 4)
      (column b.second 4) x.group y.group x.bucket y.bucket
      (ap (λ (w : Row). column w 0) b.is) (ap (λ (w : Row). column w 0) b.later)
      (ap (λ (w : Row). column w 1) b.is) (ap (λ (w : Row). column w 1) b.later) b.less)
      (λ w h. let from = selected_from test columns (trees 12) rows
      (holds_selected a s old new rows got) w h in
      record {
        at = at_in (drop 1 from.0);
        is = from.3 ∙ hold_fits trees fits from.0 from.1;
        stands = ap (option_map hold_in) (row_under holds
            (inr (inr (inr (inr (inr (inr (inl refl)))))))
            (inr (inr (inr (inr (inr (inr (inl refl))))))) refl trees fits stored test keyed
            (λ r. (refl, (refl, (refl, (refl, tt))))) (meeting trees fits) from.0 from.1 from.2);
      })
      (λ x is. ruled x.group x.bucket x.amount is) refused
