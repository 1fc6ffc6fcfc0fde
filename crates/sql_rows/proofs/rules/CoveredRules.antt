-- Covered blocks, as they are read: where each row is in its rules, no fault of the rules is
-- reported.
use Rattle.std.proofs.Common.{◌≡◌, ◌<◌, ◌^◌, inl, inr, ℕ, List, [], ◌∷◌, map, drop, Bool, true}
use Rattle.std.proofs.Common.{◌&&◌, is_eq, refl, sym, ap, ap₂, ◌∙◌, option_map}
use Rattle.std.specs.Prelude.{is_some}
use Rattle.std.proofs.lemmas.Bool.{and_from, and_parts}
use Rattle.std.specs.List.{AllByRecursion}
use Rattle.sqlite_value.specs.declared.value.Value.TheVariants.{Text}
use Rattle.sqlite_value.specs.Order.{Row, column}
use Rattle.sqlite_sql.specs.Query.{key_cmp}
use Rattle.sqlite_schema.specs.Rules.{Fits}
use Rattle.sqlite_trees.specs.Tree.{Trees}
use Rattle.sqlite_rules.specs.Lists.{Has}
use Rattle.sqlite.specs.State.{State}
use Rattle.sql_tables.specs.Schema.{covered, our_schema}
use Rattle.sql_tables.specs.Statements.{Answers}
use Rattle.sql_tables.proofs.Selected.{selected_from}
use Rattle.sql_tables.proofs.Selections.{meets}
use Rattle.sql_tables.proofs.Steps.{and_last}
use Rattle.sql_rows.specs.declared.covered_rows.CoveredColumns.{CoveredColumns}
use Rattle.sql_rows.specs.Values.{charge_key, covered_cells, covered_in_row, nat}
use Rattle.sql_rows.specs.Content.{rows_in}
use Rattle.sql_rows.specs.Lists.{Ascends, covered_before}
use Rattle.sql_rows.specs.Ruled.{AreRuledCovered}
use Rattle.sql_rows.proofs.queries.Ranges.{is_beyond, is_up_to}
use Rattle.sql_rows.proofs.rules.FittingRows.{AreValuesOf, fitting_values}
use Rattle.sql_rows.proofs.rules.ListRules.{less_last, list_refused, tie_last, tie_own}
use Rattle.sql_rows.proofs.rules.OrderedRows.{IsBefore, ordered_told, row_under}
use Rattle.sql_rows.proofs.selections.ReadCovered.{at_in, columns, covered_selected, covered_terms}
use Rattle.sql_rows.proofs.selections.ReadCovered.{extra, front, names, order, project}
use Rattle.sql_rows.proofs.selections.ReadCovered.{read_covered_plain, read_covered_text}
use Rattle.sql_rows.proofs.selections.ReadCovered.{same_columns, splits, text_is}

pub covered_values : (trees : Trees) → Fits our_schema trees → (row : Row) → Has (trees 29) row
    → AreValuesOf covered.columns 0 row
covered_values = fitting_values covered
    (inr (inr (inr (inr (inr (inr (inr (inr (inr (inr (inr (inr (inr (inl refl)))))))))))))) refl refl
    [] refl

pub covered_fits : (trees : Trees) → Fits our_schema trees → (r : Row) → Has (trees 29) r
    → columns r ≡ covered_cells (at_in (drop 1 r))
covered_fits trees fits r has =
    let values = covered_values trees fits r has in
    ap₂ ◌∷◌ values.1.0 (ap (λ v. v ∷ []) values.1.1.0)
    ∙ ap covered_cells (sym (same_columns r))

module _ (a : List ℕ) (after last : ℕ) where
  abbrev test : Row → Bool
  test r = front a after last r && extra a after last r

  abbrev key : Row → Row
  key r = column r 2 ∷ []

  -- the key under which a row is
  abbrev keyed : Row → Row
  keyed r = charge_key a (at_in (drop 1 r)).number

  module _ (trees : Trees) (fits : Fits our_schema trees) where
    number_is : (r : Row) → Has (trees 29) r → column r 2 ≡ nat (at_in (drop 1 r)).number
    number_is r h = ap (λ (w : Row). column w 0) (covered_fits trees fits r h)

    meeting : (r : Row) → Has (trees 29) r → test r ≡ true → meets (1 ∷ 2 ∷ []) (keyed r) r ≡ true
    meeting r h p =
        splits a after last (at_in (drop 1 r)).number r
        ∙ and_from _ _ (and_parts (front a after last r) (extra a after last r) p).0
        (tie_own (column r 2) (at_in (drop 1 r)).number (number_is r h))

    ties : (r t : Row) → Has (trees 29) r → Has (trees 29) t → test r ≡ true → test t ≡ true
        → is_eq (key_cmp 0 (map (λ k. k.1) order) (key r) (key t)) ≡ true
        → meets (1 ∷ 2 ∷ []) (keyed r) t ≡ true
    ties r t h k p q tie =
        splits a after last (at_in (drop 1 r)).number t
        ∙ and_from _ _ (and_parts (front a after last t) (extra a after last t) q).0
        (tie_last (column r 2) (column t 2) (at_in (drop 1 r)).number (number_is r h) tie)

  -- what was refused of the rows that were read is refused of the tables
  pub covered_refused : (old new : State) (rows : List Row)
      → Answers read_covered_text (Text a ∷ nat after ∷ nat last ∷ []) old new rows
      → ((xs : List CoveredColumns) → rows ≡ map covered_cells xs → Ascends covered_before xs
      → ¬ AllByRecursion (λ (x : CoveredColumns). x.number < 2 ^ 32) xs)
      → ¬ AreRuledCovered (rows_in old.now.trees a)
  covered_refused old new rows got refused ruled =
      let trees = old.now.trees in
      let fits = got.fits in
      let stored = got.book.stored.1.1.1.1.1.1.1.1.1.1.1.1.1.0 in
      list_refused covered_cells covered_before
      (λ x. is_some ((rows_in trees a).covered x.number) ≡ true) (λ x. x.number < 2 ^ 32)
      (IsBefore covered trees test order key columns) rows
      (ordered_told read_covered_text names covered
      (inr (inr (inr (inr (inr (inr (inr (inr (inr (inr (inr (inr (inr (inl refl))))))))))))))
      (inr (inr (inr (inr (inr (inr (inr (inr
      (inr (inr (inr (inr (inr (inr (inr (inr (inl refl))))))))))))))))) refl covered_terms project
      order text_is read_covered_plain (Text a ∷ nat after ∷ nat last ∷ []) test key columns keyed
      (λ r. (refl, (refl, tt)))
      (λ r. ap (λ t. front a after last r && t)
      (and_last (is_beyond (column r 2) (nat after)) (is_up_to (column r 2) (nat last))))
      (λ r. refl) (λ r. refl) old new rows got stored (meeting trees fits) (ties trees fits))
      (λ x y b. less_last (column b.first 2) (column b.second 2) x.number y.number
      (ap (λ (w : Row). column w 0) b.is) (ap (λ (w : Row). column w 0) b.later) b.less)
      (λ w h. let from = selected_from test columns (trees 29) rows
      (covered_selected a after last old new rows got) w h in
      record {
        at = at_in (drop 1 from.0);
        is = from.3 ∙ covered_fits trees fits from.0 from.1;
        stands = ap (λ o. is_some (option_map covered_in_row o)) (row_under covered
            (inr (inr (inr (inr (inr (inr (inr (inr (inr (inr (inr (inr (inr (inl refl))))))))))))))
            (inr (inr (inr (inr (inr (inr (inr (inr
            (inr (inr (inr (inr (inr (inr (inr (inr (inl refl))))))))))))))))) refl trees fits stored
            test keyed (λ r. (refl, (refl, tt))) (meeting trees fits) from.0 from.1 from.2);
      })
      (λ x is. ruled x.number is) refused
