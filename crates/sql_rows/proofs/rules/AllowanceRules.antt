-- The buckets that count blocks, as they are read: where each is in its rules, no fault of the
-- rules is reported.
use Rattle.std.proofs.Common.{◌≡◌, ◌<◌, ◌^◌, inl, inr, ℕ, List, [], ◌∷◌, map, drop, Bool, true}
use Rattle.std.proofs.Common.{◌&&◌, is_eq, nat_lt, refl, sym, ap, ◌∙◌, option_map}
use Rattle.std.specs.Prelude.{is_some}
use Rattle.std.proofs.lemmas.Bool.{and_from, and_parts}
use Rattle.std.specs.List.{AllByRecursion}
use Rattle.sqlite_value.specs.declared.value.Value.TheVariants.{Text}
use Rattle.sqlite_value.specs.Order.{Row, column}
use Rattle.sqlite_sql.specs.Query.{key_cmp}
use Rattle.sqlite_schema.specs.Rules.{Fits}
use Rattle.sqlite_trees.specs.Tree.{Trees}
use Rattle.sqlite_rules.specs.Lists.{Has}
use Rattle.sqlite.specs.State.{State}
use Rattle.sql_tables.specs.Schema.{allowance_buckets, our_schema}
use Rattle.sql_tables.specs.Statements.{Answers}
use Rattle.sql_tables.proofs.Selected.{selected_from}
use Rattle.sql_tables.proofs.Selections.{meets}
use Rattle.sql_rows.specs.Values.{allowance_in, bucket_key, nat, number_cells}
use Rattle.sql_rows.specs.Content.{rows_in}
use Rattle.sql_rows.specs.Lists.{Ascends}
use Rattle.sql_rows.specs.Ruled.{AreRuledAllowances}
use Rattle.sql_rows.proofs.rules.FittingRows.{AreValuesOf, fitting_values}
use Rattle.sql_rows.proofs.rules.ListRules.{less_last, list_refused, tie_last, tie_own}
use Rattle.sql_rows.proofs.rules.OrderedRows.{IsBefore, ordered_told, row_under}
use Rattle.sql_rows.proofs.selections.ReadAllowances.{allowances_selected, columns, front, names}
use Rattle.sql_rows.proofs.selections.ReadAllowances.{of_account, order, project, same_columns}
use Rattle.sql_rows.proofs.selections.ReadAllowances.{read_allowances_plain, read_allowances_text}
use Rattle.sql_rows.proofs.selections.ReadAllowances.{splits, text_is}

pub allowance_values : (trees : Trees) → Fits our_schema trees → (row : Row)
    → Has (trees 27) row → AreValuesOf allowance_buckets.columns 0 row
allowance_values = fitting_values allowance_buckets
    (inr (inr (inr (inr (inr (inr (inr (inr (inr (inr (inr (inr (inl refl))))))))))))) refl refl []
    refl

pub allowance_fits : (trees : Trees) → Fits our_schema trees → (r : Row) → Has (trees 27) r
    → columns r ≡ number_cells (allowance_in (drop 1 r))
allowance_fits trees fits r has =
    ap (λ v. v ∷ []) (allowance_values trees fits r has).1.0
    ∙ ap number_cells (sym (same_columns r))

module _ (a : List ℕ) where
  abbrev test : Row → Bool
  test r = front a r && true

  abbrev key : Row → Row
  key r = column r 2 ∷ []

  -- the key under which a row is
  abbrev keyed : Row → Row
  keyed r = bucket_key a (allowance_in (drop 1 r))

  module _ (trees : Trees) (fits : Fits our_schema trees) where
    number_is : (r : Row) → Has (trees 27) r → column r 2 ≡ nat (allowance_in (drop 1 r))
    number_is r h = ap (λ (w : Row). column w 0) (allowance_fits trees fits r h)

    meeting : (r : Row) → Has (trees 27) r → test r ≡ true → meets (1 ∷ 2 ∷ []) (keyed r) r ≡ true
    meeting r h p =
        splits a (allowance_in (drop 1 r)) r
        ∙ and_from _ _ (and_parts (front a r) true p).0
        (tie_own (column r 2) (allowance_in (drop 1 r)) (number_is r h))

    ties : (r t : Row) → Has (trees 27) r → Has (trees 27) t → test r ≡ true → test t ≡ true
        → is_eq (key_cmp 0 (map (λ k. k.1) order) (key r) (key t)) ≡ true
        → meets (1 ∷ 2 ∷ []) (keyed r) t ≡ true
    ties r t h k p q tie =
        splits a (allowance_in (drop 1 r)) t
        ∙ and_from _ _ (and_parts (front a t) true q).0
        (tie_last (column r 2) (column t 2) (allowance_in (drop 1 r)) (number_is r h) tie)

  -- what was refused of the rows that were read is refused of the tables
  pub allowances_refused : (old new : State) (rows : List Row)
      → Answers read_allowances_text (Text a ∷ []) old new rows
      → ((xs : List ℕ) → rows ≡ map number_cells xs → Ascends nat_lt xs
      → ¬ AllByRecursion (λ n. n < 2 ^ 32) xs)
      → ¬ AreRuledAllowances (rows_in old.now.trees a)
  allowances_refused old new rows got refused ruled =
      let trees = old.now.trees in
      let fits = got.fits in
      let stored = got.book.stored.1.1.1.1.1.1.1.1.1.1.1.1.0 in
      list_refused number_cells nat_lt (λ n. (rows_in trees a).allowances n ≡ true)
      (λ n. n < 2 ^ 32) (IsBefore allowance_buckets trees test order key columns) rows
      (ordered_told read_allowances_text names allowance_buckets
      (inr (inr (inr (inr (inr (inr (inr (inr (inr (inr (inr (inr (inl refl)))))))))))))
      (inr (inr (inr (inr (inr (inr (inr (inr
      (inr (inr (inr (inr (inr (inr (inr (inl refl)))))))))))))))) refl of_account project order
      text_is read_allowances_plain (Text a ∷ []) test key columns keyed
      (λ r. (refl, (refl, tt))) (λ r. refl) (λ r. refl) (λ r. refl) old new rows got stored
      (meeting trees fits) (ties trees fits))
      (λ x y b. less_last (column b.first 2) (column b.second 2) x y
      (ap (λ (w : Row). column w 0) b.is) (ap (λ (w : Row). column w 0) b.later) b.less)
      (λ w h. let from = selected_from test columns (trees 27) rows
      (allowances_selected a old new rows got) w h in
      record {
        at = allowance_in (drop 1 from.0);
        is = from.3 ∙ allowance_fits trees fits from.0 from.1;
        stands = ap (λ o. is_some (option_map allowance_in o)) (row_under allowance_buckets
            (inr (inr (inr (inr (inr (inr (inr (inr (inr (inr (inr (inr (inl refl)))))))))))))
            (inr (inr (inr (inr (inr (inr (inr (inr
            (inr (inr (inr (inr (inr (inr (inr (inl refl)))))))))))))))) refl trees fits stored
            test keyed (λ r. (refl, (refl, tt))) (meeting trees fits) from.0 from.1 from.2);
      })
      ruled refused
