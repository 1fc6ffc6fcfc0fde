-- The books of a session's reservations, as they are read: where each is in its rules, no fault of
-- the rules is reported.
use Rattle.std.proofs.Common.{◌≡◌, inl, inr, ℕ, List, [], ◌∷◌, map, drop, Bool, true, ◌&&◌, Some}
use Rattle.std.proofs.Common.{is_eq, refl, sym, ap, ap₂, ◌∙◌, option_map}
use Rattle.std.proofs.lemmas.Bool.{and_from, and_parts}
use Rattle.std.specs.List.{AllByRecursion}
use Rattle.sqlite_value.specs.declared.value.Value.TheVariants.{Text}
use Rattle.sqlite_value.specs.declared.keys.Collation.TheVariants.{Binary}
use Rattle.sqlite_value.specs.Order.{Row, column}
use Rattle.sqlite_sql.specs.Query.{key_cmp}
use Rattle.sqlite_schema.specs.Rules.{Fits, equal}
use Rattle.sqlite_trees.specs.Tree.{Trees}
use Rattle.sqlite_rules.specs.Lists.{Has}
use Rattle.sqlite.specs.State.{State}
use Rattle.sql_tables.specs.Schema.{grant_books, our_schema}
use Rattle.sql_tables.specs.Statements.{Answers}
use Rattle.sql_tables.proofs.Selected.{selected_from}
use Rattle.sql_tables.proofs.Selections.{meets}
use Rattle.sql_tables.proofs.Steps.{and_apart}
use Rattle.sql_rows.specs.declared.grant_book_rows.GrantBook.{GrantBook}
use Rattle.sql_rows.specs.Values.{grant_book_in, group_key, nat}
use Rattle.sql_rows.specs.Content.{rows_in}
use Rattle.sql_rows.specs.Lists.{Ascends, grant_book_before, grant_book_cells}
use Rattle.sql_rows.specs.Ruled.{AreRuledGrantBooks, IsRuledGrantBook}
use Rattle.sql_rows.proofs.queries.OfSession.{by_group, is_of_session, of_session, splits}
use Rattle.sql_rows.proofs.rules.FittingRows.{AreValuesOf, fitting_values}
use Rattle.sql_rows.proofs.rules.ListRules.{less_last, list_refused, tie_last, tie_own}
use Rattle.sql_rows.proofs.rules.OrderedRows.{IsBefore, ordered_told, row_under}
use Rattle.sql_rows.proofs.selections.ReadGrantBooks.{at_in, columns, grant_books_selected, names}
use Rattle.sql_rows.proofs.selections.ReadGrantBooks.{project, read_grant_books_plain}
use Rattle.sql_rows.proofs.selections.ReadGrantBooks.{read_grant_books_text, same_columns, text_is}

pub grant_book_values : (trees : Trees) → Fits our_schema trees → (row : Row)
    → Has (trees 24) row → AreValuesOf grant_books.columns 0 row
grant_book_values = fitting_values grant_books
    (inr (inr (inr (inr (inr (inr (inr (inr (inr (inr (inr (inl refl)))))))))))) refl refl [] refl

pub grant_book_fits : (trees : Trees) → Fits our_schema trees → (r : Row) → Has (trees 24) r
    → columns r ≡ grant_book_cells (at_in (drop 1 r))
grant_book_fits trees fits r has =
    let values = grant_book_values trees fits r has in
    ap₂ ◌∷◌ values.1.1.0 (ap (λ v. v ∷ []) values.1.1.1.0)
    ∙ ap grant_book_cells (sym (same_columns r))

module _ (a s : List ℕ) where
  abbrev test : Row → Bool
  test r = is_of_session a s r && true

  abbrev key : Row → Row
  key r = column r 3 ∷ []

  -- the key under which a row is
  abbrev keyed : Row → Row
  keyed r = group_key a s (at_in (drop 1 r)).group

  module _ (trees : Trees) (fits : Fits our_schema trees) where
    group_is : (r : Row) → Has (trees 24) r → column r 3 ≡ nat (at_in (drop 1 r)).group
    group_is r h = ap (λ (w : Row). column w 0) (grant_book_fits trees fits r h)

    meeting : (r : Row) → Has (trees 24) r → test r ≡ true
        → meets (1 ∷ 2 ∷ 3 ∷ []) (keyed r) r ≡ true
    meeting r h p =
        splits a s (at_in (drop 1 r)).group r
        ∙ and_from _ _ (and_parts (is_of_session a s r) true p).0
        (tie_own (column r 3) (at_in (drop 1 r)).group (group_is r h))

    ties : (r t : Row) → Has (trees 24) r → Has (trees 24) t → test r ≡ true → test t ≡ true
        → is_eq (key_cmp 0 (map (λ k. k.1) by_group) (key r) (key t)) ≡ true
        → meets (1 ∷ 2 ∷ 3 ∷ []) (keyed r) t ≡ true
    ties r t h k p q tie =
        splits a s (at_in (drop 1 r)).group t
        ∙ and_from _ _ (and_parts (is_of_session a s t) true q).0
        (tie_last (column r 3) (column t 3) (at_in (drop 1 r)).group (group_is r h) tie)

  -- what was refused of the rows that were read is refused of the tables
  pub grant_books_refused : (old new : State) (rows : List Row)
      → Answers read_grant_books_text (Text a ∷ Text s ∷ []) old new rows
      → ((xs : List GrantBook) → rows ≡ map grant_book_cells xs → Ascends grant_book_before xs
      → ¬ AllByRecursion IsRuledGrantBook xs)
      → ¬ AreRuledGrantBooks (rows_in old.now.trees a) s
  grant_books_refused old new rows got refused ruled =
      let trees = old.now.trees in
      let fits = got.fits in
      let stored = got.book.stored.1.1.1.1.1.1.1.1.1.1.1.0 in
      list_refused grant_book_cells grant_book_before
      (λ x. (rows_in trees a).grant_books s x.group ≡ Some x.book) IsRuledGrantBook
      (IsBefore grant_books trees test by_group key columns) rows
      (ordered_told read_grant_books_text names grant_books
      (inr (inr (inr (inr (inr (inr (inr (inr (inr (inr (inr (inl refl))))))))))))
      (inr (inr (inr (inr (inr (inr (inr (inr (inr (inr (inr (inr (inr (inl refl)))))))))))))) refl
      of_session project by_group text_is read_grant_books_plain (Text a ∷ Text s ∷ []) test key
      columns keyed (λ r. (refl, (refl, (refl, tt))))
      (λ r. and_apart (equal Binary (column r 1) (Text a)) (equal Binary (column r 2) (Text s))
      true) (λ r. refl) (λ r. refl) old new rows got stored (meeting trees fits) (ties trees fits))
      (λ x y b. less_last (column b.first 3) (column b.second 3) x.group y.group
      (ap (λ (w : Row). column w 0) b.is) (ap (λ (w : Row). column w 0) b.later) b.less)
      (λ w h. let from = selected_from test columns (trees 24) rows
      (grant_books_selected a s old new rows got) w h in
      record {
        at = at_in (drop 1 from.0);
        is = from.3 ∙ grant_book_fits trees fits from.0 from.1;
        stands = ap (option_map grant_book_in) (row_under grant_books
            (inr (inr (inr (inr (inr (inr (inr (inr (inr (inr (inr (inl refl))))))))))))
            (inr (inr (inr (inr (inr (inr (inr (inr (inr (inr (inr (inr (inr (inl refl))))))))))))))
            refl trees fits stored test keyed (λ r. (refl, (refl, (refl, tt)))) (meeting trees fits)
            from.0 from.1 from.2);
      })
      (λ x is. ruled x.group x.book is) refused
