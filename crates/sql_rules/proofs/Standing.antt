-- What rows that were walked say of the table.
use Rattle.std.proofs.Common.{◌≡◌, ℕ, ◌+◌, ◌<◌, length, slice_index_or, ap₂, arith}
use Rattle.std.proofs.Common.{List, [], ◌∷◌, map, flat_map, Bool, false}
use Rattle.std.proofs.Common.{IsTrue, refl, sym, ap, subst, ◌∙◌}
use Rattle.std.specs.List.{AllByRecursion}
use Rattle.std.specs.List.Sorted.{IsPermutation, IsSorted, IsSortedBy}
use Rattle.std.specs.Ordering.{is_lt}
use Rattle.std.proofs.lemmas.List.{get_or-map, length-map}
use Rattle.std.proofs.lemmas.List.Sorted.{IsPermutation-map, IsPermutation-sym}
use Rattle.sqlite_value.specs.declared.value.Value.TheVariants.{Null}
use Rattle.sqlite_value.specs.Order.{Row, column, value_cmp}
use Rattle.sqlite_value.proofs.OrderLemmas.{then-Equal}
use Rattle.sqlite_trees.specs.Tree.{Trees, rowid}
use Rattle.sqlite_trees.specs.View.{is_int}
use Rattle.sqlite_trees.proofs.ListLemmas.{all-map, all-permutation, all_from_map, all_weaker}
use Rattle.sqlite_trees.proofs.ListLemmas.{ascending-map, ascending_from_map}
use Rattle.sqlite_sql.specs.Term.{col, eval_all}
use Rattle.sqlite_sql.specs.Query.{Output, output, output_cmp, IsAnswer}
use Rattle.sqlite_sql.specs.Program.{overlay}
use Rattle.sqlite_schema.specs.declared.command.Command.TheVariants.{Select}
use Rattle.sqlite.specs.State.{State, Shown}
use Rattle.sqlite.proofs.Callers.{reads_as}
use Rattle.sql_tables.specs.Keyed.{IsStored}
use Rattle.sql_tables.specs.Schema.{schema_at}
use Rattle.sql_tables.proofs.Steps.{bare}
use Rattle.sql_tables.proofs.StoredOrder.{same_id, stored_permuted, climbs}
use Rattle.sql_tables.proofs.Ascents.{rising_stored}
use Rattle.sql_rules.specs.Tables.{rows_query, IsRows}
use Rattle.sql_rules.specs.Walks.{Pass}

abbrev both : Row → Output
both r = (rowid r ∷ [], r)

twins : (os : List Output) → AllByRecursion (λ (o : Output). o.0 ≡ rowid o.1 ∷ []) os →
    os ≡ map both (map (λ (o : Output). o.1) os)
twins [] h = refl
twins (o ∷ os) h = ap (λ keys. (keys, o.1) ∷ os) h.0 ∙ ap (λ more. both o.1 ∷ more) (twins os h.1)

-- ---- a selection of the rowid and of columns

module _ (tree : ℕ) (ps : List ℕ) where
  abbrev places : List ℕ
  places = 0 ∷ ps

  -- a row of the table as the selection shows it
  abbrev shown : Row → Row
  shown r = map (column r) places

  abbrev told : Row → Output
  told r = (rowid r ∷ [], shown r)

  evaluated : (at : List ℕ) (r : Row) → eval_all (map (col 1) at) ([] ∷ r ∷ []) ≡ map (column r) at
  evaluated [] r = refl
  evaluated (p ∷ more) r = ap (λ vs. column r p ∷ vs) (evaluated more r)

  all_told : (rs : List Row) →
      map (output (rows_query tree places)) (flat_map (λ r. ([] ∷ r ∷ []) ∷ []) rs) ≡ map told rs
  all_told [] = refl
  all_told (r ∷ rs) =
      ap₂ ◌∷◌ (ap (λ vs. (rowid r ∷ [], vs)) (evaluated places r)) (all_told rs)

  kept_rows : (db : Trees) (rows : List Row)
      (a : IsAnswer (rows_query tree places) (overlay db []) [] rows)
      → a.kept ≡ map told (db tree)
  kept_rows db rows a =
      a.distinct ∙ ap (map (output (rows_query tree places)))
      (a.grouped ∙ ap (λ rs. flat_map (λ r. ([] ∷ r ∷ []) ∷ []) rs) (bare db tree))
      ∙ all_told (db tree)

  twice : (rs : List Row) → map (λ (o : Output). o.1) (map told rs) ≡ map shown rs
  twice [] = refl
  twice (r ∷ rs) = ap (λ xs. shown r ∷ xs) (twice rs)

  shown_rows : (db : Trees) (rows : List Row) → IsAnswer (rows_query tree places) (overlay db [])
      [] rows → IsPermutation (map shown (db tree)) rows
  shown_rows db rows a =
      let shuffled = IsPermutation-map (λ (o : Output). o.1) a.kept a.ordered a.same in
      subst (λ ys. IsPermutation (map shown (db tree)) ys) (sym a.shown)
      (subst (λ xs. IsPermutation xs (map (λ (o : Output). o.1) a.ordered))
      (ap (map (λ (o : Output). o.1)) (kept_rows db rows a) ∙ twice (db tree)) shuffled)

  stored_back : (rows : List Row) → IsStored (map shown rows) → IsStored rows
  stored_back rows h = (
    ascending_from_map (λ a b. same_id a b ≡ false) shown rows h.0,
    all_from_map (λ r. IsTrue (is_int (rowid r))) shown rows h.1,
  )

  stored_shown : (rows : List Row) → IsStored rows → IsStored (map shown rows)
  stored_shown rows h = (
    ascending-map (λ a b. same_id a b ≡ false) shown rows h.0,
    all-map (λ r. IsTrue (is_int (rowid r))) shown rows h.1,
  )

  all_twins : (rows : List Row) →
      AllByRecursion (λ (o : Output). o.0 ≡ rowid o.1 ∷ []) (map told rows)
  all_twins [] = tt
  all_twins (r ∷ rows) = (refl, all_twins rows)

  sorted_ids : (rows : List Row) → IsSorted (output_cmp (rows_query tree places)) (map both rows)
      → IsSortedBy (λ a b. is_lt (value_cmp (rowid a) (rowid b))) rows
  sorted_ids rows sorted k d low high =
      let wide : k + 1 < length (map both rows) =
      subst (λ n. k + 1 < n) (sym (length-map rows both)) high in
      let one = get_or-map both rows (k + 1) d (both d) high in
      let two = get_or-map both rows k d (both d) (omega (arith, high)) in
      sym (ap is_lt (then-Equal (value_cmp (rowid (slice_index_or rows (k + 1) d))
      (rowid (slice_index_or rows k d)))))
      ∙ sym (ap₂ (λ a b. is_lt (output_cmp (rows_query tree places) a b)) one two)
      ∙ sorted k (both d) low wide

  -- ---- with a test that sees the same in a row as it is shown

  module _ (v : ℕ) (text : List ℕ) (is : IsRows v text tree places) (rule : Row → Bool)
      (same : (r : Row) → rule (shown r) ≡ rule r) (old new : State) (rows : List Row)
      (has : old.now.schema ≡ schema_at v) (h : Shown text [] old new rows) where
    abbrev table : List Row
    table = old.now.trees tree

    answer : IsAnswer (rows_query tree places) (overlay old.now.trees []) [] rows
    answer = (reads_as text [] old new (schema_at v) has
        (Select (record { lets = []; body = rows_query tree places }) is.names)
        is.command is.plain is.listing rows h).answer Null

    -- rule: rows-ruled
    pub rows_stand : Pass rule rows →
        IsStored table × AllByRecursion (λ r. IsTrue (rule r)) table
    rows_stand pass =
        let p = IsPermutation-sym _ _ (shown_rows old.now.trees rows answer) in (
          stored_back table (stored_permuted rows _ p (rising_stored rows pass.0)),
          all_weaker (λ r. IsTrue (rule (shown r))) (λ r. IsTrue (rule r))
              (λ r e. sym (same r) ∙ e) table
              (all_from_map (λ r. IsTrue (rule r)) shown table
              (all-permutation (λ r. IsTrue (rule r)) rows _ p pass.1)),
        )

    -- rule: rows-ruled
    pub rows_pass : IsStored table → AllByRecursion (λ r. IsTrue (rule r)) table → Pass rule rows
    rows_pass stored in' =
        let a = answer in
        let p = shown_rows old.now.trees rows a in
        let (apart, ints) = stored_permuted _ rows p (stored_shown table stored) in
        let twin : AllByRecursion (λ (o : Output). o.0 ≡ rowid o.1 ∷ []) a.ordered =
        all-permutation (λ (o : Output). o.0 ≡ rowid o.1 ∷ []) a.kept a.ordered a.same
        (subst (AllByRecursion (λ (o : Output). o.0 ≡ rowid o.1 ∷ []))
        (sym (kept_rows old.now.trees rows a)) (all_twins table)) in
        let whole : a.ordered ≡ map both rows =
        twins a.ordered twin ∙ ap (map both) (sym a.shown) in
        let sorted = sorted_ids rows
        (subst (IsSorted (output_cmp (rows_query tree places))) whole a.sorted) in (
          (climbs rows sorted apart, ints),
          all-permutation (λ r. IsTrue (rule r)) _ rows p
              (all-map (λ r. IsTrue (rule r)) shown table
              (all_weaker (λ r. IsTrue (rule r)) (λ r. IsTrue (rule (shown r)))
              (λ r e. same r ∙ e) table in')),
        )
