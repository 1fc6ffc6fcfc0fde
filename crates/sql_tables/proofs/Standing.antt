-- What rowids that rise say of the table.
use Rattle.std.proofs.Common.{◌≡◌, ℕ, ◌+◌, ◌<◌, length, slice_index_or, ap₂, arith}
use Rattle.std.proofs.Common.{List, [], ◌∷◌, map, flat_map, false}
use Rattle.std.proofs.Common.{IsTrue, refl, sym, ap, subst, ◌∙◌}
use Rattle.std.specs.Prelude.{codes}
use Rattle.std.specs.List.{AllByRecursion}
use Rattle.std.specs.List.Sorted.{IsPermutation, IsSorted, IsSortedBy}
use Rattle.std.specs.Ordering.{is_lt}
use Rattle.std.proofs.lemmas.List.{get_or-map, length-map}
use Rattle.std.proofs.lemmas.List.Sorted.{IsPermutation-map, IsPermutation-sym}
use Rattle.sqlite_value.specs.declared.value.Value.TheVariants.{Null}
use Rattle.sqlite_value.specs.Order.{Row, value_cmp}
use Rattle.sqlite_value.proofs.OrderLemmas.{then-Equal}
use Rattle.sqlite_trees.specs.Tree.{Trees, rowid}
use Rattle.sqlite_trees.specs.View.{is_int}
use Rattle.sqlite_trees.proofs.ListLemmas.{all-map, all-permutation, all_from_map}
use Rattle.sqlite_trees.proofs.ListLemmas.{ascending-map, ascending_from_map}
use Rattle.sqlite_sql.specs.Query.{Output, output, output_cmp, IsAnswer}
use Rattle.sqlite_sql.specs.Program.{overlay}
use Rattle.sqlite_schema.specs.declared.command.Command.TheVariants.{Select}
use Rattle.sqlite.specs.State.{State, Shown}
use Rattle.sqlite.proofs.Callers.{reads_as}
use Rattle.sql_tables.specs.Keyed.{IsStored}
use Rattle.sqlite_schema.specs.declared.schema.Table.{Table}
use Rattle.sql_tables.specs.Schema.{schema_at}
use Rattle.sql_tables.proofs.Steps.{bare}
use Rattle.sql_tables.proofs.StoredOrder.{same_id, stored_permuted, climbs}
use Rattle.sql_tables.specs.Opens.{rowids_of, IsRowids}
use Rattle.sql_tables.specs.Rises.{AreRising}

kept_ids : (tree : ℕ) (db : Trees) (rows : List Row)
    (a : IsAnswer (rowids_of tree) (overlay db []) [] rows)
    → a.kept ≡ map (λ r. (rowid r ∷ [], rowid r ∷ [])) (db tree)
kept_ids tree db rows a =
    a.distinct ∙ ap (map (output (rowids_of tree)))
    (a.grouped ∙ ap (λ rs. flat_map (λ r. ([] ∷ r ∷ []) ∷ []) rs) (bare db tree)) ∙ all (db tree)
  where
    all : (rs : List Row) → map (output (rowids_of tree)) (flat_map (λ r. ([] ∷ r ∷ []) ∷ []) rs)
        ≡ map (λ r. (rowid r ∷ [], rowid r ∷ [])) rs
    all [] = refl
    all (r ∷ rs) = ap (λ xs. (rowid r ∷ [], rowid r ∷ []) ∷ xs) (all rs)

shown_ids : (tree : ℕ) (db : Trees) (rows : List Row) → IsAnswer (rowids_of tree)
    (overlay db []) [] rows → IsPermutation (map (λ r. rowid r ∷ []) (db tree)) rows
shown_ids tree db rows a =
    let shuffled = IsPermutation-map (λ (o : Output). o.1) a.kept a.ordered a.same in
    subst (λ ys. IsPermutation (map (λ r. rowid r ∷ []) (db tree)) ys) (sym a.shown)
    (subst (λ xs. IsPermutation xs (map (λ (o : Output). o.1) a.ordered))
    (ap (map (λ (o : Output). o.1)) (kept_ids tree db rows a) ∙ twice (db tree)) shuffled)
  where
    twice : (rs : List Row) → map (λ (o : Output). o.1) (map (λ r. (rowid r ∷ [], rowid r ∷ [])) rs)
        ≡ map (λ r. rowid r ∷ []) rs
    twice [] = refl
    twice (r ∷ rs) = ap (λ xs. (rowid r ∷ []) ∷ xs) (twice rs)

stored_ids : (rows : List Row) → IsStored (map (λ r. rowid r ∷ []) rows) → IsStored rows
stored_ids rows h = (
  ascending_from_map (λ a b. same_id a b ≡ false) (λ (r : Row). rowid r ∷ []) rows h.0,
  all_from_map (λ r. IsTrue (is_int (rowid r))) (λ (r : Row). rowid r ∷ []) rows h.1,
)

pub rows_stand : (v : ℕ) (text : List ℕ) (table : Table) → IsRowids v text table
    → (old new : State) (rows : List Row) → old.now.schema ≡ schema_at v
    → Shown text [] old new rows → IsStored rows → IsStored (old.now.trees table.tree)
rows_stand v text table is old new rows has h stored =
    let read = reads_as text [] old new (schema_at v) has
    (Select (record { lets = []; body = rowids_of table.tree }) (codes "rowid" ∷ []))
    is.command is.plain is.listing rows h in
    let p = shown_ids table.tree old.now.trees rows (read.answer Null) in
    stored_ids (old.now.trees table.tree) (stored_permuted rows _ (IsPermutation-sym _ _ p) stored)

-- ---- of a table in which no rowid comes twice

ids_stored : (rows : List Row) → IsStored rows → IsStored (map (λ r. rowid r ∷ []) rows)
ids_stored rows h = (
  ascending-map (λ a b. same_id a b ≡ false) (λ (r : Row). rowid r ∷ []) rows h.0,
  all-map (λ r. IsTrue (is_int (rowid r))) (λ (r : Row). rowid r ∷ []) rows h.1,
)

abbrev both : Row → Output
both r = (r, r)

twins : (os : List Output) → AllByRecursion (λ (o : Output). o.0 ≡ o.1) os →
    os ≡ map both (map (λ (o : Output). o.1) os)
twins [] h = refl
twins (o ∷ os) h = ap (λ r. (r, o.1) ∷ os) h.0 ∙ ap (λ more. both o.1 ∷ more) (twins os h.1)

all_twins : (rows : List Row) →
    AllByRecursion (λ (o : Output). o.0 ≡ o.1) (map (λ r. (rowid r ∷ [], rowid r ∷ [])) rows)
all_twins [] = tt
all_twins (r ∷ rows) = (refl, all_twins rows)

sorted_ids : (tree : ℕ) (rows : List Row) → IsSorted (output_cmp (rowids_of tree)) (map both rows)
    → IsSortedBy (λ a b. is_lt (value_cmp (rowid a) (rowid b))) rows
sorted_ids tree rows sorted k d low high =
    let wide : k + 1 < length (map both rows) =
    subst (λ n. k + 1 < n) (sym (length-map rows both)) high in
    let one = get_or-map both rows (k + 1) d (both d) high in
    let two = get_or-map both rows k d (both d) (omega (arith, high)) in
    sym (ap is_lt (then-Equal (value_cmp (rowid (slice_index_or rows (k + 1) d))
    (rowid (slice_index_or rows k d)))))
    ∙ sym (ap₂ (λ a b. is_lt (output_cmp (rowids_of tree) a b)) one two)
    ∙ sorted k (both d) low wide

pub rows_rise : (v : ℕ) (text : List ℕ) (table : Table) → IsRowids v text table
    → (old new : State) (rows : List Row) → old.now.schema ≡ schema_at v
    → Shown text [] old new rows → IsStored (old.now.trees table.tree) → AreRising rows
rows_rise v text table is old new rows has h stored =
    let read = reads_as text [] old new (schema_at v) has
    (Select (record { lets = []; body = rowids_of table.tree }) (codes "rowid" ∷ []))
    is.command is.plain is.listing rows h in
    let a = read.answer Null in
    let p = shown_ids table.tree old.now.trees rows a in
    let (apart, ints) = stored_permuted _ rows p (ids_stored (old.now.trees table.tree) stored) in
    let twin : AllByRecursion (λ (o : Output). o.0 ≡ o.1) a.ordered =
    all-permutation (λ (o : Output). o.0 ≡ o.1) a.kept a.ordered a.same
    (subst (AllByRecursion (λ (o : Output). o.0 ≡ o.1))
    (sym (kept_ids table.tree old.now.trees rows a)) (all_twins (old.now.trees table.tree))) in
    let whole : a.ordered ≡ map both rows = twins a.ordered twin ∙ ap (map both) (sym a.shown) in
    let sorted = sorted_ids table.tree rows
    (subst (IsSorted (output_cmp (rowids_of table.tree))) whole a.sorted) in
    (climbs rows sorted apart, ints)
