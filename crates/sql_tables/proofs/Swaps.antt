-- What an upsert does to the map of its table.
use Rattle.std.proofs.Common.{◌≡◌, ◌≢◌, inl, inr, ℕ, ℤ, List, [], ◌∷◌, filter, drop}
use Rattle.std.proofs.Common.{Bool, true, false, not, ◌&&◌, cond, Some, None, Option}
use Rattle.std.proofs.Common.{Ordering, Less, Equal, Greater, is_eq, IsTrue, refl, sym, ap}
use Rattle.std.proofs.Common.{subst, ◌∙◌}
use Rattle.std.proofs.lemmas.Bool.{cases_Bool, and_from, not-true, false_from_ne_true}
use Rattle.std.specs.FinMap.{get, insert, get-from_entries, get-insert}
use Rattle.std.specs.FinMap.Entries.{find, where_key, find-where_key}
use Rattle.std.specs.List.{AllByRecursion}
use Rattle.std.specs.Ordering.{eq_by_cmp, match_ordering}
use Rattle.sqlite_value.specs.declared.value.Value.{Value}
use Rattle.sqlite_value.specs.declared.value.Value.TheVariants.{Null, Int, Real, Text, Blob}
use Rattle.sqlite_value.specs.Keys.{plain}
use Rattle.sqlite_value.specs.Order.{Row, column, row_cmp, value_cmp}
use Rattle.sqlite_value.proofs.OrderLemmas.{row_cmp_total}
use Rattle.sqlite_trees.specs.Tree.{Trees, rowid, put_row, has_rowid, without_rowid}
use Rattle.sqlite_trees.specs.View.{is_int}
use Rattle.sqlite_trees.proofs.ListLemmas.{filter_all}
use Rattle.sqlite_sql.specs.Ops.{binary, is_null}
use Rattle.sqlite_schema.specs.declared.schema.Table.{Table}
use Rattle.sqlite_schema.specs.declared.schema.Index.{Index}
use Rattle.sqlite_schema.specs.declared.schema.Schema.{Schema}
use Rattle.sqlite_schema.specs.declared.schema.Constraint.TheVariants.{Unique}
use Rattle.sqlite_schema.specs.Rules.{Fits, agree, clashes, differ, guards, passes}
use Rattle.sqlite_rules.specs.Lists.{Has}
use Rattle.sqlite_rules.specs.Keys.{conflicts}
use Rattle.sqlite_rules.specs.Edit.{id_in, next_rowid, is_taken, IsNoIndex}
use Rattle.sqlite_rules.proofs.ListLemmas.{all_has, all_from, some_from, test_has, has_filtered}
use Rattle.sqlite_rules.proofs.ListLemmas.{has_kept}
use Rattle.sqlite_rules.proofs.TableLemmas.{int_is, has_put, put_all_keeps}
use Rattle.sql_tables.specs.Keyed.{key_of, entries_of, table_of, Alike, IsStored}
use Rattle.sql_tables.proofs.Stored.{stored_filter, stored_put, same_row}
use Rattle.sql_tables.proofs.Ties.{equal_is, agree_ties}
use Rattle.sql_tables.proofs.Upserts.{Added, Moved, Upserted}
use Rattle.sql_tables.proofs.Steps.{same_test, turned, truth_told}

swapped : {A : Type 0} (a b : Bool) (x y z : A) → (a ≡ true → b ≡ true → ⊥) →
    cond a x (cond b y z) ≡ cond b y (cond a x z)
swapped true true x y z apart = absurd (apart refl refl)
swapped true false x y z apart = refl
swapped false b x y z apart = refl

covered : {A : Type 0} (b : Bool) (x y z : A) → cond b x (cond b y z) ≡ cond b x z
covered true x y z = refl
covered false x y z = refl

module _ (places : List ℕ) where
  abbrev at : Row → List Row → Option Row
  at key rows = find row_cmp key (entries_of places rows)

  abbrev pub tie : Row → Row → Bool
  tie a b = eq_by_cmp row_cmp (key_of places a) (key_of places b)

  -- the new row is found, and it hides nothing
  find-put_row : (new : Row) (rows : List Row) (key : Row) → is_taken rows new ≡ false →
      AllByRecursion (λ r. tie r new ≡ false) rows
      → at key (put_row new rows)
      ≡ cond (eq_by_cmp row_cmp key (key_of places new)) (Some (drop 1 new)) (at key rows)
  find-put_row new [] key free others = refl
  find-put_row new (r ∷ rows) key free others =
      go (value_cmp (rowid r) (rowid new)) refl (find-put_row new rows key)
    where
      apart : eq_by_cmp row_cmp key (key_of places r) ≡ true →
          eq_by_cmp row_cmp key (key_of places new) ≡ true → ⊥
      apart p q =
          let joined =
          sym (row_cmp_total.congr key (key_of places r) (key_of places new) (equal_is _ p))
          ∙ equal_is _ q in
          let same : tie r new ≡ true = ap is_eq joined in let e = sym same ∙ others.0 in cc

      go : (o : Ordering) → value_cmp (rowid r) (rowid new) ≡ o
          → (is_taken rows new ≡ false → AllByRecursion (λ r. tie r new ≡ false) rows →
          at key (put_row new rows) ≡
          cond (eq_by_cmp row_cmp key (key_of places new)) (Some (drop 1 new)) (at key rows))
          → at key (put_row new (r ∷ rows))
          ≡ cond (eq_by_cmp row_cmp key (key_of places new)) (Some (drop 1 new))
          (at key (r ∷ rows))
      go Less e later =
          let free' : is_taken rows new ≡ false = rw e at free in
          ap (at key)
          (ap (λ o. match_ordering o (r ∷ put_row new rows) (new ∷ rows) (new ∷ r ∷ rows)) e) ∙ ap
          (cond (eq_by_cmp row_cmp key (key_of places r)) (Some (drop 1 r))) (later free' others.1)
          ∙ swapped (eq_by_cmp row_cmp key (key_of places r))
          (eq_by_cmp row_cmp key (key_of places new)) _ _ _ apart
      go Equal e later = absurd (let taken : true ≡ false = rw e at free in cc)
      go Greater e later =
          ap (at key) (ap (λ o. match_ordering o (r ∷ put_row new rows) (new ∷ rows)
          (new ∷ r ∷ rows)) e)

  filter_same : (p q : Row → Bool) (rows : List Row) → ((r : Row) → Has rows r → p r ≡ q r) →
      filter p rows ≡ filter q rows
  filter_same p q [] same = refl
  filter_same p q (r ∷ rows) same =
      rw (same r (inl refl), filter_same p q rows (λ x h. same x (inr h))) refl

  pub entries-filter : (p : Row → Bool) (rows : List Row) → entries_of places
      (filter (λ r. p (key_of places r)) rows) ≡ where_key row_cmp p (entries_of places rows)
  entries-filter p [] = refl
  entries-filter p (r ∷ rows) = elim (cases_Bool (p (key_of places r))) [
    | inl e ↦ rw (e, entries-filter p rows) refl
    | inr e ↦ rw (e, entries-filter p rows) refl
  ]

  -- the rows with the key of the new one are gone, and it is there
  pub swaps : (rows left next : List Row) (new : Row) →
      left ≡ filter (λ r. not (tie r new)) rows → is_taken left
      new ≡ false → next ≡ put_row new left
      → Alike (table_of places next)
      (insert (table_of places rows) (key_of places new) (drop 1 new))
  swaps rows left next new left_is free is key =
      let k = key_of places new in
      let p = λ (x : Row). not (eq_by_cmp row_cmp x k) in
      let alike = λ (x : Row) (e : row_cmp key x ≡ Equal). ap (λ o. not (is_eq o))
      (sym (row_cmp_total.congr key x k e)) in
      let kept : at key left ≡ cond (eq_by_cmp row_cmp key k) None (at key rows) =
      ap (at key) left_is
      ∙ ap (find row_cmp key) (entries-filter p rows)
      ∙ find-where_key row_cmp p key alike
      (entries_of places rows) ∙ turned (eq_by_cmp row_cmp key k) (at key rows) None in
      let others : AllByRecursion (λ r. tie r new ≡ false) left = all_from _ left
      (λ r h. not-true _
      (has_filtered (λ r. not (tie r new)) rows r (subst (λ rs. Has rs r) left_is h)).1) in
      get-from_entries row_cmp_total (entries_of places next) key
      ∙ ap (at key) is
      ∙ find-put_row new left key free
      others ∙ ap (cond (eq_by_cmp row_cmp key k) (Some (drop 1 new))) kept
      ∙ covered (eq_by_cmp row_cmp key k) (Some (drop 1 new)) None (at key rows)
      ∙ sym (get-insert row_cmp_total (table_of places rows) k (drop 1 new) key ∙ ap
      (cond (eq_by_cmp row_cmp key k) (Some (drop 1 new))) (get-from_entries row_cmp_total
      (entries_of places rows) key))

pub differ_ints : (a b : Value) → IsTrue (is_int a) → IsTrue (is_int b) →
    is_eq (value_cmp a b) ≡ false → differ a b
    ≡ true
unfolding binary
differ_ints (Int m) (Int n) p q e = truth_told _ ∙ apart _ e
  where
    apart : (o : Ordering) → is_eq o ≡ false → Rattle.std.specs.Ordering.is_ne o ≡ true
    apart Less h = refl
    apart Equal h = absurd (cc)
    apart Greater h = refl
differ_ints Null b p q e = absurd (cc)
differ_ints (Real x) b p q e = absurd (cc)
differ_ints (Text x) b p q e = absurd (cc)
differ_ints (Blob x) b p q e = absurd (cc)
differ_ints (Int m) Null p q e = absurd (cc)
differ_ints (Int m) (Real x) p q e = absurd (cc)
differ_ints (Int m) (Text x) p q e = absurd (cc)
differ_ints (Int m) (Blob x) p q e = absurd (cc)

-- the map of the table has the row, its rowids are as they must be, and each other tree is as it
-- was
pub record PutsRow (places : List ℕ) (schema : Schema) (table : Table) (values : Row)
    (db next : Trees) : Type 0 where
  pub rows : Alike (table_of places (next table.tree)) (insert (table_of places (db table.tree))
      (key_of places (Null ∷ values)) values)
  pub stored : IsStored (next table.tree)
  pub others : (t : ℕ) → t ≢ table.tree → IsNoIndex schema t → next t ≡ db t

module _ (places : List ℕ) (schema : Schema) (table : Table) (tabled : Has schema.tables table)
    (index : Index) (listed : Has schema.indexes index)
    (guarding : guards index table ≡ true) (order : index.order ≡ plain)
    (columns : index.columns ≡ places) where
  pub no_clash : (db : Trees) → Fits schema db → (row other : Row) → Has (db table.tree) row →
      Has (db table.tree) other → agree plain places other places row ≡ true →
      differ (rowid other) (rowid row) ≡ true → ⊥
  no_clash db fits row other has h same apart =
      let pass : passes Unique schema db table row ≡ true = all_has _ (db table.tree) row
      (all_has _ schema.tables table (fits.rules Unique (λ e. let e' = e in cc)) tabled) has in
      let none : not (guards index table && clashes index.order index.columns (db table.tree) row)
      ≡ true = test_has _ schema.indexes index pass listed in
      let clash : clashes index.order index.columns (db table.tree) row ≡ true =
      rw (order, columns)
      (some_from (λ x. agree plain places x places row && differ (rowid x) (rowid row))
      (db table.tree) other h (and_from _ _ same apart)) in
      let e : false ≡ true = sym (ap not (and_from _ _ guarding clash)) ∙ none in cc

  module _ (values : Row) (db next : Trees) (stored : IsStored (db table.tree))
      (keys : (v : Value) → key_of places (v ∷ values) ≡ key_of places (Null ∷ values))
      (full : (id : ℤ) → AllByRecursion (λ p. is_null (column (Int id ∷ values) p) ≡ false) places)
      (meets : (id : ℤ) (row : Row) →
      conflicts (Some places) schema.indexes table (Int id ∷ values) row ≡ eq_by_cmp
      row_cmp (key_of places row) (key_of places (Int id ∷ values))) where
    abbrev rows : List Row
    rows = db table.tree

    added : Added schema table places values db next → PutsRow places schema table values db next
    added a =
        let new = Int (next_rowid rows) ∷ values in
        let none : AllByRecursion (λ r. not (tie places r new) ≡ true) rows = all_from _ rows
        (λ r h. ap not (false_from_ne_true _ (λ e. a.none r h (meets (next_rowid rows) r ∙ e)))) in
        record {
          rows = subst (λ k.
              Alike (table_of places (next table.tree)) (insert (table_of places rows) k values))
              (keys (Int (next_rowid rows)))
              (swaps places rows rows (next table.tree) new (sym
              (filter_all (λ r. not (tie places r new)) rows none)) a.put.fresh a.put.rows);
          stored = subst IsStored (sym a.put.rows) (stored_put new rows refl a.put.fresh stored);
          others = a.put.others;
        }

    moved : Moved schema table places values db next → PutsRow places schema table values db next
    moved m =
        let id = id_in (rowid m.there) in
        let new = Int id ∷ values in
        let left = without_rowid id rows in
        let int = all_has _ rows m.there stored.1 m.has in
        let is : rowid m.there ≡ Int id = int_is (rowid m.there) int in
        let to_key : (r : Row) → Has rows r → has_rowid id r ≡ true → tie places r new ≡ true =
        λ r h e. let same : r ≡ m.there = same_row rows r m.there stored.0 h m.has
        (ap (λ v. is_eq (value_cmp (rowid r) v)) is ∙ e) in
        ap (λ x. tie places x new) same ∙ ap (eq_by_cmp row_cmp (key_of places m.there))
        (keys (Int id) ∙ sym (keys (Int (next_rowid rows))))
        ∙ sym (meets (next_rowid rows) m.there)
        ∙
        m.meets in
        let kept : (r : Row) → Has left r → Has (next table.tree) r =
        λ r h. subst (λ rs. Has rs r) (sym m.put.rows)
        (put_all_keeps (new ∷ []) left r (rw m.put.fresh refl) h) in
        let to_rowid : (r : Row) → Has rows r → tie places r new ≡ true → has_rowid id r ≡ true =
        λ r h e. elim (cases_Bool (has_rowid id r)) [
          | inl goes ↦ goes
          | inr stays ↦ absurd (no_clash next m.put.fits new r
              (subst (λ rs. Has rs new) (sym m.put.rows) (has_put new left))
              (kept r (has_kept (λ x. not (has_rowid id x)) rows r h (ap not stays)))
              (agree_ties places r new (full id) ∙ e) (differ_ints (rowid r) (Int id)
              (all_has _ rows r stored.1 h) refl stays))
        ] in
        record {
          rows = subst (λ k.
              Alike (table_of places (next table.tree)) (insert (table_of places rows) k values))
              (keys (Int id))
              (swaps places rows left (next table.tree) new (filter_same places _ _ rows
              (λ r h.
              ap not (same_test (has_rowid id r) (tie places r new) (to_key r h) (to_rowid r h))))
              m.put.fresh m.put.rows);
          stored = subst IsStored (sym m.put.rows) (stored_put new left refl m.put.fresh
              (stored_filter (λ r. not (has_rowid id r)) rows stored));
          others = m.put.others;
        }

    pub puts_key : Upserted schema table places values db next →
        PutsRow places schema table values db next
    puts_key (inl a) = added a
    puts_key (inr m) = moved m
