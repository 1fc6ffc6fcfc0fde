-- What DELETE .. WHERE of some columns makes of its table.
use Rattle.std.proofs.Common.{◌≡◌, ◌≢◌, inl, inr, ℕ, ℤ, pos, negsuc, List, [], ◌∷◌, map}
use Rattle.std.proofs.Common.{filter, flat_map, take, length, slice_get, Bool, true, false, not}
use Rattle.std.proofs.Common.{◌&&◌, cond, Some, None, Option, Ok, Ordering, Less}
use Rattle.std.proofs.Common.{Equal, Greater, is_eq, refl, sym, ap, subst, ◌∙◌}
use Rattle.std.proofs.lemmas.Bool.{cases_Bool}
use Rattle.std.proofs.lemmas.List.Sorted.{IsPermutation-map, IsPermutation-sym}
use Rattle.std.specs.List.Sorted.{IsPermutation}
use Rattle.std.specs.FinMap.{get, get-from_entries}
use Rattle.std.specs.FinMap.Entries.{find, where_key, find-where_key}
use Rattle.std.specs.List.{list_any, list_all}
use Rattle.std.specs.Ordering.{eq_by_cmp}
use Rattle.sqlite_value.specs.declared.value.Value.TheVariants.{Null, Int}
use Rattle.sqlite_value.specs.Order.{Row, row_cmp, value_cmp}
use Rattle.sqlite_value.proofs.OrderLemmas.{value_cmp_total, row_cmp_total}
use Rattle.std.proofs.lemmas.Cmp.{tied_itself}
use Rattle.sqlite_trees.specs.Tree.{Trees, rowid, has_rowid, without_rowid}
use Rattle.sqlite_sql.specs.Term.{Term, lit, col, holds}
use Rattle.sqlite_sql.specs.Query.{Query, inner, end, Output, output, IsAnswer}
use Rattle.sqlite_sql.specs.Program.{overlay}
use Rattle.sqlite_schema.specs.declared.schema.Table.{Table}
use Rattle.sqlite_schema.specs.declared.schema.Schema.{Schema}
use Rattle.sqlite_schema.specs.declared.schema.Keys.TheVariants.{Enforced}
use Rattle.sqlite_schema.specs.declared.command.Command.TheVariants.{Delete}
use Rattle.sqlite_rules.specs.declared.error.Rowids.TheVariants.{Given}
use Rattle.sqlite_rules.specs.Lists.{Has}
use Rattle.sqlite_rules.specs.Calls.{ids_of}
use Rattle.sqlite_rules.specs.Edit.{edit_of, id_in, taken_by, IsNoIndex, without_all}
use Rattle.sqlite_rules.specs.Action.{works}
use Rattle.sqlite_rules.proofs.ListLemmas.{all_has, some_has, some_from, has_filtered, has_kept}
use Rattle.sqlite_rules.proofs.TableLemmas.{int_is}
use Rattle.sqlite_rules.proofs.ProbeLemmas.{mapped_has}
use Rattle.sqlite.specs.Does.{Tally}
use Rattle.sqlite.specs.Rows.{Written, Task, Deletes}
use Rattle.sqlite.specs.Effect.{Database, Answers}
use Rattle.sqlite.specs.State.{State, Writes}
use Rattle.sqlite.proofs.Callers.{one_step}
use Rattle.sql_tables.specs.Keyed.{key_of, entries_of, table_of, IsStored}
use Rattle.sql_tables.proofs.Stored.{stored_filter, same_row}
use Rattle.sql_tables.proofs.Swaps.{entries-filter}
use Rattle.sql_tables.proofs.Steps.{went, same_value, bare, same_test, permuted, turned}
use Rattle.sql_tables.proofs.Steps.{mapped_from, does_over}

-- the query of DELETE: the rowids of the rows that match
abbrev pub rowids_where : ℕ → List Term → Query
rowids_where tree filter = record {
  from = inner tree end;
  filter = filter;
  group = None;
  project = col 1 0 ∷ [];
  distinct = false;
  collations = [];
  order = [];
  limit = lit (Int (negsuc 0));
  offset = lit (Int (pos 0));
}

abbrev gone_by : List ℤ → Row → Bool
gone_by ids r = list_any (λ id. has_rowid id r) ids

filter_twice : (p q : Row → Bool) (rows : List Row) →
    filter q (filter p rows) ≡ filter (λ r. p r && q r) rows
filter_twice p q [] = refl
filter_twice p q (r ∷ rows) = elim (cases_Bool (p r)) [
  | inl e ↦ rw (e, filter_twice p q rows) refl
  | inr e ↦ rw (e, filter_twice p q rows) refl
]

not_or : (a b : Bool) → (not a && not b) ≡ not (Rattle.std.proofs.Common.◌||◌ a b)
not_or true b = refl
not_or false b = refl

without_is : (ids : List ℤ) (rows : List Row) →
    without_all rows ids ≡ filter (λ r. not (gone_by ids r)) rows
without_is [] [] = refl
without_is [] (r ∷ rows) = ap (λ xs. r ∷ xs) (without_is [] rows)
without_is (id ∷ ids) rows = without_is ids (without_rowid id rows)
    ∙ filter_twice (λ r. not (has_rowid id r)) (λ r. not (gone_by ids r)) rows
    ∙ (λ i. filter (λ r. not_or (has_rowid id r) (gone_by ids r) i) rows)

filter_same : (p q : Row → Bool) (rows : List Row) → ((r : Row) → Has rows r → p r ≡ q r) →
    filter p rows ≡ filter q rows
filter_same p q [] same = refl
filter_same p q (r ∷ rows) same =
    rw (same r (inl refl), filter_same p q rows (λ x h. same x (inr h))) refl

-- the rows that match are gone, and each other tree is as it was
pub record Removed (schema : Schema) (table : Table) (test : Row → Bool)
    (db next : Trees) : Type 0 where
  pub rows : next table.tree ≡ filter (λ r. not (test r)) (db table.tree)
  pub others : (t : ℕ) → t ≢ table.tree → IsNoIndex schema t → next t ≡ db t

module _ (limit : Option ℕ) (schema : Schema) (table : Table) (params : Row) (terms : List Term)
    (test : Row → Bool) (db : Trees) (stored : IsStored (db table.tree))
    (kept : (olds : List Row) → works schema Enforced 0 table.tree olds [] ≡ [])
    (tests : (r : Row) → list_all (holds (params ∷ r ∷ [])) terms ≡ test r) where
  abbrev task : Task
  task = record { limit = limit; keys = Enforced; schema = schema; table = table; params = params }

  abbrev query : Query
  query = rowids_where table.tree terms

  abbrev rows : List Row
  rows = db table.tree

  matched : (rs : List Row) →
      map (output query) (flat_map (λ r. cond (list_all (holds (params ∷ r ∷ [])) terms)
      ((params ∷ r ∷ []) ∷ []) []) rs) ≡ map (λ r. ([], rowid r ∷ [])) (filter test rs)
  matched [] = refl
  matched (r ∷ rs) = elim (cases_Bool (test r)) [
    | inl e ↦ rw (tests r, e, matched rs) refl
    | inr e ↦ rw (tests r, e, matched rs) refl
  ]

  -- the answer has the rowids of the rows that match
  answered : (out : List Row) → IsAnswer query (overlay db []) params out → IsPermutation
      (map (λ r. rowid r ∷ []) (filter test rows)) out
  answered out a =
      let kept' : a.kept ≡ map (λ r. ([], rowid r ∷ [])) (filter test rows) =
      a.distinct ∙ ap (map (output query)) (a.grouped ∙ ap (λ rs. flat_map
      (λ r. cond (list_all (holds (params ∷ r ∷ [])) terms) ((params ∷ r ∷ []) ∷ []) []) rs)
      (bare db table.tree)) ∙ matched rows in
      let shuffled : IsPermutation (map (λ (o : Output). o.1) a.kept)
      (map (λ (o : Output). o.1) a.ordered) =
      IsPermutation-map (λ (o : Output). o.1) a.kept a.ordered a.same in
      subst (λ ys. IsPermutation (map (λ r. rowid r ∷ []) (filter test rows)) ys) (sym a.shown)
      (subst (λ xs. IsPermutation xs (map (λ (o : Output). o.1) a.ordered))
      (ap (map (λ (o : Output). o.1)) kept' ∙ twice (filter test rows)) shuffled)
    where
      twice : (rs : List Row) → map (λ (o : Output). o.1) (map (λ r. ([], rowid r ∷ [])) rs) ≡ map
          (λ r. rowid r ∷ []) rs
      twice [] = refl
      twice (r ∷ rs) = ap (λ xs. (rowid r ∷ []) ∷ xs) (twice rs)

  id_is : (row : Row) → Has rows row → rowid row ≡ Int (id_in (rowid row))
  id_is row h = int_is (rowid row) (all_has _ rows row stored.1 h)

  own_id : (row : Row) → Has rows row → has_rowid (id_in (rowid row)) row ≡ true
  own_id row h = ap (λ v. is_eq (value_cmp (rowid row) v)) (sym (id_is row h)) ∙ ap is_eq
      (tied_itself value_cmp_total (rowid row))

  goes : (out : List Row) → IsPermutation (map (λ r. rowid r ∷ []) (filter test rows)) out
      → (r : Row) → Has rows r → gone_by (ids_of out) r ≡ test r
  goes out shuffled r h = same_test (gone_by (ids_of out) r) (test r) to from
    where
      to : gone_by (ids_of out) r ≡ true → test r ≡ true
      to e =
          let some = some_has (λ id. has_rowid id r) (ids_of out) e in
          let x = mapped_from (λ (o : Row). id_in (rowid o)) out some.0 some.1 in
          let back = mapped_from (λ (o : Row). rowid o ∷ []) (filter test rows) x.0
          (permuted _ _ x.0 (IsPermutation-sym _ _ shuffled) x.1) in
          let it = has_filtered test rows back.0 back.1 in
          let id : some.0 ≡ id_in (rowid back.0) = x.2 ∙ ap (λ (o : Row). id_in (rowid o)) back.2 in
          let tied : is_eq (value_cmp (rowid r) (rowid back.0)) ≡ true =
          ap (λ v. is_eq (value_cmp (rowid r) v)) (id_is back.0 it.0 ∙ ap Int (sym id)) ∙ some.2 in
          let same : r ≡ back.0 = same_row rows r back.0 stored.0 h it.0 tied in
          ap test same ∙ it.1

      from : test r ≡ true → gone_by (ids_of out) r ≡ true
      from e =
          let here = permuted _ out (rowid r ∷ []) shuffled (mapped_has (λ (o : Row). rowid o ∷ [])
          (filter test rows) r (has_kept test rows r h e)) in
          some_from (λ id. has_rowid id r) (ids_of out) (id_in (rowid r))
          (mapped_has (λ (o : Row). id_in (rowid o)) out (rowid r ∷ []) here) (own_id r h)

  removes : (one : Written) → Deletes task (record { lets = []; body = query }) db (Ok one) →
      Removed schema table test db one.trees
  removes one h =
      let q = went h in
      let a : Answers (record { schema = schema; trees = db })
      (record { lets = []; body = query }) params q.0 = q.1 in
      let it = went q.2 in
      let edit = edit_of db table (ids_of q.0) Given 0 [] in
      let done = one_step schema Enforced db it.0 edit (kept (taken_by db edit)) it.1 in
      let trees : one.trees ≡ it.0 = ap (λ (w : Written). w.trees) (same_value it.2) in
      let shuffled = answered q.0 (a.answer Null) in
      record {
        rows = ap (λ (t : Trees). t table.tree) trees
            ∙ done.rows
            ∙ without_is (ids_of q.0) rows
            ∙ filter_same _ _ rows (λ r has. ap not (goes q.0 shuffled r has));
        others = λ t other free. ap (λ (d : Trees). d t) trees ∙ done.others t other free;
      }

-- the same of the whole statement
module _ (schema : Schema) (at : ℕ) (table : Table)
    (there : slice_get schema.tables at ≡ Some table) (params : Row)
    (terms : List Term) (test : Row → Bool)
    (kept : (olds : List Row) → works schema Enforced 0 table.tree olds [] ≡ [])
    (tests : (r : Row) → list_all (holds (params ∷ r ∷ [])) terms ≡ test r) where
  pub removes_rows : (old new : State) (text : List ℕ) (count : ℕ) →
      old.now.schema ≡ schema → IsStored (old.now.trees table.tree)
      → Writes old new None
      (Delete at (record { lets = []; body = rowids_where table.tree terms })) text params count
      → (new.now.schema ≡ schema) × Removed schema table test old.now.trees new.now.trees
  removes_rows old new text count has stored w =
      let does = does_over has w in
      let done = went (rw there at does) in
      let concluded = went (went done.2).2 in
      let now = ap (λ (p : Tally × Database). p.1) (same_value concluded.2) in (
        ap (λ (d : Database). d.schema) now,
        subst (Removed schema table test old.now.trees) (sym (ap (λ (d : Database). d.trees) now))
            (removes old.step_limit schema table params terms test old.now.trees stored kept tests
            done.0 done.1),
      )

-- ---- the map of the table

tied_parts : (o p : Ordering) → Rattle.std.specs.Ordering.ordering_then o p ≡ Equal →
    (o ≡ Equal) × (p ≡ Equal)
tied_parts Less p h = absurd (cc)
tied_parts Equal p h = (refl, h)
tied_parts Greater p h = absurd (cc)

tied_fronts : (n : ℕ) (a b : Row) → row_cmp a b ≡ Equal → row_cmp (take n a) (take n b) ≡ Equal
tied_fronts Rattle.std.proofs.Common.zero a b h = refl
tied_fronts (Rattle.std.proofs.Common.suc n) [] [] h = refl
tied_fronts (Rattle.std.proofs.Common.suc n) [] (y ∷ b) h = h
tied_fronts (Rattle.std.proofs.Common.suc n) (x ∷ a) [] h = h
tied_fronts (Rattle.std.proofs.Common.suc n) (x ∷ a) (y ∷ b) h =
    let both = tied_parts (value_cmp x y) (row_cmp a b) h in rw (both.0) (tied_fronts n a b both.1)

-- the rows whose key begins with these values are gone
pub record RemovesRows (places : List ℕ) (schema : Schema) (table : Table) (wanted : Row)
    (db next : Trees) : Type 0
  where
    pub rows : (key : Row) → get (table_of places (next table.tree)) key ≡ cond
        (eq_by_cmp row_cmp (take (length wanted) key) wanted) None
        (get (table_of places (db table.tree)) key)
    pub stored : IsStored (next table.tree)
    pub others : (t : ℕ) → t ≢ table.tree → IsNoIndex schema t → next t ≡ db t

pub removes_key : (places : List ℕ) (schema : Schema) (table : Table) (wanted : Row)
    (test : Row → Bool) (db next : Trees)
    → ((r : Row) → test r ≡ eq_by_cmp row_cmp (take (length wanted) (key_of places r)) wanted)
    → IsStored (db table.tree) → Removed schema table test db next
    → RemovesRows places schema table wanted db next
removes_key places schema table wanted test db next means stored r =
    let p = λ (k : Row). not (eq_by_cmp row_cmp (take (length wanted) k) wanted) in
    let is : next table.tree ≡ filter (λ x. p (key_of places x)) (db table.tree) = r.rows
    ∙ filter_same _ _ (db table.tree) (λ x h. ap not (means x)) in
    record {
      rows = λ key.
          let alike = λ (x : Row) (e : row_cmp key x ≡ Equal). ap (λ o. not (is_eq o))
          (sym (row_cmp_total.congr (take (length wanted) key) (take (length wanted) x) wanted
          (tied_fronts (length wanted) key x e))) in
          get-from_entries row_cmp_total (entries_of places (next table.tree)) key ∙ ap
          (λ rs. find row_cmp key (entries_of places rs)) is ∙ ap (find row_cmp key)
          (entries-filter places p (db table.tree))
          ∙ find-where_key row_cmp p key alike (entries_of places (db table.tree)) ∙ turned
          (eq_by_cmp row_cmp (take (length wanted) key) wanted)
          (find row_cmp key (entries_of places (db table.tree))) None
          ∙ ap (cond (eq_by_cmp row_cmp (take (length wanted) key) wanted) None)
          (sym (get-from_entries row_cmp_total (entries_of places (db table.tree)) key));
      stored =
          subst IsStored (sym r.rows) (stored_filter (λ x. not (test x)) (db table.tree) stored);
      others = r.others;
    }
