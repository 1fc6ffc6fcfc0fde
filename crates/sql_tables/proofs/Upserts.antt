-- What INSERT .. ON CONFLICT (key) DO UPDATE of one row makes of its table.
use Rattle.std.proofs.Common.{◌≡◌, ◌≢◌, ◌⊎◌, inl, inr, ℕ, ℤ, pos, negsuc, List, [], ◌∷◌, ◌++◌, map}
use Rattle.std.proofs.Common.{flat_map, length, slice_get, drop, true, false, not, ◌&&◌, cond}
use Rattle.std.proofs.Common.{◌/◌, ◌<◌, Some, None, Option, Ok}
use Rattle.std.proofs.Common.{IsTrue, refl, sym, ap, subst, ◌∙◌, arith}
use Rattle.std.proofs.lemmas.Bool.{cases_Bool, and_parts, not-true}
use Rattle.std.proofs.lemmas.Cmp.{tied_itself}
use Rattle.std.proofs.lemmas.List.Sorted.{length_permutation}
use Rattle.std.specs.List.{AllByRecursion}
use Rattle.std.specs.Ordering.{is_eq}
use Rattle.sqlite_value.specs.declared.value.Value.{Value}
use Rattle.sqlite_value.specs.declared.value.Value.TheVariants.{Null, Int}
use Rattle.sqlite_value.specs.declared.keys.Collation.TheVariants.{Binary}
use Rattle.sqlite_value.specs.Order.{Row, column, value_cmp}
use Rattle.sqlite_value.proofs.OrderLemmas.{value_cmp_total}
use Rattle.sqlite_trees.specs.Tree.{Trees, rowid, put_row, without_rowid}
use Rattle.sqlite_trees.specs.View.{is_int}
use Rattle.sqlite_trees.proofs.ListLemmas.{all-permutation}
use Rattle.sqlite_sql.specs.declared.ops.BinaryOp.TheVariants.{Compare}
use Rattle.sqlite_sql.specs.declared.ops.CompareOp.TheVariants.{Eq}
use Rattle.sqlite_sql.specs.Term.{Term, lit, col, op2, eval_all}
use Rattle.sqlite_sql.specs.Query.{Query, inner, end, Output, output, IsAnswer}
use Rattle.sqlite_sql.specs.Program.{overlay}
use Rattle.sqlite_schema.specs.Rules.{Fits, equal}
use Rattle.sqlite_schema.specs.declared.schema.Table.{Table}
use Rattle.sqlite_schema.specs.declared.schema.Schema.{Schema}
use Rattle.sqlite_schema.specs.declared.schema.Keys.TheVariants.{Enforced}
use Rattle.sqlite_schema.specs.declared.command.Source.TheVariants.{Values}
use Rattle.sqlite_schema.specs.declared.command.Conflict.TheVariants.{Abort}
use Rattle.sqlite_schema.specs.declared.command.Upsert.{Upsert}
use Rattle.sqlite_schema.specs.declared.command.Command.TheVariants.{InsertOr}
use Rattle.sqlite_rules.specs.declared.error.Rowids.TheVariants.{Given}
use Rattle.sqlite_rules.specs.Cast.{cast_row}
use Rattle.sqlite_rules.specs.Keys.{AreConflicts, conflicts}
use Rattle.sqlite_rules.specs.Lists.{Has}
use Rattle.sqlite_rules.specs.Calls.{ids_of}
use Rattle.sqlite_rules.specs.Edit.{Edit, edit_of, left_by, id_in, next_rowid, is_taken}
use Rattle.sqlite_rules.specs.Edit.{are_fresh, taken_by, Applies, IsNoIndex}
use Rattle.sqlite_rules.specs.Edit.{without_all, put_all}
use Rattle.sqlite_rules.specs.Action.{works, Writes as Settling}
use Rattle.sqlite_rules.proofs.ActionLemmas.{no_works}
use Rattle.sqlite_rules.proofs.ListLemmas.{all_has, some_from}
use Rattle.sqlite_rules.proofs.TableLemmas.{int_is, has_put}
use Rattle.sqlite_rules.proofs.PlaceLemmas.{given as given_news}
use Rattle.sqlite.specs.Rows.{Written, Task, Clears, Puts, Upserts, Meets, Resolves}
use Rattle.sqlite.specs.Rows.{stamped, shown}
use Rattle.sqlite.specs.Effect.{Answers, value_rows}
use Rattle.sqlite.specs.State.{State, Writes}
use Rattle.std.proofs.lemmas.List.{length-map}
use Rattle.sqlite.proofs.Callers.{one_step}
use Rattle.sql_tables.proofs.Ties.{same_ints, equals_itself}
use Rattle.sql_tables.proofs.Steps.{went, same_value, bare}
use Rattle.sql_tables.proofs.OneRow.{says_of_statement}

-- the query of DO UPDATE: the rowid and the new row, where the rowid is that of the row that is met
abbrev pub pick : ℕ → ℕ → List Term → Query
pick tree base project = record {
  from = inner tree end;
  filter = op2 (Compare Eq Binary) (col 1 0) (col 0 base) ∷ [];
  group = None;
  project = project;
  distinct = false;
  collations = [];
  order = [];
  limit = lit (Int (negsuc 0));
  offset = lit (Int (pos 0));
}

-- the table has the new row among these, and each other tree is as it was
pub record Put (schema : Schema) (table : Table) (new : Row) (before : List Row)
    (old next : Trees) : Type 0 where
  pub fresh : is_taken before new ≡ false
  pub rows : next table.tree ≡ put_row new before
  pub others : (t : ℕ) → t ≢ table.tree → IsNoIndex schema t → next t ≡ old t
  pub fits : Fits schema next

-- no row meets the new one, which is there under a new rowid
pub record Added (schema : Schema) (table : Table) (target : List ℕ) (values : Row)
    (db next : Trees) : Type 0 where
  pub none : (r : Row) → Has (db table.tree) r → conflicts (Some target) schema.indexes table
      (Int (next_rowid (db table.tree)) ∷ values) r ≡ true → ⊥
  pub put : Put schema table (Int (next_rowid (db table.tree)) ∷ values) (db table.tree) db next

-- a row meets it, and it is there under the rowid of that row, which is gone
pub record Moved (schema : Schema) (table : Table) (target : List ℕ) (values : Row)
    (db next : Trees) : Type 0 where
  pub there : Row
  pub has : Has (db table.tree) there
  pub meets : conflicts (Some target) schema.indexes table
      (Int (next_rowid (db table.tree)) ∷ values) there ≡ true
  pub put : Put schema table (Int (id_in (rowid there)) ∷ values)
      (without_rowid (id_in (rowid there)) (db table.tree)) db next

abbrev pub Upserted : Schema → Table → List ℕ → Row → Trees → Trees → Type 0
Upserted schema table target values db next = Added schema table target values db next
    ⊎ Moved schema table target values db next

step_made : (schema : Schema) (db next : Trees) (edit : Edit) →
    Settling schema Enforced db edit (Ok next) →
    (mid : Trees) × Applies schema Enforced db edit mid
step_made schema db next edit (inl refused) = absurd (let e = refused.2 in cc)
step_made schema db next edit (inr (inl big)) = absurd (let e = big.3 in cc)
step_made schema db next edit (inr (inr it)) = (it.0, it.1)

false_is_true : false ≡ true → ⊥
false_is_true e = cc

-- the same row cannot go in twice
once : (before : List Row) (a : Row) (more : List Row) → are_fresh before (a ∷ a ∷ more) ≡ true → ⊥
once before a more fresh =
    let later : are_fresh (put_row a before) (a ∷ more) ≡ true = (and_parts _ _ fresh).1 in
    let free : not (is_taken (put_row a before) a) ≡ true = (and_parts _ _ later).0 in
    let taken : is_taken (put_row a before) a ≡ true =
    some_from (λ r. is_eq (value_cmp (rowid r) (rowid a)))
    (put_row a before) a (has_put a before) (ap is_eq (tied_itself value_cmp_total (rowid a))) in
    false_is_true (sym (ap not taken) ∙ free)

-- the row of these values is stored as it is and makes no other work, and the query of DO UPDATE
-- finds the row that is met and shows its rowid with these values
pub record IsUpsertOf (schema : Schema) (table : Table) (params values : Row) (base : ℕ)
    (project : List Term) : Type 0 where
  pub kept : (olds : List Row) (new : Row) →
      works schema Enforced 0 table.tree olds (new ∷ []) ≡ []
  pub again : (id : ℤ) → cast_row table (Int id ∷ values) ≡ Int id ∷ values
  pub plain : cast_row table (Null ∷ values) ≡ Null ∷ values
  pub shows : (id : ℤ) (there : Value) (r : Row) → eval_all project
      ((params ++ there ∷ shown table (Int id ∷ values)) ∷ r ∷ []) ≡ rowid r ∷ rowid r ∷ values
  pub finds : (id : ℤ) (there : Value) →
      column (params ++ there ∷ shown table (Int id ∷ values)) base ≡ there

-- a list of the same, and not empty
abbrev Copies : {X : Type 0} → X → List X → Type 0
Copies x xs = AllByRecursion (λ y. y ≡ x) xs × (0 < length xs)

module _ (limit : Option ℕ) (schema : Schema) (table : Table) (params values : Row) (base : ℕ)
    (target : List ℕ) (project : List Term) (db : Trees)
    (keyed : AllByRecursion (λ r. IsTrue (is_int (rowid r))) (db table.tree))
    (upsert : IsUpsertOf schema table params values base project) where
  abbrev task : Task
  task = record { limit = limit; keys = Enforced; schema = schema; table = table; params = params }

  abbrev new : Row
  new = Int (next_rowid (db table.tree)) ∷ values

  abbrev query : Query
  query = pick table.tree base project

  abbrev given : Value → Row
  given there = params ++ there ∷ shown table new

  -- what the query shows of a row
  abbrev picked : Value → Row → Output
  picked there r = ([], rowid r ∷ rowid r ∷ values)

  matched : (there : Value) (rows : List Row) → map (output query)
      (flat_map (λ r. cond (equal Binary (rowid r) (column (given there) base) && true)
      ((given there ∷ r ∷ []) ∷ []) []) rows)
      ≡ map (picked there)
      (Rattle.std.specs.Prelude.filter (λ r. equal Binary (rowid r) there) rows)
  matched there [] = refl
  matched there (r ∷ rows) = elim (cases_Bool (equal Binary (rowid r) there)) [
    | inl e ↦ rw (
      upsert.finds (next_rowid (db table.tree)) there,
      e,
      matched there rows,
      upsert.shows
          (next_rowid (db table.tree)) there r,
    ) refl
    | inr e ↦ rw (upsert.finds (next_rowid (db table.tree)) there, e, matched there rows) refl
  ]

  all_picked : (there : Value) (rows : List Row) →
      AllByRecursion (λ r. IsTrue (is_int (rowid r))) rows → IsTrue
      (is_int there)
      → AllByRecursion (λ o. o ≡ ([], there ∷ there ∷ values)) (map (picked there)
      (Rattle.std.specs.Prelude.filter (λ r. equal Binary (rowid r) there) rows))
  all_picked there [] ints int = tt
  all_picked there (r ∷ rows) ints int = elim (cases_Bool (equal Binary (rowid r) there)) [
    | inl e ↦ rw e (
      ap (λ v. ([], v ∷ v ∷ values)) (same_ints (rowid r) there ints.0 int e),
      all_picked there rows
          ints.1 int,
    )
    | inr e ↦ rw e (all_picked there rows ints.1 int)
  ]

  some_picked : (there : Row) (rows : List Row) → Has rows there →
      IsTrue (is_int (rowid there)) → 0 < length (map (picked (rowid there))
      (Rattle.std.specs.Prelude.filter (λ r. equal Binary (rowid r) (rowid there)) rows))
  some_picked there [] h int = absurd h
  some_picked there (r ∷ rows) (inl h) int = rw (← h, equals_itself (rowid there) int) (omega arith)
  some_picked there (r ∷ rows) (inr h) int =
      elim (cases_Bool (equal Binary (rowid r) (rowid there))) [
        | inl e ↦ rw e (omega arith)
        | inr e ↦ rw e (some_picked there rows h int)
      ]

  answered : (there : Row) (rows : List Row) → Has (db table.tree) there →
      IsAnswer query (overlay db [])
      (given (rowid there)) rows → Copies (rowid there ∷ rowid there ∷ values) rows
  answered there rows has a =
      let int = all_has _ (db table.tree) there keyed has in
      let kept : a.kept ≡ map (picked (rowid there)) (Rattle.std.specs.Prelude.filter
      (λ r. equal Binary (rowid r) (rowid there)) (db table.tree)) =
      a.distinct ∙ ap (map (output query)) (a.grouped ∙ ap (λ rs. flat_map
      (λ r. cond (equal Binary (rowid r) (column (given (rowid there)) base) && true)
      ((given (rowid there) ∷ r ∷ []) ∷ []) []) rs) (bare db table.tree))
      ∙ matched (rowid there) (db table.tree) in
      let all : AllByRecursion (λ o. o ≡ ([], rowid there ∷ rowid there ∷ values)) a.ordered =
      all-permutation _ a.kept a.ordered a.same (subst (AllByRecursion
      (λ o. o ≡ ([], rowid there ∷ rowid there ∷ values))) (sym kept)
      (all_picked (rowid there) (db table.tree) keyed int)) in
      let some : 0 < length a.ordered = subst (λ n. 0 < n) (ap length (sym kept) ∙ sym
      (length_permutation a.kept a.ordered a.same)) (some_picked there (db table.tree) has int) in
      subst (Copies (rowid there ∷ rowid there ∷ values)) (sym a.shown)
      (shown_all a.ordered all, rw (length-map a.ordered (λ (o : Output). o.1)) some)
    where
      shown_all : (os : List Output) →
          AllByRecursion (λ o. o ≡ ([], rowid there ∷ rowid there ∷ values)) os →
          AllByRecursion (λ r. r ≡ rowid there ∷ rowid there ∷ values) (map (λ o. o.1) os)
      shown_all [] h = tt
      shown_all (o ∷ os) h = (ap (λ p. p.1) h.0, shown_all os h.1)

  puts : (mid : Trees) (one : Written) → Puts task new mid (Ok one) →
      Put schema table new (mid table.tree) mid one.trees
  puts mid one h =
      let edit = edit_of mid table [] Given 0 (new ∷ []) in
      let it = went h in
      let done = one_step schema Enforced mid it.0 edit
      (no_works schema Enforced 0 table.tree edit.news) it.1 in
      let trees : one.trees ≡ it.0 = ap (λ (w : Written). w.trees) (same_value it.2) in
      let news : edit.news ≡ new ∷ [] = ap (λ r. r ∷ []) (upsert.again _) in
      let fresh : are_fresh (mid table.tree) (new ∷ []) ≡ true =
      subst (λ n. are_fresh (mid table.tree) n ≡ true) news done.fresh in
      record {
        fresh = not-true _ (and_parts _ _ fresh).0;
        rows = ap (λ (t : Trees). t table.tree) trees
            ∙ done.rows
            ∙ ap (λ r. put_row r (mid table.tree)) (upsert.again _);
        others = λ t other free. ap (λ (d : Trees). d t) trees ∙ done.others t other free;
        fits = subst (Fits schema) (sym trees) done.fits;
      }

  -- the rows of the answer are the one new row
  news_of : (id : ℤ) (rows : List Row) → rows ≡ (Int id ∷ Int id ∷ values) ∷ [] →
      (edit_of db table (ids_of rows) Given 1 rows).news ≡ (Int id ∷ values) ∷ []
  news_of id rows is = ap (λ rs. (edit_of db table (ids_of rs) Given 1 rs).news) is
      ∙ ap (λ r. r ∷ []) (upsert.again id)

  alone : (id : ℤ) (rows : List Row) (next : Trees) → Copies (Int id ∷ Int id ∷ values) rows →
      Settling schema Enforced db (edit_of db table (ids_of rows) Given 1 rows) (Ok next) →
      rows ≡ (Int id ∷ Int id ∷ values) ∷ []
  alone id [] next copies h = absurd (omega (arith, copies.1))
  alone id (x ∷ []) next copies h = ap (λ r. r ∷ []) copies.0.0
  alone id (x ∷ y ∷ more) next copies h =
      let rows = x ∷ y ∷ more in
      let edit = edit_of db table (ids_of rows) Given 1 rows in
      let it = step_made schema db next edit h in
      let f = λ (s : Row). cast_row table (drop 1 s) in
      let first : f x ≡ Int id ∷ values = ap f copies.0.0 ∙ upsert.again id in
      let second : f y ≡ Int id ∷ values = ap f copies.0.1.0 ∙ upsert.again id in
      let both : edit.news ≡ (Int id ∷ values) ∷ (Int id ∷ values) ∷ map f more =
      given_news (left_by db edit) (map f rows) ∙ ap (λ a. a ∷ f y ∷ map f more) first ∙ ap
      (λ b. (Int id ∷ values) ∷ b ∷ map f more) second in
      absurd (once (left_by db edit) (Int id ∷ values) (map f more)
      (subst (λ n. are_fresh (left_by db edit) n ≡ true) both it.1.fresh))

  moves : (there : Row) (found : Row) (one : Written) → Has (db table.tree) there →
      conflicts (Some target) schema.indexes table new there ≡ true → found ≡ rowid there ∷ []
      → Resolves task new db found (Some (record { lets = []; body = query })) (Ok one)
      → Moved schema table target values db one.trees
  moves there found one has meets is h =
      let int = all_has _ (db table.tree) there keyed has in
      let id = id_in (rowid there) in
      let v : rowid there ≡ Int id = int_is (rowid there) int in
      let q = went h in
      let a : Answers (record { schema = schema; trees = db }) (record { lets = []; body = query })
      (params ++ rowid found ∷ shown table new) q.0 = q.1 in
      let rows = q.0 in
      let copies : Copies (Int id ∷ Int id ∷ values) rows =
      subst (λ w. Copies (w ∷ w ∷ values) rows) v (answered there rows has
      (subst (λ p. IsAnswer query (overlay db []) (given p) rows) (ap rowid is) (a.answer Null))) in
      let it = went q.2 in
      let only = alone id rows it.0 copies it.1 in
      let edit = edit_of db table (ids_of rows) Given 1 rows in
      let news = news_of id rows only in
      let gone : edit.gone ≡ id ∷ [] = ap ids_of only in
      let done =
      one_step schema Enforced db it.0 edit (subst (λ n. works schema Enforced 0 table.tree
      (taken_by db edit) n ≡ []) (sym news)
      (upsert.kept (taken_by db edit) (Int id ∷ values))) it.1 in
      let trees : one.trees ≡ it.0 = ap (λ (w : Written). w.trees) (same_value it.2) in
      let left : left_by db edit ≡ without_rowid id (db table.tree) =
      ap (without_all (db table.tree)) gone in
      let fresh : are_fresh (without_rowid id (db table.tree)) ((Int id ∷ values) ∷ []) ≡ true =
      subst (λ n. are_fresh (without_rowid id (db table.tree)) n ≡ true) news
      (subst (λ l. are_fresh l edit.news ≡ true) left done.fresh) in
      record {
        there = there;
        has = has;
        meets = meets;
        put = record {
          fresh = not-true _ (and_parts _ _ fresh).0;
          rows = ap (λ (t : Trees). t table.tree) trees
              ∙ done.rows
              ∙ ap (put_all (left_by db edit)) news
              ∙ ap (put_row (Int id ∷ values)) left;
          others = λ t other free. ap (λ (d : Trees). d t) trees ∙ done.others t other free;
          fits = subst (Fits schema) (sym trees) done.fits;
        };
      }

  abbrev clause : Upsert
  clause = record { target = Some target; update = Some (record { lets = []; body = query }) }

  upserts : (one : Written) → Upserts task Abort new db (clause ∷ []) (Ok one) →
      Upserted schema table target values db one.trees
  upserts one h = met h.0 h.1 h.2
    where
      added : (found : List Row) → Clears task Abort new db found (Ok one) →
          Put schema table new (db table.tree) db one.trees
      added [] c = puts db one c
      added (x ∷ more) c = puts db one c

      met : (found : List Row) →
          AreConflicts (Some target) schema.indexes table (db table.tree) new found → Meets
          task (Upserts task Abort new db []) new db clause found (Ok one) →
          Upserted schema table target values db one.trees
      met [] c m =
          inl (record { none = λ r has meets. c.complete r has meets; put = added m.0 m.2 })
      met (x ∷ more) c m =
          let why = c.sound x (inl refl) in
          inr (moves why.0 x one why.1 why.2 why.3 m)

-- the same of the whole statement
module _ (schema : Schema) (at : ℕ) (table : Table)
    (there : slice_get schema.tables at ≡ Some table)
    (params values : Row) (base : ℕ) (target : List ℕ) (project : List Term)
    (upsert : IsUpsertOf schema table params values base project)
    (terms : List Term) (width : ℕ) (uncounted : table.is_counted ≡ false)
    (supplied : value_rows (stamped table params) width (length terms / width) terms
    ≡ (Null ∷ values) ∷ []) where
  pub puts_row : (old new : State) (text : List ℕ) (count : ℕ) → old.now.schema ≡ schema →
      AllByRecursion (λ r. IsTrue (is_int (rowid r))) (old.now.trees table.tree)
      → Writes old new None (InsertOr at Abort (Values terms width)
      (record {
        target = Some target;
        update = Some (record { lets = []; body = pick table.tree base project });
      } ∷ [])) text params count
      → (new.now.schema ≡ schema) × Upserted schema table target values old.now.trees new.now.trees
  puts_row old new text count has keyed =
      says_of_statement schema at table there params values
      (record {
        target = Some target;
        update = Some (record { lets = []; body = pick table.tree base project });
      }) upsert.plain terms width uncounted supplied old new text count
      (λ trees many. Upserted schema table target values old.now.trees trees)
      (upserts old.step_limit schema table params values base target project old.now.trees keyed
      upsert) has
