-- What a UNION ALL of two selections, each from one table, answers.
use Rattle.std.proofs.Common.{◌≡◌, ◌⊎◌, ℕ, List, [], ◌∷◌, ◌++◌, map, filter, flat_map}
use Rattle.std.proofs.Common.{Bool, true, false, cond, refl, sym, ap, subst, ◌∙◌, inl, inr}
use Rattle.std.specs.List.{list_all}
use Rattle.std.specs.List.Sorted.{IsPermutation}
use Rattle.std.proofs.lemmas.List.Sorted.{IsPermutation-map}
use Rattle.std.proofs.lemmas.Bool.{cases_Bool}
use Rattle.std.specs.Prelude.{nat_le, ◌^◌, ◌+◌}
use Rattle.sqlite_value.specs.declared.value.Value.TheVariants.{Null}
use Rattle.sqlite_value.specs.declared.keys.Collation.{Collation}
use Rattle.sqlite_value.specs.declared.keys.Collation.TheVariants.{Binary}
use Rattle.sqlite_value.specs.declared.keys.Key.{Key}
use Rattle.sqlite_value.specs.Order.{Row}
use Rattle.sqlite_trees.specs.Tree.{Trees}
use Rattle.sqlite_sql.specs.declared.query.SetOp.TheVariants.{UnionAll}
use Rattle.sqlite_sql.specs.Term.{Term, lit, holds, eval_all}
use Rattle.sqlite_sql.specs.Program.{IsProgramAnswer, overlay}
use Rattle.sqlite_sql.specs.Query.{Query, IsAnswer, Output, output}
use Rattle.sqlite_schema.specs.Program.{lets_of}
use Rattle.sqlite_schema.specs.declared.program.Program.{Program}
use Rattle.sqlite_schema.specs.declared.program.Table.TheVariants.{Selected, Combined}
use Rattle.sqlite_schema.specs.declared.command.Command.TheVariants.{Select}
use Rattle.sqlite.specs.Listing.{understood, reads_listing}
use Rattle.sqlite.specs.State.{State}
use Rattle.sqlite.proofs.Callers.{IsPlain, command_of, reads_as}
use Rattle.sqlite_rules.specs.Lists.{Has}
use Rattle.sqlite_rules.proofs.ListLemmas.{has_either, has_left, has_right}
use Rattle.sql_tables.specs.Schema.{our_schema}
use Rattle.sql_tables.specs.Statements.{Answers}
use Rattle.sql_tables.specs.Selects.{Selects}
use Rattle.sql_tables.proofs.Selected.{select_from, selected_from, selected_to}

-- ---- the query

-- a part of it: rows behind a NULL in the place of a rowid
abbrev pub part_from : ℕ → List Term → List Term → Query
part_from tree filter project = record (select_from tree filter (lit Null ∷ project) []) {
  collations = Binary ∷ [];
}

-- both, in an order
abbrev pub union_of : ℕ → Query → Query → List Collation → List Term → List (Term × Key) → Program
union_of width first second by shown order = record {
  lets = Selected first ∷ Selected second ∷ Combined UnionAll 0 1 width by ∷ [];
  body = select_from (2 ^ 31 + 2) [] shown order;
}

-- ---- one query over any trees

module _ (tree : ℕ) (terms project : List Term) (order : List (Term × Key)) (by : List Collation)
    (params : Row) (test : Row → Bool) (columns : Row → Row)
    (tests : (r : Row) → list_all (holds (params ∷ r ∷ [])) terms ≡ test r)
    (shows : (r : Row) → eval_all project (params ∷ r ∷ []) ≡ columns r) where
  abbrev query : Query
  query = record (select_from tree terms project order) { collations = by }

  matched : (rs : List Row) → map (λ (o : Output). o.1) (map (output query)
      (flat_map (λ r.
      cond (list_all (holds (params ∷ r ∷ [])) terms) ((params ∷ r ∷ []) ∷ []) []) rs)) ≡ map
      columns (filter test rs)
  matched [] = refl
  matched (r ∷ rs) = elim (cases_Bool (test r)) [
    | inl e ↦ rw (tests r, e, matched rs, shows r) refl
    | inr e ↦ rw (tests r, e, matched rs) refl
  ]

  pub answered : (db : Trees) (rows : List Row) → IsAnswer query db params rows →
      Selects test columns (db tree) rows
  answered db rows a =
      let kept : map (λ (o : Output). o.1) a.kept ≡ map columns (filter test (db tree)) =
      ap (map (λ (o : Output). o.1)) (a.distinct ∙ ap (map (output query)) a.grouped)
      ∙ matched (db tree) in
      record {
        same = subst (IsPermutation (map columns (filter test (db tree)))) (sym a.shown)
            (subst (λ xs. IsPermutation xs (map (λ (o : Output). o.1) a.ordered)) kept
            (IsPermutation-map (λ (o : Output). o.1) a.kept a.ordered a.same));
      }

-- ---- both

-- what is answered is of rows of the one table or of the other that pass, and each of them is there
pub record AreUnited (test_one test_two : Row → Bool) (one two : Row → Row)
    (stored_one stored_two out : List Row) : Type 0 where
  pub from : (v : Row) → Has out v →
      ((r : Row) × Has stored_one r × (test_one r ≡ true) × (v ≡ one r))
      ⊎ ((r : Row) × Has stored_two r × (test_two r ≡ true) × (v ≡ two r))
  pub to_one : (r : Row) → Has stored_one r → test_one r ≡ true → Has out (one r)
  pub to_two : (r : Row) → Has stored_two r → test_two r ≡ true → Has out (two r)

module _ (first second : ℕ) (low_first : nat_le (2 ^ 31) first ≡ false)
    (low_second : nat_le (2 ^ 31) second ≡ false) (terms_one terms_two project_one project_two
    : List Term) (width : ℕ) (by : List Collation) (shown : List Term) (order : List (Term × Key))
    (params : Row) (test_one test_two : Row → Bool) (one two : Row → Row)
    (tests_one : (r : Row) → list_all (holds (params ∷ r ∷ [])) terms_one ≡ test_one r)
    (tests_two : (r : Row) → list_all (holds (params ∷ r ∷ [])) terms_two ≡ test_two r)
    (shows_one : (r : Row) → eval_all project_one (params ∷ r ∷ []) ≡ one r)
    (shows_two : (r : Row) → eval_all project_two (params ∷ r ∷ []) ≡ two r)
    (cuts_one : (r : Row) → eval_all shown (params ∷ (Null ∷ one r) ∷ []) ≡ one r)
    (cuts_two : (r : Row) → eval_all shown (params ∷ (Null ∷ two r) ∷ []) ≡ two r) where
  abbrev pub program : Program
  program = union_of width (part_from first terms_one project_one)
      (part_from second terms_two project_two) by shown order

  -- rows behind a NULL, cut
  abbrev cut : Row → Row
  cut r = eval_all shown (params ∷ r ∷ [])

  joined : (stored_one stored_two made_one made_two all out : List Row)
      → Selects test_one (λ r. Null ∷ one r) stored_one made_one
      → Selects test_two (λ r. Null ∷ two r) stored_two made_two → all ≡ made_one ++ made_two
      → Selects (λ r. true) cut all out
      → AreUnited test_one test_two one two stored_one stored_two out
  joined stored_one stored_two made_one made_two all out s t both cuts = record {
    from = λ v h.
        let it = selected_from (λ r. true) cut all out cuts v h in
        elim (has_either made_one made_two it.0 (subst (λ l. Has l it.0) both it.1)) [
          | inl k ↦
              let x = selected_from test_one (λ r. Null ∷ one r) stored_one made_one s it.0 k in
              inl (x.0, x.1, x.2, it.3 ∙ ap cut x.3 ∙ cuts_one x.0)
          | inr k ↦
              let x = selected_from test_two (λ r. Null ∷ two r) stored_two made_two t it.0 k in
              inr (x.0, x.1, x.2, it.3 ∙ ap cut x.3 ∙ cuts_two x.0)
        ];
    to_one = λ r h e.
        let k = selected_to test_one (λ r. Null ∷ one r) stored_one made_one s r h e in
        subst (Has out) (cuts_one r) (selected_to (λ r. true) cut all out cuts (Null ∷ one r)
        (subst (λ l. Has l (Null ∷ one r)) (sym both) (has_left made_one made_two (Null ∷ one r) k))
        refl);
    to_two = λ r h e.
        let k = selected_to test_two (λ r. Null ∷ two r) stored_two made_two t r h e in
        subst (Has out) (cuts_two r) (selected_to (λ r. true) cut all out cuts (Null ∷ two r)
        (subst (λ l. Has l (Null ∷ two r)) (sym both)
        (has_right made_one made_two (Null ∷ two r) k)) refl);
  }

  low : (t : ℕ) → nat_le (2 ^ 31) t ≡ false → (db : Trees) (tables : List (List Row))
      → overlay db tables t ≡ db t
  low t e db tables = rw e refl

  united : (db : Trees) (rows : List Row)
      → IsProgramAnswer (lets_of program) program.body db params rows
      → AreUnited test_one test_two one two (db first) (db second) rows
  united db rows (inl (made_one, let_one, inl (made_two, let_two, inl (all, both, body)))) =
      joined (db first) (db second) made_one made_two all rows
      (subst (λ l. Selects test_one (λ r. Null ∷ one r) l made_one) (low first low_first db [])
      (answered first terms_one (lit Null ∷ project_one) [] (Binary ∷ []) params test_one
      (λ r. Null ∷ one r) tests_one (λ r. ap (λ v. Null ∷ v) (shows_one r)) (overlay db [])
      made_one (let_one Null)))
      (subst (λ l. Selects test_two (λ r. Null ∷ two r) l made_two)
      (low second low_second db (made_one ∷ []))
      (answered second terms_two (lit Null ∷ project_two) [] (Binary ∷ []) params test_two
      (λ r. Null ∷ two r) tests_two (λ r. ap (λ v. Null ∷ v) (shows_two r))
      (overlay db (made_one ∷ [])) made_two (let_two Null)))
      both
      (answered (2 ^ 31 + 2) [] shown order [] params (λ r. true) cut (λ r. refl) (λ r. refl)
      (overlay db (made_one ∷ made_two ∷ all ∷ [])) rows (body Null))
  united db rows (inl (made_one, let_one, inl (made_two, let_two, inr (all, none, more)))) =
      absurd none
  united db rows (inl (made_one, let_one, inr (made_two, none, more))) = absurd none
  united db rows (inr (made_one, none, more)) = absurd none

  -- what the text answers
  -- rule: statements-of-tables.tables-content
  pub union_told : (text : List ℕ) (names : List (List ℕ))
      → (command_of (understood our_schema text) ≡ Select program names)
      × (reads_listing our_schema text ≡ false) → IsPlain (understood our_schema text)
      → (old new : State) (rows : List Row) → Answers text params old new rows
      → AreUnited test_one test_two one two (old.now.trees first) (old.now.trees second) rows
  union_told text names is plain old new rows got =
      united old.now.trees rows (reads_as text params old new our_schema got.book.schema
      (Select program names) is.0 plain is.1 rows got.shown).answer
