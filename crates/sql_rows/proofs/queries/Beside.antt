-- What a UNION ALL of two selections answers, each from one table, whose last column says whether
-- another table has a row beside.
use Rattle.std.proofs.Common.{◌≡◌, ℕ, pos, List, [], ◌∷◌, ◌++◌, map, filter, flat_map, length}
use Rattle.std.proofs.Common.{Bool, true, false, cond, refl, sym, ap, subst, ◌∙◌, inl, inr, suc}
use Rattle.std.proofs.Common.{arith}
use Rattle.std.proofs.Math.Nat.{min-le_left, suc-min-suc}
use Rattle.std.specs.Prelude.{nat_le, min, ◌^◌, ◌+◌}
use Rattle.std.specs.List.{list_all, list_any}
use Rattle.std.specs.List.Sorted.{IsPermutation}
use Rattle.std.proofs.lemmas.List.Sorted.{IsPermutation-map}
use Rattle.std.proofs.lemmas.Bool.{cases_Bool}
use Rattle.sqlite_value.specs.declared.value.Value.{Value}
use Rattle.sqlite_value.specs.declared.value.Value.TheVariants.{Null, Int}
use Rattle.sqlite_value.specs.declared.keys.Collation.{Collation}
use Rattle.sqlite_value.specs.declared.keys.Collation.TheVariants.{Binary}
use Rattle.sqlite_value.specs.declared.keys.Key.{Key}
use Rattle.sqlite_value.specs.Order.{Row}
use Rattle.sqlite_trees.specs.Tree.{Trees}
use Rattle.sqlite_sql.specs.Term.{Term, Env, lit, holds, eval_all}
use Rattle.sqlite_sql.specs.Program.{IsProgramAnswer, overlay}
use Rattle.sqlite_sql.specs.Query.{Query, IsAnswer, Output, output, inner, counted, end}
use Rattle.sqlite_schema.specs.Program.{lets_of}
use Rattle.sqlite_schema.specs.declared.program.Program.{Program}
use Rattle.sqlite_schema.specs.declared.command.Command.TheVariants.{Select}
use Rattle.sqlite.specs.Listing.{understood, reads_listing}
use Rattle.sqlite.specs.State.{State}
use Rattle.sqlite.proofs.Callers.{IsPlain, command_of, reads_as}
use Rattle.sqlite_rules.specs.Lists.{Has}
use Rattle.sqlite_rules.proofs.ListLemmas.{has_either, has_left, has_right}
use Rattle.sql_tables.specs.Schema.{our_schema}
use Rattle.sql_tables.specs.Statements.{Answers}
use Rattle.sql_tables.specs.Selects.{Selects}
use Rattle.sql_tables.proofs.Selected.{select_from, selected_from, selected_to}
use Rattle.sql_rows.specs.Values.{nat, flag_number}
use Rattle.sql_rows.proofs.queries.Unioned.{AreUnited, union_of}
use Rattle.sql_rows.proofs.queries.Unioned as unioned

-- ---- the query

-- a part of it: rows behind a NULL in the place of a rowid, and behind each row what is beside it
abbrev pub part_beside : ℕ → List Term → ℕ → List Term → List Term → Query
part_beside tree filter other on project =
    record (select_from tree filter (lit Null ∷ project) []) {
      from = inner tree (counted 1 (inner other end) on end);
      collations = Binary ∷ [];
    }

-- ---- whether there is a row

-- the rows of another table that are beside a row
abbrev besides : Row → List Term → Row → List Row → List Env
besides params on r others =
    flat_map (λ s.
    cond (list_all (holds (params ∷ r ∷ s ∷ [])) on) ((params ∷ r ∷ s ∷ []) ∷ []) []) others

one_least : (n : ℕ) → min 1 (suc n) ≡ 1
one_least n = omega (arith, suc-min-suc 0 n, min-le_left 0 n)

counted_one : (params : Row) (on : List Term) (r : Row) (others : List Row)
    → min 1 (length (besides params on r others))
    ≡ flag_number (list_any (λ s. list_all (holds (params ∷ r ∷ s ∷ [])) on) others)
counted_one params on r [] = refl
counted_one params on r (s ∷ others) =
    elim (cases_Bool (list_all (holds (params ∷ r ∷ s ∷ [])) on)) [
      | inl e ↦ rw e (one_least (length (besides params on r others)))
      | inr e ↦ rw (e, counted_one params on r others) refl
    ]

-- ---- one part over any trees

module _ (tree other : ℕ) (terms on project : List Term) (params : Row) (test : Row → Bool)
    (meets : Row → Row → Bool) (columns : Row → Value → Row)
    (tests : (r w : Row) → list_all (holds (params ∷ r ∷ w ∷ [])) terms ≡ test r)
    (ties : (r s : Row) → list_all (holds (params ∷ r ∷ s ∷ [])) on ≡ meets r s)
    (shows : (r : Row) (v : Value) →
    eval_all project (params ∷ r ∷ (v ∷ []) ∷ []) ≡ columns r v) where
  abbrev query : Query
  query = part_beside tree terms other on project

  -- what stands behind a row
  abbrev count : List Row → Row → Value
  count others r = Int (pos (min 1 (length (besides params on r others))))

  abbrev pub told : List Row → Row → Row
  told others r = Null ∷ columns r (nat (flag_number (list_any (meets r) others)))

  any_same : (r : Row) (others : List Row)
      → list_any (λ s. list_all (holds (params ∷ r ∷ s ∷ [])) on) others
      ≡ list_any (meets r) others
  any_same r [] = refl
  any_same r (s ∷ others) = rw (ties r s, any_same r others) refl

  counts : (others : List Row) (r : Row)
      → count others r ≡ nat (flag_number (list_any (meets r) others))
  counts others r =
      ap nat (counted_one params on r others ∙ ap flag_number (any_same r others))

  shown : (others : List Row) (r : Row)
      → eval_all (lit Null ∷ project) (params ∷ r ∷ (count others r ∷ []) ∷ []) ≡ told others r
  shown others r =
      ap (λ v. Null ∷ v) (shows r (count others r) ∙ ap (columns r) (counts others r))

  matched : (others rs : List Row) → map (λ (o : Output). o.1) (map (output query)
      (flat_map (λ r.
      cond (list_all (holds (params ∷ r ∷ (count others r ∷ []) ∷ [])) terms)
      ((params ∷ r ∷ (count others r ∷ []) ∷ []) ∷ []) []) rs))
      ≡ map (told others) (filter test rs)
  matched others [] = refl
  matched others (r ∷ rs) = elim (cases_Bool (test r)) [
    | inl e ↦ rw (tests r (count others r ∷ []), e, matched others rs, shown others r) refl
    | inr e ↦ rw (tests r (count others r ∷ []), e, matched others rs) refl
  ]

  pub answered : (db : Trees) (rows : List Row) → IsAnswer query db params rows
      → Selects test (told (db other)) (db tree) rows
  answered db rows a =
      let kept : map (λ (o : Output). o.1) a.kept
      ≡ map (told (db other)) (filter test (db tree)) =
      ap (map (λ (o : Output). o.1)) (a.distinct ∙ ap (map (output query)) a.grouped)
      ∙ matched (db other) (db tree) in
      record {
        same = subst (IsPermutation (map (told (db other)) (filter test (db tree)))) (sym a.shown)
            (subst (λ xs. IsPermutation xs (map (λ (o : Output). o.1) a.ordered)) kept
            (IsPermutation-map (λ (o : Output). o.1) a.kept a.ordered a.same));
      }

-- ---- both

module _ (first second other : ℕ) (low_first : nat_le (2 ^ 31) first ≡ false)
    (low_second : nat_le (2 ^ 31) second ≡ false) (low_other : nat_le (2 ^ 31) other ≡ false)
    (terms_one terms_two on project : List Term) (width : ℕ) (by : List Collation)
    (shown : List Term) (order : List (Term × Key))
    (params : Row) (test_one test_two : Row → Bool) (meets : Row → Row → Bool)
    (columns : Row → Value → Row)
    (tests_one : (r w : Row) → list_all (holds (params ∷ r ∷ w ∷ [])) terms_one ≡ test_one r)
    (tests_two : (r w : Row) → list_all (holds (params ∷ r ∷ w ∷ [])) terms_two ≡ test_two r)
    (ties : (r s : Row) → list_all (holds (params ∷ r ∷ s ∷ [])) on ≡ meets r s)
    (shows : (r : Row) (v : Value) →
    eval_all project (params ∷ r ∷ (v ∷ []) ∷ []) ≡ columns r v)
    (cuts : (r : Row) (v : Value) →
    eval_all shown (params ∷ (Null ∷ columns r v) ∷ []) ≡ columns r v) where
  abbrev pub program : Program
  program = union_of width (part_beside first terms_one other on project)
      (part_beside second terms_two other on project) by shown order

  -- rows behind a NULL, cut
  abbrev cut : Row → Row
  cut r = eval_all shown (params ∷ r ∷ [])

  -- the columns of a row, with whether there is a row beside it
  abbrev pub full : List Row → Row → Row
  full others r = columns r (nat (flag_number (list_any (meets r) others)))

  joined : (others stored_one stored_two made_one made_two all out : List Row)
      → Selects test_one (λ r. Null ∷ full others r) stored_one made_one
      → Selects test_two (λ r. Null ∷ full others r) stored_two made_two
      → all ≡ made_one ++ made_two → Selects (λ r. true) cut all out
      → AreUnited test_one test_two (full others) (full others) stored_one stored_two out
  joined others stored_one stored_two made_one made_two all out s t both each = record {
    from = λ v h.
        let it = selected_from (λ r. true) cut all out each v h in
        elim (has_either made_one made_two it.0 (subst (λ l. Has l it.0) both it.1)) [
          | inl k ↦
              let x = selected_from test_one (λ r. Null ∷ full others r) stored_one made_one s it.0
              k in
              inl (x.0, x.1, x.2, it.3 ∙ ap cut x.3 ∙ cuts_full x.0)
          | inr k ↦
              let x = selected_from test_two (λ r. Null ∷ full others r) stored_two made_two t it.0
              k in
              inr (x.0, x.1, x.2, it.3 ∙ ap cut x.3 ∙ cuts_full x.0)
        ];
    to_one = λ r h e.
        let k = selected_to test_one (λ r. Null ∷ full others r) stored_one made_one s r h e in
        in_all r (subst (λ l. Has l (Null ∷ full others r)) (sym both)
        (has_left made_one made_two (Null ∷ full others r) k));
    to_two = λ r h e.
        let k = selected_to test_two (λ r. Null ∷ full others r) stored_two made_two t r h e in
        in_all r (subst (λ l. Has l (Null ∷ full others r)) (sym both)
        (has_right made_one made_two (Null ∷ full others r) k));
  }
    where
      cuts_full : (r : Row) → cut (Null ∷ full others r) ≡ full others r
      cuts_full r = cuts r (nat (flag_number (list_any (meets r) others)))

      in_all : (r : Row) → Has all (Null ∷ full others r) → Has out (full others r)
      in_all r k = subst (Has out) (cuts_full r)
          (selected_to (λ r. true) cut all out each (Null ∷ full others r) k refl)

  low : (t : ℕ) → nat_le (2 ^ 31) t ≡ false → (db : Trees) (tables : List (List Row))
      → overlay db tables t ≡ db t
  low t e db tables = rw e refl

  -- one of the parts, over tables that were computed before it
  part_told : (tree : ℕ) → nat_le (2 ^ 31) tree ≡ false → (terms : List Term) (test : Row → Bool)
      → ((r w : Row) → list_all (holds (params ∷ r ∷ w ∷ [])) terms ≡ test r)
      → (db : Trees) (tables : List (List Row)) (made : List Row)
      → IsAnswer (part_beside tree terms other on project) (overlay db tables) params made
      → Selects test (λ r. Null ∷ full (db other) r) (db tree) made
  part_told tree low_tree terms test tests db tables made a =
      subst (λ l. Selects test (λ r. Null ∷ full (db other) r) l made)
      (low tree low_tree db tables)
      (subst (λ others. Selects test (λ r. Null ∷ full others r) (overlay db tables tree) made)
      (low other low_other db tables)
      (answered tree other terms on project params test meets columns tests ties shows
      (overlay db tables) made a))

  united : (db : Trees) (rows : List Row)
      → IsProgramAnswer (lets_of program) program.body db params rows
      → AreUnited test_one test_two (full (db other)) (full (db other)) (db first) (db second) rows
  united db rows (inl (made_one, let_one, inl (made_two, let_two, inl (all, both, body)))) =
      joined (db other) (db first) (db second) made_one made_two all rows
      (part_told first low_first terms_one test_one tests_one db [] made_one (let_one Null))
      (part_told second low_second terms_two test_two tests_two db (made_one ∷ []) made_two
      (let_two Null))
      both
      (unioned.answered (2 ^ 31 + 2) [] shown order [] params (λ r. true) cut (λ r. refl) (λ r. refl)
      (overlay db (made_one ∷ made_two ∷ all ∷ [])) rows (body Null))
  united db rows (inl (made_one, let_one, inl (made_two, let_two, inr (all, none, more)))) =
      absurd none
  united db rows (inl (made_one, let_one, inr (made_two, none, more))) = absurd none
  united db rows (inr (made_one, none, more)) = absurd none

  -- what the text answers
  -- rule: statements-of-tables.tables-content
  pub beside_told : (text : List ℕ) (names : List (List ℕ))
      → (command_of (understood our_schema text) ≡ Select program names)
      × (reads_listing our_schema text ≡ false) → IsPlain (understood our_schema text)
      → (old new : State) (rows : List Row) → Answers text params old new rows
      → AreUnited test_one test_two (full (old.now.trees other)) (full (old.now.trees other))
      (old.now.trees first) (old.now.trees second) rows
  beside_told text names is plain old new rows got =
      united old.now.trees rows (reads_as text params old new our_schema got.book.schema
      (Select program names) is.0 plain is.1 rows got.shown).answer
