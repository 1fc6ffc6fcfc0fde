-- What a query of two tables answers of their rows: nothing exactly where none is wrong beside one of
-- the other.
use Rattle.std.proofs.Common.{◌≡◌, pos, List, [], ◌∷◌, map, flat_map, take, Bool, true}
use Rattle.std.proofs.Common.{◌&&◌, false, cond, inl, inr, refl, sym, ap, subst, ◌∙◌}
use Rattle.std.specs.List.{list_all}
use Rattle.std.proofs.lemmas.List.Sorted.{IsPermutation-sym}
use Rattle.sqlite_value.specs.declared.value.Value.TheVariants.{Int}
use Rattle.sqlite_value.specs.Order.{Row, column}
use Rattle.sqlite_trees.specs.Tree.{Trees}
use Rattle.sqlite_sql.specs.Term.{Term, Env, lit, holds, eval_all}
use Rattle.sqlite_sql.specs.Program.{overlay}
use Rattle.sqlite_sql.specs.Query.{IsAnswer, Output, output}
use Rattle.sqlite_rules.specs.Lists.{Has}
use Rattle.sqlite_rules.proofs.ListLemmas.{has_either, has_left, has_right}
use Rattle.sqlite_schema.specs.declared.schema.Table.{Table}
use Rattle.sql_tables.proofs.Steps.{and_true, bare, mapped_from, mapped_to, permuted}
use Rattle.sql_rules.specs.Beside.{NoneWrong, differs, is_ahead, is_bucket_ahead, is_equal, is_from}
use Rattle.sql_rules.specs.Beside.{is_above, is_touched_after, lacks_open_session}
use Rattle.sql_rules.proofs.BesideTexts.{ahead_terms, bucket_ahead_terms, over_terms, pair_query}
use Rattle.sql_rules.proofs.BesideTexts.{touched_terms}

-- ---- lists of lists

pub flat_from : {X Y : Type 0} (f : X → List Y) (xs : List X) (y : Y) → Has (flat_map f xs) y →
    (x : X) × Has xs x × Has (f x) y
flat_from f [] y h = absurd h
flat_from f (x ∷ xs) y h = elim (has_either (f x) (flat_map f xs) y h) [
  | inl first ↦ (x, inl refl, first)
  | inr later ↦ let it = flat_from f xs y later in (it.0, inr it.1, it.2)
]

pub flat_to : {X Y : Type 0} (f : X → List Y) (xs : List X) (x : X) (y : Y) → Has xs x → Has (f x) y →
    Has (flat_map f xs) y
flat_to f [] x y h k = absurd h
flat_to f (z ∷ zs) x y (inl is) k =
    has_left (f z) (flat_map f zs) y (subst (λ w. Has (f w) y) is k)
flat_to f (z ∷ zs) x y (inr later) k =
    has_right (f z) (flat_map f zs) y (flat_to f zs x y later k)

none_has : {X : Type 0} (xs : List X) → xs ≡ [] → (x : X) → Has xs x → ⊥
none_has [] e x h = h
none_has (y ∷ ys) e x h = absurd (cc e)

all_none : {X : Type 0} (xs : List X) → ((x : X) → Has xs x → ⊥) → xs ≡ []
all_none [] none = refl
all_none (x ∷ xs) none = absurd (none x (inl refl))

-- the first of those that there are
first_none : {X : Type 0} (xs : List X) → take 1 xs ≡ [] → xs ≡ []
first_none [] e = refl
first_none (x ∷ xs) e = absurd (cc e)

none_first : {X : Type 0} (xs : List X) → xs ≡ [] → take 1 xs ≡ []
none_first [] e = refl
none_first (x ∷ xs) e = absurd (cc e)

-- ---- a query of two tables

module _ (first second : Table) (terms : List Term) (wrong : Row → Row → Bool)
    (tests : (r s : Row) → list_all (holds ([] ∷ r ∷ s ∷ [])) terms ≡ wrong r s) where
  abbrev one : Row → Row → List Env
  one r s = cond (list_all (holds ([] ∷ r ∷ s ∷ [])) terms) (([] ∷ r ∷ s ∷ []) ∷ []) []

  abbrev both : List Row → List Row → List Env
  both rs ss = flat_map (λ r. flat_map (one r) ss) rs

  abbrev shown : List Env → List Row
  shown envs = map (λ (o : Output). o.1)
      (map (output (pair_query first.tree second.tree terms)) envs)

  -- a pair that is wrong is shown
  pair_shown : (rs ss : List Row) (r s : Row) → Has rs r → Has ss s → wrong r s ≡ true
      → Has (shown (both rs ss)) (eval_all (lit (Int (pos 1)) ∷ []) ([] ∷ r ∷ s ∷ []))
  pair_shown rs ss r s h k e =
      let env : Env = [] ∷ r ∷ s ∷ [] in
      let kept : Has (one r s) env =
      subst (λ (t : Bool). Has (cond t (env ∷ []) []) env) (sym (tests r s ∙ e)) (inl refl) in
      mapped_to (λ (o : Output). o.1) (map (output (pair_query first.tree second.tree terms))
      (both rs ss)) (output (pair_query first.tree second.tree terms) env)
      (mapped_to (output (pair_query first.tree second.tree terms)) (both rs ss) env
      (flat_to (λ x. flat_map (one x) ss) rs r env h (flat_to (one r) ss s env k kept)))

  -- where none is wrong nothing is
  none_shown : (rs ss : List Row)
      → ((r s : Row) → Has rs r → Has ss s → wrong r s ≡ false) → (v : Row)
      → Has (shown (both rs ss)) v → ⊥
  none_shown rs ss none v h =
      let out = mapped_from (λ (o : Output). o.1)
      (map (output (pair_query first.tree second.tree terms)) (both rs ss)) v h in
      let env = mapped_from (output (pair_query first.tree second.tree terms)) (both rs ss) out.0
      out.1 in
      let outer = flat_from (λ r. flat_map (one r) ss) rs env.0 env.1 in
      let inside = flat_from (one outer.0) ss env.0 outer.2 in
      at ([] ∷ outer.0 ∷ inside.0 ∷ []) (list_all (holds ([] ∷ outer.0 ∷ inside.0 ∷ [])) terms)
      (tests outer.0 inside.0 ∙ none outer.0 inside.0 outer.1 inside.1) env.0 inside.2
    where
      at : (env : Env) (t : Bool) → t ≡ false → (x : Env) → Has (cond t (env ∷ []) []) x → ⊥
      at env true e x h = absurd (cc e)
      at env false e x h = h

  module _ (db : Trees) (rows : List Row)
      (a : IsAnswer (pair_query first.tree second.tree terms) (overlay db []) [] rows) where
    kept_is : map (λ (o : Output). o.1) a.kept ≡ shown (both (db first.tree) (db second.tree))
    kept_is =
        ap (map (λ (o : Output). o.1)) (a.distinct
        ∙ ap (map (output (pair_query first.tree second.tree terms)))
        (a.grouped ∙ (λ i. both (bare db first.tree i) (bare db second.tree i))))

    -- rule: rows-ruled.beside
    pub none_wrong : rows ≡ [] → NoneWrong wrong first second db
    none_wrong e r s h k = at (wrong r s) refl
      where
        nothing : a.ordered ≡ []
        nothing = of_map a.ordered (first_none (map (λ (o : Output). o.1) a.ordered)
            (sym a.shown ∙ e))
          where
            of_map : (os : List Output) → map (λ (o : Output). o.1) os ≡ [] → os ≡ []
            of_map [] e = refl
            of_map (o ∷ os) e = absurd (cc e)

        at : (t : Bool) → wrong r s ≡ t → t ≡ false
        at false e = refl
        at true e =
            let there = pair_shown (db first.tree) (db second.tree) r s h k e in
            let out = mapped_from (λ (o : Output). o.1) a.kept _
            (subst (λ xs. Has xs (eval_all (lit (Int (pos 1)) ∷ []) ([] ∷ r ∷ s ∷ [])))
            (sym kept_is) there) in
            absurd (none_has a.ordered nothing out.0 (permuted a.kept a.ordered out.0 a.same out.1))

    -- rule: rows-ruled.beside
    pub wrong_none : NoneWrong wrong first second db → rows ≡ []
    wrong_none none =
        a.shown ∙ none_first (map (λ (o : Output). o.1) a.ordered)
        (ap (map (λ (o : Output). o.1)) (all_none a.ordered (λ o h.
        none_shown (db first.tree) (db second.tree) none o.1
        (subst (λ xs. Has xs o.1) kept_is (mapped_to (λ (p : Output). p.1) a.kept o
        (permuted a.ordered a.kept o (IsPermutation-sym _ _ a.same) h))))))

last_true : (b c : Bool) → (b && (c && true)) ≡ (b && c)
last_true true c = and_true c
last_true false c = refl

last_three : (b c d : Bool) → (b && (c && (d && true))) ≡ (b && c && d)
last_three true true d = and_true d
last_three true false d = refl
last_three false c d = refl

last_four : (b c d e : Bool) → (b && (c && (d && (e && true)))) ≡ (b && c && d && e)
last_four true true true true = refl
last_four true true true false = refl
last_four true true false e = refl
last_four true false d e = refl
last_four false c d e = refl

pub ahead_tests : (r s : Row) → list_all (holds ([] ∷ r ∷ s ∷ [])) ahead_terms ≡ is_ahead r s
ahead_tests r s = last_true (is_equal (column s 1) (column r 1))
    (is_from (column s 2) (column r 5))

pub bucket_ahead_tests : (r s : Row) → list_all (holds ([] ∷ r ∷ s ∷ [])) bucket_ahead_terms
    ≡ is_bucket_ahead r s
bucket_ahead_tests r s = last_true (is_equal (column s 1) (column r 1))
    (is_from (column s 2) (column r 4))

pub touched_tests : (r s : Row) → list_all (holds ([] ∷ r ∷ s ∷ [])) touched_terms
    ≡ is_touched_after r s
touched_tests r s = last_three (is_equal (column s 1) (column r 1))
    (is_equal (column s 5) (Int (pos 1))) (is_above (column s 4) (column r 3))

pub over_tests : (r s : Row) → list_all (holds ([] ∷ r ∷ s ∷ [])) over_terms ≡ lacks_open_session r s
over_tests r s = last_four (is_equal (column r 5) (Int (pos 1)))
    (is_equal (column s 1) (column r 1)) (is_equal (column s 2) (column r 2))
    (differs (column s 5) (Int (pos 1)))
