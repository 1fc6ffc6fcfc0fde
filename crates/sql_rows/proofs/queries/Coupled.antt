-- What a query of two tables answers of the second one's rows, over any trees.
use Rattle.std.proofs.Common.{◌≡◌, ℕ, pos, negsuc, List, [], ◌∷◌, map, flat_map, Bool, true}
use Rattle.std.proofs.Common.{false, cond, inl, inr, None, refl, sym, ap, subst, ◌∙◌}
use Rattle.std.specs.List.{list_all, list_any}
use Rattle.std.specs.List.Sorted.{IsPermutation}
use Rattle.std.proofs.lemmas.List.Sorted.{IsPermutation-map, IsPermutation-sym}
use Rattle.sqlite_value.specs.declared.value.Value.TheVariants.{Int, Null}
use Rattle.sqlite_value.specs.declared.keys.Collation.TheVariants.{Binary}
use Rattle.sqlite_value.specs.Order.{Row}
use Rattle.sqlite_trees.specs.Tree.{Trees}
use Rattle.sqlite_sql.specs.Term.{Term, Env, lit, holds, eval_all}
use Rattle.sqlite_sql.specs.Query.{Query, inner, end, IsAnswer, Output, output}
use Rattle.sqlite_rules.specs.Lists.{Has}
use Rattle.sqlite_rules.proofs.ListLemmas.{has_either, has_left, has_right, some_from, some_has}
use Rattle.sql_tables.proofs.Selected.{AreAnswered}
use Rattle.sql_tables.proofs.Steps.{mapped_from, mapped_to, permuted}

flat_from : {X Y : Type 0} (f : X → List Y) (xs : List X) (y : Y) → Has (flat_map f xs) y →
    (x : X) × Has xs x × Has (f x) y
flat_from f [] y h = absurd h
flat_from f (x ∷ xs) y h = elim (has_either (f x) (flat_map f xs) y h) [
  | inl first ↦ (x, inl refl, first)
  | inr later ↦ let it = flat_from f xs y later in (it.0, inr it.1, it.2)
]

flat_to : {X Y : Type 0} (f : X → List Y) (xs : List X) (x : X) (y : Y) → Has xs x → Has (f x) y →
    Has (flat_map f xs) y
flat_to f [] x y h k = absurd h
flat_to f (z ∷ zs) x y (inl is) k =
    has_left (f z) (flat_map f zs) y (subst (λ w. Has (f w) y) is k)
flat_to f (z ∷ zs) x y (inr later) k =
    has_right (f z) (flat_map f zs) y (flat_to f zs x y later k)

-- a part of a selection that is from two tables: rows behind a NULL in the place of a rowid
abbrev pub part_both : ℕ → ℕ → List Term → List Term → Query
part_both first second filter project = record {
  from = inner first (inner second end);
  filter = filter;
  group = None;
  project = lit Null ∷ project;
  distinct = false;
  collations = Binary ∷ [];
  order = [];
  limit = lit (Int (negsuc 0));
  offset = lit (Int (pos 0));
}

-- a row of the second table passes with one of the first
abbrev pub passes : (Row → Row → Bool) → List Row → Row → Bool
passes test ss r = list_any (λ s. test s r) ss

module _ (first second : ℕ) (terms project : List Term) (params : Row) (test : Row → Row → Bool)
    (columns : Row → Row)
    (tests : (s r : Row) → list_all (holds (params ∷ s ∷ r ∷ [])) terms ≡ test s r)
    (shows : (s r : Row) → eval_all (lit Null ∷ project) (params ∷ s ∷ r ∷ []) ≡ columns r) where
  abbrev query : Query
  query = part_both first second terms project

  abbrev one : Row → Row → List Env
  one s r = cond (list_all (holds (params ∷ s ∷ r ∷ [])) terms) ((params ∷ s ∷ r ∷ []) ∷ []) []

  abbrev pairs : List Row → List Row → List Env
  pairs ss rs = flat_map (λ s. flat_map (one s) rs) ss

  pair_from : (ss rs : List Row) (v : Row)
      → Has (map (λ (o : Output). o.1) (map (output query) (pairs ss rs))) v
      → (r : Row) × Has rs r × (passes test ss r ≡ true) × (v ≡ columns r)
  pair_from ss rs v h =
      let shown = mapped_from (λ (o : Output). o.1) (map (output query) (pairs ss rs)) v h in
      let env = mapped_from (output query) (pairs ss rs) shown.0 shown.1 in
      let outer = flat_from (λ s. flat_map (one s) rs) ss env.0 env.1 in
      let inside = flat_from (one outer.0) rs env.0 outer.2 in
      let s : Row = outer.0 in
      let r : Row = inside.0 in
      at s r (list_all (holds (params ∷ s ∷ r ∷ [])) terms) refl outer.1 inside.1 env.0 inside.2
      (shown.2 ∙ ap (λ (o : Output). o.1) env.2)
    where
      at : (s r : Row) (t : Bool) → list_all (holds (params ∷ s ∷ r ∷ [])) terms ≡ t → Has ss s
          → Has rs r → (e : Env) → Has (cond t ((params ∷ s ∷ r ∷ []) ∷ []) []) e
          → v ≡ eval_all (lit Null ∷ project) e
          → (x : Row) × Has rs x × (passes test ss x ≡ true) × (v ≡ columns x)
      at s r true k there has e (inl same) shown = (
        r,
        has,
        some_from (λ t. test t r) ss s there (sym (tests s r) ∙ k),
        shown ∙ ap (eval_all (lit Null ∷ project)) same ∙ shows s r,
      )
      at s r true k there has e (inr none) shown = absurd none
      at s r false k there has e none shown = absurd none

  pair_to : (ss rs : List Row) (r : Row) → Has rs r → passes test ss r ≡ true
      → Has (map (λ (o : Output). o.1) (map (output query) (pairs ss rs))) (columns r)
  pair_to ss rs r h e =
      let it = some_has (λ s. test s r) ss e in
      let s : Row = it.0 in
      let env : Env = params ∷ s ∷ r ∷ [] in
      let whole : list_all (holds (params ∷ s ∷ r ∷ [])) terms ≡ true = tests s r ∙ it.2 in
      let kept : Has (one s r) env =
      subst (λ (t : Bool). Has (cond t (env ∷ []) []) env) (sym whole) (inl refl) in
      subst (Has (map (λ (o : Output). o.1) (map (output query) (pairs ss rs)))) (shows s r)
      (mapped_to (λ (o : Output). o.1) (map (output query) (pairs ss rs)) (output query env)
      (mapped_to (output query) (pairs ss rs) env
      (flat_to (λ s. flat_map (one s) rs) ss s env it.1 (flat_to (one s) rs r env h kept))))

  -- rule: statements-of-tables.open-rows
  pub both_answered : (db : Trees) (rows : List Row) → IsAnswer query db params rows →
      AreAnswered (passes test (db first)) columns (db second) rows
  both_answered db rows a =
      let all : map (λ (o : Output). o.1) a.kept
      ≡ map (λ (o : Output). o.1) (map (output query) (pairs (db first) (db second))) =
      ap (map (λ (o : Output). o.1)) (a.distinct ∙ ap (map (output query)) a.grouped) in
      let same : IsPermutation (map (λ (o : Output). o.1) (map (output query)
      (pairs (db first) (db second)))) rows =
      subst (IsPermutation (map (λ (o : Output). o.1) (map (output query)
      (pairs (db first) (db second))))) (sym a.shown)
      (subst (λ xs. IsPermutation xs (map (λ (o : Output). o.1) a.ordered)) all
      (IsPermutation-map (λ (o : Output). o.1) a.kept a.ordered a.same)) in
      record {
        from = λ v h. pair_from (db first) (db second) v
            (permuted rows _ v (IsPermutation-sym _ _ same) h);
        to = λ r h e. permuted _ rows (columns r) same
            (pair_to (db first) (db second) r h e);
      }
