-- What the selection of reservations answers, each with the row of its book: rows that pass a test,
-- exactly where each reservation has such a row and passes with it.
use Rattle.std.proofs.Common.{◌≡◌, List, [], ◌∷◌, map, flat_map, Bool, true, false, cond}
use Rattle.std.proofs.Common.{inl, inr, IsTrue, refl, sym, ap, subst, ◌∙◌}
use Rattle.std.specs.Prelude.{filter}
use Rattle.std.specs.List.{AllByRecursion, list_all}
use Rattle.std.proofs.lemmas.List.Sorted.{IsPermutation-sym}
use Rattle.sqlite_value.specs.Order.{Row, column}
use Rattle.sqlite_trees.specs.Tree.{Trees}
use Rattle.sqlite_sql.specs.Term.{Env, holds}
use Rattle.sqlite_sql.specs.Program.{overlay}
use Rattle.sqlite_sql.specs.Query.{IsAnswer, Output, or_nulls, output}
use Rattle.sqlite_rules.specs.Lists.{Has}
use Rattle.sqlite_rules.proofs.ListLemmas.{all_has}
use Rattle.sql_tables.specs.Schema.{grant_books, session_groups}
use Rattle.sql_tables.proofs.Steps.{bare, mapped_from, mapped_to, permuted}
use Rattle.sql_rules.proofs.Beside.{flat_from, flat_to}
use Rattle.sql_rules.proofs.GrantTexts.{grant_query, grant_terms, held_terms}

-- ---- lists

kept_from : (p : Row → Bool) (xs : List Row) (x : Row) → Has (filter p xs) x →
    Has xs x × (p x ≡ true)
kept_from p [] x h = absurd h
kept_from p (y ∷ xs) x h = at (p y) refl (kept_from p xs x) h
  where
    at : (b : Bool) → p y ≡ b → (Has (filter p xs) x → Has xs x × (p x ≡ true))
        → Has (cond b (y ∷ filter p xs) (filter p xs)) x → Has (y ∷ xs) x × (p x ≡ true)
    at true e more (inl is) = (inl is, ap p is ∙ e)
    at true e more (inr k) = let it = more k in (inr it.0, it.1)
    at false e more k = let it = more k in (inr it.0, it.1)

kept_to : (p : Row → Bool) (xs : List Row) (x : Row) → Has xs x → p x ≡ true →
    Has (filter p xs) x
kept_to p [] x h t = absurd h
kept_to p (y ∷ xs) x (inl is) t =
    subst (λ b. Has (cond b (y ∷ filter p xs) (filter p xs)) x) (sym (sym (ap p is) ∙ t)) (inl is)
kept_to p (y ∷ xs) x (inr h) t = at (p y) (kept_to p xs x h t)
  where
    at : (b : Bool) → Has (filter p xs) x → Has (cond b (y ∷ filter p xs) (filter p xs)) x
    at true k = inr k
    at false k = k

to_nulls : (xs : List Row) (x : Row) → Has xs x → Has (or_nulls xs) x
to_nulls [] x h = absurd h
to_nulls (y ∷ xs) x h = h

-- where there is another row there is none of NULLs
from_nulls : (xs : List Row) (x y : Row) → Has xs x → Has (or_nulls xs) y → Has xs y
from_nulls [] x y h k = absurd h
from_nulls (z ∷ xs) x y h k = k

all_from : (p : Row → Bool) (xs : List Row) → ((x : Row) → Has xs x → p x ≡ true)
    → AllByRecursion (λ x. IsTrue (p x)) xs
all_from p [] each = tt
all_from p (x ∷ xs) each = (each x (inl refl), all_from p xs (λ y h. each y (inr h)))

-- ---- the query

abbrev pub is_held : Row → Row → Bool
is_held r s = list_all (holds ([] ∷ r ∷ s ∷ [])) held_terms

abbrev pub is_of : Row → Row → Bool
is_of r s = list_all (holds ([] ∷ r ∷ s ∷ [])) grant_terms

-- what is shown of both
abbrev pub shown : Row → Row → Row
shown r s = column s 4 ∷ column r 6 ∷ column r 7 ∷ []

abbrev one : Row → Row → List Env
one r s = cond (is_held r s) (([] ∷ r ∷ s ∷ []) ∷ []) []

abbrev beside : Row → List Row → List Row
beside r ss = filter (is_of r) ss

abbrev both : List Row → List Row → List Env
both rs ss = flat_map (λ r. flat_map (one r) (or_nulls (beside r ss))) rs

abbrev values : List Env → List Row
values envs = map (λ (o : Output). o.1) (map (output grant_query) envs)

values_from : (envs : List Env) (v : Row) → Has (values envs) v →
    (env : Env) × Has envs env × (v ≡ (output grant_query env).1)
values_from envs v h =
    let out = mapped_from (λ (o : Output). o.1) (map (output grant_query) envs) v h in
    let env = mapped_from (output grant_query) envs out.0 out.1 in
    (env.0, env.1, out.2 ∙ ap (λ (o : Output). o.1) env.2)

values_to : (envs : List Env) (env : Env) → Has envs env →
    Has (values envs) (output grant_query env).1
values_to envs env h =
    mapped_to (λ (o : Output). o.1) (map (output grant_query) envs) (output grant_query env)
    (mapped_to (output grant_query) envs env h)

-- a reservation is shown with each row beside it
pair_in : (rs ss : List Row) (r s : Row) → Has rs r → Has (or_nulls (beside r ss)) s
    → is_held r s ≡ true → Has (values (both rs ss)) (shown r s)
pair_in rs ss r s h k e =
    let env : Env = [] ∷ r ∷ s ∷ [] in
    let there : Has (one r s) env =
    subst (λ (t : Bool). Has (cond t (env ∷ []) []) env) (sym e) (inl refl) in
    values_to (both rs ss) env
    (flat_to (λ x. flat_map (one x) (or_nulls (beside x ss))) rs r env h
    (flat_to (one r) (or_nulls (beside r ss)) s env k there))

-- what is shown is that of a reservation and a row beside it
record IsPairOf (rs ss : List Row) (v : Row) : Type 0 where
  pub first : Row
  pub second : Row
  pub has : Has rs first
  pub there : Has (or_nulls (beside first ss)) second
  pub held : is_held first second ≡ true
  pub is : v ≡ shown first second

pair_of : (rs ss : List Row) (v : Row) → Has (values (both rs ss)) v → IsPairOf rs ss v
pair_of rs ss v h =
    let env = values_from (both rs ss) v h in
    let outer = flat_from (λ x. flat_map (one x) (or_nulls (beside x ss))) rs env.0 env.1 in
    let inside = flat_from (one outer.0) (or_nulls (beside outer.0 ss)) env.0 outer.2 in
    let it = at ([] ∷ outer.0 ∷ inside.0 ∷ []) (is_held outer.0 inside.0) refl env.0 inside.2 in
    record {
      first = outer.0;
      second = inside.0;
      has = outer.1;
      there = inside.1;
      held = it.0;
      is = env.2 ∙ ap (λ (e : Env). (output grant_query e).1) it.1;
    }
  where
    at : (env : Env) (t : Bool) {u : Bool} → u ≡ t → (x : Env) → Has (cond t (env ∷ []) []) x →
        (t ≡ true) × (x ≡ env)
    at env true e x (inl is) = (refl, is)
    at env true e x (inr k) = absurd k
    at env false e x h = absurd h

-- ---- its answer

-- each reservation has a row of its book, and passes with it
pub record HaveRows (rule : Row → Bool) (rs ss : List Row) : Type 0 where
  pub there : (r : Row) → Has rs r → is_held r [] ≡ true
      → (s : Row) × Has ss s × (is_of r s ≡ true)
  pub pass : (r s : Row) → Has rs r → is_held r [] ≡ true → Has ss s → is_of r s ≡ true
      → rule (shown r s) ≡ true

module _ (rule : Row → Bool) (none : (r : Row) → rule (shown r []) ≡ false) (db : Trees)
    (rows : List Row) (a : IsAnswer grant_query (overlay db []) [] rows) where
  abbrev rs : List Row
  rs = db session_groups.tree

  abbrev ss : List Row
  ss = db grant_books.tree

  kept_is : map (λ (o : Output). o.1) a.kept ≡ values (both rs ss)
  kept_is =
      ap (map (λ (o : Output). o.1)) (a.distinct
      ∙ ap (map (output grant_query))
      (a.grouped ∙ (λ i. both (bare db session_groups.tree i) (bare db grant_books.tree i))))

  row_of : (v : Row) → Has (values (both rs ss)) v → Has rows v
  row_of v h =
      let out = mapped_from (λ (o : Output). o.1) a.kept v
      (subst (λ xs. Has xs v) (sym kept_is) h) in
      subst (Has rows) (sym out.2)
      (subst (λ xs. Has xs out.0.1) (sym a.shown) (mapped_to (λ (o : Output). o.1) a.ordered out.0
      (permuted a.kept a.ordered out.0 a.same out.1)))

  of_row : (v : Row) → Has rows v → Has (values (both rs ss)) v
  of_row v h =
      let out = mapped_from (λ (o : Output). o.1) a.ordered v
      (subst (λ xs. Has xs v) a.shown h) in
      subst (λ x. Has (values (both rs ss)) x) (sym out.2)
      (subst (λ xs. Has xs out.0.1) kept_is (mapped_to (λ (o : Output). o.1) a.kept out.0
      (permuted a.ordered a.kept out.0 (IsPermutation-sym _ _ a.same) out.1)))

  passes : AllByRecursion (λ v. IsTrue (rule v)) rows → (r s : Row) → Has rs r
      → Has (or_nulls (beside r ss)) s → is_held r s ≡ true → rule (shown r s) ≡ true
  passes all r s h k e =
      all_has (λ v. IsTrue (rule v)) rows (shown r s) all
      (row_of (shown r s) (pair_in rs ss r s h k e))

  -- rule: rows-ruled.granted
  pub rows_have : AllByRecursion (λ v. IsTrue (rule v)) rows → HaveRows rule rs ss
  rows_have all = record {
    there = λ r h e. at r h e (beside r ss) refl;
    pass = λ r s h e k o. passes all r s h (to_nulls (beside r ss) s (kept_to (is_of r) ss s k o)) e;
  }
    where
      at : (r : Row) → Has rs r → is_held r [] ≡ true → (xs : List Row) → beside r ss ≡ xs
          → (s : Row) × Has ss s × (is_of r s ≡ true)
      at r h e [] is =
          let bad : rule (shown r []) ≡ true = passes all r [] h
          (subst (λ xs. Has (or_nulls xs) []) (sym is) (inl refl)) e in
          let clash : true ≡ false = sym bad ∙ none r in absurd (cc clash)
      at r h e (s ∷ xs) is =
          let of' = kept_from (is_of r) ss s (subst (λ ys. Has ys s) (sym is) (inl refl)) in
          (s, of'.0, of'.1)

  -- rule: rows-ruled.granted
  pub have_rows : HaveRows rule rs ss → AllByRecursion (λ v. IsTrue (rule v)) rows
  have_rows have = all_from rule rows (λ v h.
      let it = pair_of rs ss v (of_row v h) in
      let there = have.there it.first it.has it.held in
      let own = from_nulls (beside it.first ss) there.0 it.second
      (kept_to (is_of it.first) ss there.0 there.1 there.2) it.there in
      let of' = kept_from (is_of it.first) ss it.second own in
      ap rule it.is ∙ have.pass it.first it.second it.has it.held of'.0 of'.1)
