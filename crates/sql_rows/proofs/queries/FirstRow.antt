-- What a selection of one row in an order says: whether any stored row passes, and that none that
-- passes is before it.
use Rattle.std.proofs.Common.{◌≡◌, inl, inr, ℕ, pos, List, [], ◌∷◌, map, filter, flat_map, take}
use Rattle.std.proofs.Common.{Bool, true, false, cond, refl, sym, ap, subst, ◌∙◌, Ordering, is_lt}
use Rattle.std.proofs.Common.{IsSorted, arith}
use Rattle.std.specs.Cmp.{IsTotalOrder}
use Rattle.std.specs.List.{list_all}
use Rattle.std.specs.List.Sorted.{IsPermutation}
use Rattle.std.proofs.lemmas.List.Sorted.{IsPermutation-sym, ranks_by, sorted_far}
use Rattle.std.proofs.lemmas.Bool.{cases_Bool}
use Rattle.sqlite_value.specs.declared.value.Value.TheVariants.{Null, Int}
use Rattle.sqlite_value.specs.declared.keys.Key.{Key}
use Rattle.sqlite_value.specs.Order.{Row}
use Rattle.sqlite_trees.specs.Tree.{Trees}
use Rattle.sqlite_sql.specs.Term.{Term, lit, holds, eval_all}
use Rattle.sqlite_sql.specs.Program.{overlay}
use Rattle.sqlite_sql.specs.Query.{IsAnswer, Output, Query, key_cmp, output, output_cmp}
use Rattle.sqlite_sql.proofs.QueryLemmas.{output_cmp_total}
use Rattle.sqlite_schema.specs.declared.command.Command.TheVariants.{Select}
use Rattle.sqlite_rules.specs.Lists.{Has}
use Rattle.sqlite_rules.proofs.ListLemmas.{contains_had, has_filtered, has_kept}
use Rattle.sqlite.specs.Given.{IsPlain}
use Rattle.sqlite.specs.Listing.{understood, reads_listing}
use Rattle.sqlite.specs.State.{State}
use Rattle.sqlite.proofs.Callers.{command_of, reads_as}
use Rattle.sql_tables.specs.Schema.{our_schema}
use Rattle.sql_tables.specs.Statements.{Answers}
use Rattle.sql_tables.proofs.Selected.{select_from}
use Rattle.sql_tables.proofs.Steps.{bare, mapped_from, mapped_to, permuted}

-- a stored row that passes has these columns, and none that passes is before it
pub record IsFirst (test : Row → Bool) (before : Row → Row → Bool) (columns : Row → Row)
    (stored : List Row) (v : Row) : Type 0 where
  pub row : Row
  pub has : Has stored row
  pub passes : test row ≡ true
  pub is : v ≡ columns row
  pub least : (r : Row) → Has stored r → test r ≡ true → before r row ≡ false

-- one row where any passes
abbrev pub IsFirstOf : (Row → Bool) → (Row → Row → Bool) → (Row → Row) → List Row → List Row →
    Type 0
IsFirstOf test before columns stored [] = (r : Row) → Has stored r → test r ≡ true → ⊥
IsFirstOf test before columns stored (v ∷ []) = IsFirst test before columns stored v
IsFirstOf test before columns stored (v ∷ w ∷ vs) = ⊥

-- a selection of one row from one table
abbrev pub first_from : ℕ → List Term → List Term → List (Term × Key) → Query
first_from tree filter project order =
    record (select_from tree filter project order) { limit = lit (Int (pos 1)) }

-- whether a row is before another in the order, by what they are sorted by
abbrev pub sorts_before : List (Term × Key) → (Row → Row) → Row → Row → Bool
sorts_before order key r s = is_lt (key_cmp 0 (map (λ k. k.1) order) (key r) (key s))

-- none of an ordered list is before its first
none_before : {X : Type 0} (cmp : X → X → Ordering) → IsTotalOrder cmp → (x : X) (xs : List X)
    → IsSorted cmp (x ∷ xs) → (y : X) → Has (x ∷ xs) y → is_lt (cmp y x) ≡ false
none_before cmp total x xs sorted y h =
    let at = contains_had (x ∷ xs) y h in
    ap (λ z. is_lt (cmp z x)) (sym at.2)
    ∙ sorted_far (λ a b. is_lt (cmp a b)) (ranks_by total (λ a. a)) (x ∷ xs) sorted 0 at.0 y
    (omega arith) at.1

-- what the query of a selection answers
module _ (tree : ℕ) (terms project : List Term) (order : List (Term × Key)) (params : Row)
    (test : Row → Bool) (key columns : Row → Row)
    (tests : (r : Row) → list_all (holds (params ∷ r ∷ [])) terms ≡ test r)
    (keys : (r : Row) → eval_all (map (λ k. k.0) order) (params ∷ r ∷ []) ≡ key r)
    (shows : (r : Row) → eval_all project (params ∷ r ∷ []) ≡ columns r) where
  abbrev query : Query
  query = first_from tree terms project order

  abbrev out : Row → Output
  out r = (key r, columns r)

  matched : (rs : List Row) → map (output query)
      (flat_map (λ r. cond (list_all (holds (params ∷ r ∷ [])) terms)
      ((params ∷ r ∷ []) ∷ []) []) rs) ≡ map out (filter test rs)
  matched [] = refl
  matched (r ∷ rs) = elim (cases_Bool (test r)) [
    | inl e ↦ rw (tests r, e, matched rs, keys r, shows r) refl
    | inr e ↦ rw (tests r, e, matched rs) refl
  ]

  first_in : (stored rows : List Row) (ordered : List Output)
      → IsPermutation (map out (filter test stored)) ordered
      → IsSorted (output_cmp query) ordered
      → rows ≡ take 1 (map (λ (o : Output). o.1) ordered)
      → IsFirstOf test (sorts_before order key) columns stored rows
  first_in stored rows [] same sorted shown =
      subst (IsFirstOf test (sorts_before order key) columns stored) (sym shown)
      (λ r h e. permuted (map out (filter test stored)) [] (out r) same
      (mapped_to out (filter test stored) r (has_kept test stored r h e)))
  first_in stored rows (o ∷ os) same sorted shown =
      subst (IsFirstOf test (sorts_before order key) columns stored) (sym shown) (record {
        row = it.0;
        has = kept.0;
        passes = kept.1;
        is = ap (λ (p : Output). p.1) it.2;
        least = λ r h e.
            ap (λ (p : Output). is_lt (output_cmp query (out r) p)) (sym it.2)
            ∙ none_before (output_cmp query) (output_cmp_total query) o os sorted (out r)
            (permuted (map out (filter test stored)) (o ∷ os) (out r) same
            (mapped_to out (filter test stored) r (has_kept test stored r h e)));
      })
    where
      it : (r : Row) × Has (filter test stored) r × (o ≡ out r)
      it = mapped_from out (filter test stored) o
          (permuted (o ∷ os) (map out (filter test stored)) o
          (IsPermutation-sym _ _ same) (inl refl))

      kept : Has stored it.0 × (test it.0 ≡ true)
      kept = has_filtered test stored it.0 it.1

  pub first_answered : (db : Trees) (rows : List Row)
      → IsAnswer query (overlay db []) params rows
      → IsFirstOf test (sorts_before order key) columns (db tree) rows
  first_answered db rows a =
      let kept : a.kept ≡ map out (filter test (db tree)) =
      a.distinct ∙ ap (map (output query))
      (a.grouped ∙ ap (λ rs. flat_map (λ r. cond (list_all (holds (params ∷ r ∷ [])) terms)
      ((params ∷ r ∷ []) ∷ []) []) rs) (bare db tree)) ∙ matched (db tree) in
      first_in (db tree) rows a.ordered (subst (λ os. IsPermutation os a.ordered) kept a.same)
      a.sorted a.shown

-- what a statement that is such a selection answers
module _ (text : List ℕ) (names : List (List ℕ)) (tree : ℕ) (terms project : List Term)
    (order : List (Term × Key)) (is : (command_of (understood our_schema text) ≡ Select (record
    { lets = []; body = first_from tree terms project order }) names) ×
    (reads_listing our_schema text ≡ false)) (plain : IsPlain (understood our_schema text))
    (params : Row) (test : Row → Bool) (key columns : Row → Row)
    (tests : (r : Row) → list_all (holds (params ∷ r ∷ [])) terms ≡ test r)
    (keys : (r : Row) → eval_all (map (λ k. k.0) order) (params ∷ r ∷ []) ≡ key r)
    (shows : (r : Row) → eval_all project (params ∷ r ∷ []) ≡ columns r) where
  -- rule: statements-of-tables.tables-content
  pub first_told : (old new : State) (rows : List Row) → Answers text params old new rows
      → IsFirstOf test (sorts_before order key) columns (old.now.trees tree) rows
  first_told old new rows a =
      first_answered tree terms project order params test key columns tests keys shows
      old.now.trees rows
      ((reads_as text params old new our_schema a.book.schema
      (Select (record { lets = []; body = first_from tree terms project order }) names)
      is.0 plain is.1 rows a.shown).answer Null)
