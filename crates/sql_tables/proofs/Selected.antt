-- What a selection from one table answers.
use Rattle.std.proofs.Common.{◌≡◌, ℕ, pos, negsuc, List, [], ◌∷◌, ◌++◌, map, filter, flat_map}
use Rattle.std.proofs.Common.{Bool, true, false, cond, None, refl, sym, ap, subst, ◌∙◌, inl, inr}
use Rattle.std.specs.List.{list_all}
use Rattle.std.specs.List.Sorted.{IsPermutation}
use Rattle.std.proofs.lemmas.List.Sorted.{IsPermutation-map, IsPermutation-sym}
use Rattle.std.proofs.lemmas.Bool.{cases_Bool}
use Rattle.sqlite_value.specs.declared.value.Value.TheVariants.{Null, Int}
use Rattle.sqlite_value.specs.Order.{Row}
use Rattle.sqlite_value.specs.declared.keys.Key.{Key}
use Rattle.sqlite_trees.specs.Tree.{Trees}
use Rattle.sqlite_sql.specs.Term.{Term, lit, holds, eval_all}
use Rattle.sqlite_sql.specs.Program.{overlay}
use Rattle.sqlite_sql.specs.Query.{Query, inner, end, IsAnswer, Output, output}
use Rattle.sqlite_schema.specs.declared.command.Command.TheVariants.{Select}
use Rattle.sqlite.specs.Listing.{understood, reads_listing}
use Rattle.sqlite.specs.State.{State, Shown, Begins}
use Rattle.sqlite.proofs.Callers.{IsPlain, command_of, reads_as, begins_as}
use Rattle.sqlite_rules.specs.Lists.{Has}
use Rattle.sqlite_rules.proofs.ListLemmas.{has_filtered, has_kept}
use Rattle.sql_tables.specs.Schema.{our_schema}
use Rattle.sql_tables.specs.Statements.{Answers}
use Rattle.sql_tables.specs.Selects.{Selects}
use Rattle.sql_tables.proofs.Steps.{bare, permuted, mapped_from, mapped_to}

-- each row of the answer is that of a stored row
pub selected_from : (test : Row → Bool) (columns : Row → Row) (stored out : List Row) →
    Selects test columns stored out → (v : Row) → Has out v →
    (r : Row) × Has stored r × (test r ≡ true) × (v ≡ columns r)
selected_from test columns stored out s v h =
    let it =
    mapped_from columns (filter test stored) v (permuted out (map columns (filter test stored)) v
    (IsPermutation-sym _ _ s.same) h) in
    let has = has_filtered test stored it.0 it.1 in
    (it.0, has.0, has.1, it.2)

-- and each stored row that passes the test is there
pub selected_to : (test : Row → Bool) (columns : Row → Row) (stored out : List Row) →
    Selects test columns stored out → (r : Row) → Has stored r → test r ≡ true → Has out (columns r)
selected_to test columns stored out s r h e = permuted _ out (columns r) s.same
    (mapped_to columns (filter test stored) r (has_kept test stored r h e))

-- what is answered is of stored rows that pass the test, and each of them is there
pub record AreAnswered (test : Row → Bool) (columns : Row → Row) (stored out : List Row) : Type 0
  where
    pub from : (v : Row) → Has out v →
        (r : Row) × Has stored r × (test r ≡ true) × (v ≡ columns r)
    pub to : (r : Row) → Has stored r → test r ≡ true → Has out (columns r)

pub selected : (test : Row → Bool) (columns : Row → Row) (stored out : List Row) →
    Selects test columns stored out → AreAnswered test columns stored out
selected test columns stored out s = record {
  from = selected_from test columns stored out s;
  to = selected_to test columns stored out s;
}

-- a selection from one table, with all its rows that pass
abbrev pub select_from : ℕ → List Term → List Term → List (Term × Key) → Query
select_from tree filter project order = record {
  from = inner tree end;
  filter = filter;
  group = None;
  project = project;
  distinct = false;
  collations = [];
  order = order;
  limit = lit (Int (negsuc 0));
  offset = lit (Int (pos 0));
}

-- what the query of a selection answers
module _ (tree : ℕ) (terms project : List Term) (order : List (Term × Key)) (params : Row)
    (test : Row → Bool) (columns : Row → Row)
    (tests : (r : Row) → list_all (holds (params ∷ r ∷ [])) terms ≡ test r)
    (shows : (r : Row) → eval_all project (params ∷ r ∷ []) ≡ columns r) where
  abbrev query : Query
  query = select_from tree terms project order

  matched : (rs : List Row) → map (λ (o : Output). o.1) (map (output query)
      (flat_map (λ r.
      cond (list_all (holds (params ∷ r ∷ [])) terms) ((params ∷ r ∷ []) ∷ []) []) rs)) ≡ map
      columns (filter test rs)
  matched [] = refl
  matched (r ∷ rs) = elim (cases_Bool (test r)) [
    | inl e ↦ rw (tests r, e, matched rs, shows r) refl
    | inr e ↦ rw (tests r, e, matched rs) refl
  ]

  pub answered : (db : Trees) (rows : List Row) → IsAnswer query (overlay db []) params rows →
      Selects test columns (db tree) rows
  answered db rows a =
      let kept : map (λ (o : Output). o.1) a.kept ≡ map columns (filter test (db tree)) =
      ap (map (λ (o : Output). o.1)) (a.distinct ∙ ap (map (output query))
      (a.grouped ∙ ap (λ rs. flat_map (λ r. cond (list_all (holds (params ∷ r ∷ [])) terms)
      ((params ∷ r ∷ []) ∷ []) []) rs) (bare db tree))) ∙ matched (db tree) in
      record {
        same = subst (IsPermutation (map columns (filter test (db tree)))) (sym a.shown)
            (subst (λ xs. IsPermutation xs (map (λ (o : Output). o.1) a.ordered)) kept
            (IsPermutation-map (λ (o : Output). o.1) a.kept a.ordered a.same));
      }

-- what a statement that is a selection answers
module _ (text : List ℕ) (names : List (List ℕ)) (tree : ℕ) (terms project : List Term)
    (order : List (Term × Key)) (is : (command_of (understood our_schema text) ≡ Select (record
    { lets = []; body = select_from tree terms project order }) names) ×
    (reads_listing our_schema text ≡ false)) (plain : IsPlain (understood our_schema text))
    (params : Row) (test : Row → Bool) (columns : Row → Row)
    (tests : (r : Row) → list_all (holds (params ∷ r ∷ []))
    terms ≡ test r) (shows : (r : Row) → eval_all project (params ∷ r ∷ []) ≡ columns r) where
  selects : (old new : State) (rows : List Row) → old.now.schema ≡ our_schema →
      Shown text params old new rows →
      Selects test columns (old.now.trees tree) rows
  selects old new rows has h =
      answered tree terms project order params test columns tests shows old.now.trees rows
      ((reads_as text params old new our_schema has
      (Select (record { lets = []; body = select_from tree terms project order }) names)
      is.0 plain is.1 rows h).answer Null)

  -- the first rows of an answer
  pub starts : (s : State) (rows : List Row) → s.now.schema ≡ our_schema →
      Begins text params s rows →
      (tail : List Row) × Selects test columns (s.now.trees tree) (rows ++ tail)
  starts s rows has h =
      let first = begins_as text params s s our_schema has
      (Select (record { lets = []; body = select_from tree terms project order }) names)
      is.0 plain is.1 rows h in (
        first.1.0,
        answered tree terms project order params test columns tests shows s.now.trees
            (rows ++ first.1.0) (first.1.1 Null),
      )

  pub told : (old new : State) (rows : List Row) → Answers text params old new rows →
      Selects test columns (old.now.trees tree) rows
  told old new rows a = selects old new rows a.book.schema a.shown
