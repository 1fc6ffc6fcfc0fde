-- The rows that a selection from one table gives in the order of its keys: each is under its key,
-- and each is before the next.
use Rattle.std.proofs.Common.{◌≡◌, inl, inr, ℕ, suc, ◌+◌, List, [], ◌∷◌, map, filter, flat_map, drop}
use Rattle.std.proofs.Common.{Bool, true, false, true≢false, cond, Some, Ordering, Less}
use Rattle.std.proofs.Common.{Equal, Greater, is_eq, is_lt, refl, sym, ap, subst, ◌∙◌, IsSorted}
use Rattle.std.proofs.Common.{slice_index_or, arith}
use Rattle.std.specs.Cmp.{IsTotalOrder}
use Rattle.std.specs.List.{AllByRecursion, IsDistinct, list_all}
use Rattle.std.specs.List.Sorted.{IsPermutation}
use Rattle.std.specs.Ordering.{ordering_reverse}
use Rattle.std.proofs.lemmas.Bool.{cases_Bool}
use Rattle.std.proofs.lemmas.Cmp.{tied_itself}
use Rattle.std.proofs.lemmas.List.Sorted.{IsPermutation-sym}
use Rattle.std.proofs.lemmas.Map.Keys.{IsDistinct-IsPermutation}
use Rattle.sqlite_value.specs.declared.value.Value.TheVariants.{Null}
use Rattle.sqlite_value.specs.declared.keys.Key.{Key}
use Rattle.sqlite_value.specs.Order.{Row, value_cmp}
use Rattle.sqlite_value.proofs.OrderLemmas.{value_cmp_total}
use Rattle.sqlite_trees.specs.Tree.{IsAscending, Trees, rowid}
use Rattle.sqlite_sql.specs.Ops.{is_null}
use Rattle.sqlite_sql.specs.Term.{Term, eval_all, holds}
use Rattle.sqlite_sql.specs.Program.{overlay}
use Rattle.sqlite_sql.specs.Query.{IsAnswer, Output, Query, key_cmp, output, output_cmp}
use Rattle.sqlite_sql.proofs.QueryLemmas.{output_cmp_total}
use Rattle.sqlite_schema.specs.declared.command.Command.TheVariants.{Select}
use Rattle.sqlite_schema.specs.declared.schema.Table.{Table}
use Rattle.sqlite_schema.specs.Rules.{Fits, guards}
use Rattle.sqlite_rules.specs.Lists.{Has}
use Rattle.sqlite_rules.proofs.ListLemmas.{has_filtered}
use Rattle.sqlite.specs.Given.{IsPlain}
use Rattle.sqlite.specs.Listing.{understood, reads_listing}
use Rattle.sqlite.specs.State.{State}
use Rattle.sqlite.proofs.Callers.{command_of, reads_as}
use Rattle.sql_tables.specs.Keyed.{IsStored, look}
use Rattle.sql_tables.specs.Schema.{our_schema, key_index}
use Rattle.sql_tables.specs.Statements.{Answers}
use Rattle.sql_tables.proofs.Selected.{select_from}
use Rattle.sql_tables.proofs.Selections.{full_key, meets, one_row, stands_under}
use Rattle.sql_tables.proofs.Steps.{bare, mapped_from, permuted}
use Rattle.sql_tables.proofs.Stored.{stored_filter}

-- ---- a list in order of which no two are alike

-- each is before the next
abbrev pub DoFollow : {X : Type 0} → (X → X → Type 0) → List X → Type 0
DoFollow R [] = Unit {0}
DoFollow R (x ∷ []) = Unit {0}
DoFollow R (x ∷ y ∷ zs) = R x y × DoFollow R (y ∷ zs)

above : (o : Ordering) → is_lt o ≡ false → is_eq (ordering_reverse o) ≡ false →
    ordering_reverse o ≡ Less
above Less a b = absurd (cc a)
above Equal a b = absurd (cc b)
above Greater a b = refl

module _ {X : Type 0} (cmp : X → X → Ordering) (total : IsTotalOrder cmp) where
  abbrev alike : X → X → Bool
  alike x y = is_eq (cmp x y)

  flips : (x y : X) → alike x y ≡ alike y x
  flips x y = ap is_eq (total.antisymm x y) ∙ turned (cmp y x)
    where
      turned : (o : Ordering) → is_eq (ordering_reverse o) ≡ is_eq o
      turned Less = refl
      turned Equal = refl
      turned Greater = refl

  climbs : (xs : List X) → IsSorted cmp xs → IsDistinct alike xs →
      DoFollow (λ x y. cmp x y ≡ Less) xs
  unfolding IsDistinct
  climbs [] sorted apart = tt
  climbs (x ∷ []) sorted apart = tt
  climbs (x ∷ y ∷ zs) sorted apart =
      let rest = climbs (y ∷ zs) (λ k d low high.
      let next : suc k + 1 ≡ suc (k + 1) = omega arith in
      subst (λ n. is_lt (cmp (slice_index_or (x ∷ y ∷ zs) n d)
      (slice_index_or (y ∷ zs) k d)) ≡ false)
      next (sorted (suc k) d (omega arith) (omega (arith, high)))) apart.1 in
      let turned = total.antisymm x y in (
        turned ∙ above (cmp y x) (sorted 0 x (omega arith) (omega arith))
            (ap is_eq (sym turned) ∙ apart.0.0),
        rest,
      )

-- ---- a table

-- two stored rows that pass, of which the first is before the second
pub record IsBefore (table : Table) (trees : Trees) (test : Row → Bool) (order : List (Term × Key))
    (key columns : Row → Row) (v w : Row) : Type 0 where
  pub first : Row
  pub second : Row
  pub has : Has (trees table.tree) first
  pub too : Has (trees table.tree) second
  pub passes : test first ≡ true
  pub follows : test second ≡ true
  pub is : v ≡ columns first
  pub later : w ≡ columns second
  pub less : key_cmp 0 (map (λ k. k.1) order) (key first) (key second) ≡ Less

module _ (table : Table) (tabled : Has our_schema.tables table)
    (listed : Has our_schema.indexes (key_index table)) (guarding : guards (key_index table) table
    ≡ true) (trees : Trees) (fits : Fits our_schema trees) (stored : IsStored (trees table.tree))
    (test : Row → Bool) (keyed : Row → Row)
    (full : (r : Row) → AllByRecursion (λ v. is_null v ≡ false) (keyed r))
    (meeting : (r : Row) → Has (trees table.tree) r → test r ≡ true
    → meets table.primary (keyed r) r ≡ true) where
  -- each row that is selected is under its key
  pub row_under : (r : Row) → Has (trees table.tree) r → test r ≡ true
      → look table trees (keyed r) ≡ Some (drop 1 r)
  row_under r has passes =
      stands_under our_schema table tabled (key_index table) listed guarding refl refl trees fits
      stored (keyed r) (λ x m. full_key table.primary (keyed r) x (full r) m) r has
      (meeting r has passes)

  module _ (terms project : List Term) (order : List (Term × Key)) (params : Row)
      (key columns : Row → Row)
      (tests : (r : Row) → list_all (holds (params ∷ r ∷ [])) terms ≡ test r)
      (keys : (r : Row) → eval_all (map (λ k. k.0) order) (params ∷ r ∷ []) ≡ key r)
      (shows : (r : Row) → eval_all project (params ∷ r ∷ []) ≡ columns r)
      (ties : (r s : Row) → Has (trees table.tree) r → Has (trees table.tree) s → test r ≡ true
      → test s ≡ true
      → is_eq (key_cmp 0 (map (λ k. k.1) order) (key r) (key s)) ≡ true
      → meets table.primary (keyed r) s ≡ true) where
    abbrev query : Query
    query = select_from table.tree terms project order

    abbrev out : Row → Output
    out r = (key r, columns r)

    abbrev cmp : Output → Output → Ordering
    cmp = output_cmp query

    abbrev IsBefore' : Row → Row → Type 0
    IsBefore' = IsBefore table trees test order key columns

    differ : (r s : Row) → Has (trees table.tree) r → Has (trees table.tree) s → test r ≡ true
        → test s ≡ true → is_eq (value_cmp (rowid r) (rowid s)) ≡ false
        → is_eq (cmp (out r) (out s)) ≡ false
    differ r s h k p q apart = elim (cases_Bool (is_eq (cmp (out r) (out s)))) [
      | inl tie ↦
          let same : r ≡ s = one_row table.primary our_schema table tabled (key_index table) listed
          guarding refl refl trees fits stored (keyed r)
          (λ x m. full_key table.primary (keyed r) x (full r) m) r s h k (meeting r h p)
          (ties r s h k p q tie) in
          absurd (true≢false (sym (ap is_eq (tied_itself value_cmp_total (rowid r)))
          ∙ ap (λ (x : Row). is_eq (value_cmp (rowid r) (rowid x))) same
          ∙ apart))
      | inr apart' ↦ apart'
    ]

    abbrev IsIn : Row → Type 0
    IsIn r = Has (trees table.tree) r × (test r ≡ true)

    after : (r : Row) → IsIn r → (xs : List Row) → ((x : Row) → Has xs x → IsIn x)
        → AllByRecursion (λ x. is_eq (value_cmp (rowid r) (rowid x)) ≡ false) xs
        → AllByRecursion (λ o. is_eq (cmp (out r) o) ≡ false) (map out xs)
    after r in' [] within all = tt
    after r in' (x ∷ xs) within all =
        let here = within x (inl refl) in (
          differ r x in'.0 here.0 in'.1 here.1 all.0,
          after r in' xs (λ y m. within y (inr m)) all.1,
        )

    distinct : (xs : List Row) → ((x : Row) → Has xs x → IsIn x)
        → IsAscending (λ a b. is_eq (value_cmp (rowid a) (rowid b)) ≡ false) xs
        → IsDistinct (λ o p. is_eq (cmp o p)) (map out xs)
    unfolding IsDistinct
    distinct [] within all = tt
    distinct (x ∷ xs) within all = (
      after x (within x (inl refl)) xs (λ y m. within y (inr m)) all.0,
      distinct xs (λ y m. within y (inr m)) all.1,
    )

    matched : (rs : List Row) → map (output query)
        (flat_map (λ r. cond (list_all (holds (params ∷ r ∷ [])) terms)
        ((params ∷ r ∷ []) ∷ []) []) rs) ≡ map out (filter test rs)
    matched [] = refl
    matched (r ∷ rs) = elim (cases_Bool (test r)) [
      | inl e ↦ rw (tests r, e, matched rs, keys r, shows r) refl
      | inr e ↦ rw (tests r, e, matched rs) refl
    ]

    told_of : (o p : Output)
        → ((r : Row) × Has (filter test (trees table.tree)) r × (o ≡ out r))
        → ((r : Row) × Has (filter test (trees table.tree)) r × (p ≡ out r))
        → cmp o p ≡ Less → IsBefore' o.1 p.1
    told_of o p one two less =
        let first = has_filtered test (trees table.tree) one.0 one.1 in
        let second = has_filtered test (trees table.tree) two.0 two.1 in
        record {
          first = one.0;
          second = two.0;
          has = first.0;
          too = second.0;
          passes = first.1;
          follows = second.1;
          is = ap (λ (x : Output). x.1) one.2;
          later = ap (λ (x : Output). x.1) two.2;
          less = ap (λ (x : Output). cmp x (out two.0)) (sym one.2)
              ∙ ap (cmp o) (sym two.2)
              ∙ less;
        }

    follow : (os : List Output)
        → ((o : Output) → Has os o
        → (r : Row) × Has (filter test (trees table.tree)) r × (o ≡ out r))
        → DoFollow (λ o p. cmp o p ≡ Less) os
        → DoFollow IsBefore' (map (λ (o : Output). o.1) os)
    follow [] from up = tt
    follow (o ∷ []) from up = tt
    follow (o ∷ p ∷ os) from up = (
      told_of o p (from o (inl refl)) (from p (inr (inl refl))) up.0,
      follow (p ∷ os) (λ x m. from x (inr m)) up.1,
    )

    pub ordered : (rows : List Row) → IsAnswer query (overlay trees []) params rows
        → DoFollow IsBefore' rows
    ordered rows a =
        let kept : a.kept ≡ map out (filter test (trees table.tree)) =
        a.distinct ∙ ap (map (output query))
        (a.grouped ∙ ap (λ rs. flat_map (λ r. cond (list_all (holds (params ∷ r ∷ [])) terms)
        ((params ∷ r ∷ []) ∷ []) []) rs) (bare trees table.tree)) ∙ matched (trees table.tree) in
        let same : IsPermutation (map out (filter test (trees table.tree))) a.ordered =
        subst (λ os. IsPermutation os a.ordered) kept a.same in
        let apart = IsDistinct-IsPermutation (λ o p. is_eq (cmp o p)) (flips cmp
        (output_cmp_total query)) (map out (filter test (trees table.tree))) a.ordered same
        (distinct (filter test (trees table.tree))
        (λ x m. has_filtered test (trees table.tree) x m)
        (stored_filter test (trees table.tree) stored).0) in
        subst (DoFollow IsBefore') (sym a.shown)
        (follow a.ordered (λ o m. mapped_from out (filter test (trees table.tree)) o
        (permuted a.ordered (map out (filter test (trees table.tree))) o
        (IsPermutation-sym _ _ same) m))
        (climbs cmp (output_cmp_total query) a.ordered a.sorted apart))

-- what a statement that is such a selection answers
module _ (text : List ℕ) (names : List (List ℕ)) (table : Table)
    (tabled : Has our_schema.tables table)
    (listed : Has our_schema.indexes (key_index table)) (guarding : guards (key_index table) table
    ≡ true) (terms project : List Term) (order : List (Term × Key))
    (is : (command_of (understood our_schema text) ≡ Select (record
    { lets = []; body = select_from table.tree terms project order }) names) ×
    (reads_listing our_schema text ≡ false)) (plain : IsPlain (understood our_schema text))
    (params : Row) (test : Row → Bool) (key columns keyed : Row → Row)
    (full : (r : Row) → AllByRecursion (λ v. is_null v ≡ false) (keyed r))
    (tests : (r : Row) → list_all (holds (params ∷ r ∷ [])) terms ≡ test r)
    (keys : (r : Row) → eval_all (map (λ k. k.0) order) (params ∷ r ∷ []) ≡ key r)
    (shows : (r : Row) → eval_all project (params ∷ r ∷ []) ≡ columns r) where
  pub ordered_told : (old new : State) (rows : List Row) → Answers text params old new rows
      → (stored : IsStored (old.now.trees table.tree))
      → (meeting : (r : Row) → Has (old.now.trees table.tree) r → test r ≡ true
      → meets table.primary (keyed r) r ≡ true)
      → (ties : (r s : Row) → Has (old.now.trees table.tree) r
      → Has (old.now.trees table.tree) s → test r ≡ true → test s ≡ true
      → is_eq (key_cmp 0 (map (λ k. k.1) order) (key r) (key s)) ≡ true
      → meets table.primary (keyed r) s ≡ true)
      → DoFollow (IsBefore table old.now.trees test order key columns) rows
  ordered_told old new rows a stored meeting ties =
      ordered table tabled listed guarding old.now.trees a.fits stored test keyed full meeting terms
      project order params key columns tests keys shows ties rows
      ((reads_as text params old new our_schema a.book.schema
      (Select (record { lets = []; body = select_from table.tree terms project order }) names)
      is.0 plain is.1 rows a.shown).answer Null)
