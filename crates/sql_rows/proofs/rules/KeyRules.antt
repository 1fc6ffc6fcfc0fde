-- The row under a key, as it is read: none, or one that is the cells of a value, where it is in the
-- order of its table's columns.
use Rattle.std.proofs.Common.{◌≡◌, inl, inr, ℕ, List, [], ◌∷◌, map, drop, true, false}
use Rattle.std.proofs.Common.{Some, None, Option, refl, sym, ap, subst, ◌∙◌}
use Rattle.std.specs.Prelude.{slice_index_or, Result, Ok, Err, IfErr, IfSome, MatchResult}
use Rattle.std.specs.List.{AllByRecursion}
use Rattle.std.specs.Ordering.{eq_by_cmp}
use Rattle.sqlite_value.specs.Order.{Row, row_cmp}
use Rattle.sqlite_trees.specs.Tree.{Trees}
use Rattle.sqlite_sql.specs.Ops.{is_null}
use Rattle.sqlite_schema.specs.declared.schema.Table.{Table}
use Rattle.sqlite_schema.specs.Rules.{Fits, guards}
use Rattle.sqlite_rules.specs.Lists.{Has}
use Rattle.sqlite.specs.State.{HasCleanDisk, State}
use Rattle.sql_tables.specs.Keyed.{IsStored, key_of, look}
use Rattle.sql_tables.specs.Schema.{our_schema, key_index}
use Rattle.sql_tables.specs.Selects.{Selects, one_or_none}
use Rattle.sql_tables.specs.Statements.{Answers}
use Rattle.sql_tables.proofs.Keys.{keys_back}
use Rattle.sql_tables.proofs.Selections.{full_key, stands_under}
use Rattle.sql_tables.proofs.Single.{one_selected}
use Rattle.sql_rows.proofs.rules.MetaRules.{at_err}

-- ---- the rows that are read

module _ {X : Type 0} (cells : X → Row) (IsRuled : X → Type 0) where
  -- the one row that was read is refused
  pub one_refused : (rows : List Row) (row : Row) → rows ≡ row ∷ []
      → ((x : X) → row ≡ cells x → ¬ IsRuled x) → (o : Option X)
      → rows ≡ map cells (one_or_none o) → ¬ IfSome o IsRuled
  one_refused rows row is no' None none ruled =
      absurd (let e : row ∷ [] ≡ [] = sym is ∙ none in cc)
  one_refused rows row is no' (Some x) some ruled =
      no' x (ap (λ (l : List Row). slice_index_or l 0 row) (sym is ∙ some)) ruled

  -- several rows are no one's
  pub several_refused : (rows : List Row) → ((o : Option Row) → ¬ (rows ≡ one_or_none o))
      → (o : Option X) → rows ≡ map cells (one_or_none o) → ¬ IfSome o IsRuled
  several_refused rows several None none ruled = several None none
  several_refused rows several (Some x) some ruled = several (Some (cells x)) some

-- ---- what an error says of the tables

-- both ends of a clause say less
pub both_weaker : {T E : Type 0} (P P' : T → Type 0) (Q Q' : E → Type 0) (r : Result T E)
    → ((x : T) → P x → P' x) → ((e : E) → Q e → Q' e) → MatchResult r P Q → MatchResult r P' Q'
both_weaker P P' Q Q' (Ok x) to too h = to x h
both_weaker P P' Q Q' (Err e) to too h = too e h

-- what is said of an error by the rows that were read
pub refused_as : {V E : Type 0} (P : V → Type 0) (Q R : E → Type 0)
    (sql : List ℕ) (held params : Row) (old new : State) (rows slice : List Row) (r : Result V E)
    → (HasCleanDisk new → Answers sql held old new rows) → held ≡ params → slice ≡ rows
    → MatchResult r P Q
    → ((e : E) → Answers sql params old new slice → Q e → R e) → HasCleanDisk new → IfErr r R
refused_as P Q R sql held params old new rows slice r answers is same made tells clean =
    at_err P Q R r (λ e said. tells e
    (subst (λ l. Answers sql params old new l) (sym same)
    (subst (λ w. Answers sql w old new rows) is (answers clean))) said) made

-- the same of a clause on errors alone
pub refused_by : {V E : Type 0} (Q R : E → Type 0)
    (sql : List ℕ) (held params : Row) (old new : State) (rows slice : List Row) (r : Result V E)
    → (HasCleanDisk new → Answers sql held old new rows) → held ≡ params → slice ≡ rows
    → IfErr r Q
    → ((e : E) → Answers sql params old new slice → Q e → R e) → HasCleanDisk new → IfErr r R
refused_by Q R sql held params old new rows slice (Ok x) answers is same made tells clean = tt
refused_by Q R sql held params old new rows slice (Err e) answers is same made tells clean =
    tells e (subst (λ l. Answers sql params old new l) (sym same)
    (subst (λ w. Answers sql w old new rows) is (answers clean))) made

module _ (table : Table) (tabled : Has our_schema.tables table)
    (listed : Has our_schema.indexes (key_index table)) (guarding : guards (key_index table) table
    ≡ true) (trees : Trees) (fits : Fits our_schema trees)
    (stored : IsStored (trees table.tree)) (key : Row)
    (full : AllByRecursion (λ v. is_null v ≡ false) key) {X : Type 0} (of : Row → X)
    (cells : X → Row) (columns : Row → Row) where
  -- none, or one row that is in the order of its columns
  -- rule: statements-of-tables.refused
  pub one_there : ((r : Row) → Has (trees table.tree) r → look table trees key ≡ Some (drop 1 r)
      → columns r ≡ cells (of (drop 1 r))) → (out : List Row)
      → Selects (λ r. eq_by_cmp row_cmp (key_of table.primary r) key) columns (trees table.tree) out
      → (o : Option X) × (out ≡ map cells (one_or_none o))
  one_there fitting out selects =
      elim (one_selected table tabled listed guarding trees fits stored columns
      (λ r. eq_by_cmp row_cmp (key_of table.primary r) key) key full (λ r. refl) out selects) [
        | inl none ↦ (None, none)
        | inr one ↦ (
          Some (of (drop 1 one.0)),
          one.3 ∙ ap (λ v. v ∷ []) (fitting one.0 one.1
              (stands_under our_schema table tabled (key_index table) listed guarding refl refl
              trees fits stored key (λ x m. full_key table.primary key x full m) one.0 one.1
              (keys_back (key_of table.primary one.0) key one.2))),
        )
      ]
