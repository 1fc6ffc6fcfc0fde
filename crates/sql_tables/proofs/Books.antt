-- What a statement on one table keeps of the others.
use Rattle.std.proofs.Common.{◌≡◌, ◌≢◌, ℕ, List, [], ◌∷◌, Bool, true, false, not}
use Rattle.std.proofs.Common.{◌==◌, refl, sym, ap, subst, ◌∙◌, eq-eqb, true-eqb}
use Rattle.std.proofs.lemmas.Bool.{and_parts}
use Rattle.std.specs.List.{AllByRecursion, list_all}
use Rattle.sqlite_trees.specs.Tree.{Trees}
use Rattle.sqlite_trees.specs.Objects.{catalog_tree}
use Rattle.sqlite_schema.specs.declared.schema.Table.{Table}
use Rattle.sqlite_schema.specs.declared.schema.Index.{Index}
use Rattle.sqlite_rules.specs.Edit.{IsNoIndex}
use Rattle.sql_tables.specs.Keyed.{IsStored}
use Rattle.sql_tables.specs.Statements.{AreStored}
use Rattle.sql_tables.specs.Schema.{our_schema}

abbrev is_no_index : ℕ → Bool
is_no_index tree = list_all (λ (i : Index). not (i.tree == tree)) our_schema.indexes

no_index : (is : List Index) (tree : ℕ) → list_all (λ (i : Index). not (i.tree == tree)) is ≡ true →
    AllByRecursion (λ i. i.tree ≢ tree) is
no_index [] tree h = tt
no_index (i ∷ is) tree h = let both = and_parts _ _ h in (
  (λ same. apart i.tree tree same both.0),
  no_index is tree
      both.1,
)
  where
    apart : (a b : ℕ) → a ≡ b → not (a == b) ≡ true → ⊥
    apart a b same h =
        let e : not (b == b) ≡ true = subst (λ x. not (x == b) ≡ true) same h in reflexive b e
      where
        reflexive : (b : ℕ) → not (b == b) ≡ true → ⊥
        reflexive b e = let t : (b == b) ≡ true = eq-eqb b b refl in
            let f : false ≡ true = sym (ap not t) ∙ e in cc

tables_free : list_all (λ (t : Table). is_no_index t.tree) our_schema.tables ≡ true
tables_free = refl

catalog_free : is_no_index catalog_tree ≡ true
catalog_free = refl

module _ (table : Table) (db next : Trees) (stored : IsStored (next table.tree))
    (kept : (t : ℕ) → t ≢ table.tree → IsNoIndex our_schema t → next t ≡ db t) where
  same_tables : (ts : List Table) → list_all (λ (t : Table). is_no_index t.tree) ts ≡ true →
      AllByRecursion (λ (t : Table). t.tree ≢ table.tree → next t.tree ≡ db t.tree) ts
  same_tables [] h = tt
  same_tables (t ∷ ts) h = let both = and_parts _ _ h in (
    (λ other. kept t.tree other
        (no_index our_schema.indexes t.tree both.0)),
    same_tables ts both.1,
  )

  stored_tables : (ts : List Table) →
      AllByRecursion (λ (t : Table). t.tree ≢ table.tree → next t.tree ≡ db t.tree)
      ts → AllByRecursion (λ (t : Table). IsStored (db t.tree)) ts → AllByRecursion
      (λ (t : Table). IsStored (next t.tree)) ts
  stored_tables [] same h = tt
  stored_tables (t ∷ ts) same h = (go (t.tree == table.tree) refl, stored_tables ts same.1 h.1)
    where
      go : (b : Bool) → (t.tree == table.tree) ≡ b → IsStored (next t.tree)
      go true e = subst (λ n. IsStored (next n)) (sym (true-eqb t.tree table.tree (sym e))) stored
      go false e = subst IsStored
          (sym (same.0 (λ is. let yes' : (t.tree == table.tree) ≡ true = eq-eqb t.tree
          table.tree is in let f : true ≡ false = sym yes' ∙ e in cc))) h.0

  pub others : AllByRecursion (λ (t : Table). t.tree ≢ table.tree →
      next t.tree ≡ db t.tree) our_schema.tables
  others = same_tables our_schema.tables tables_free

  pub stays_stored : AreStored db → AreStored next
  stays_stored h = stored_tables our_schema.tables others h

  pub catalog_stays : catalog_tree ≢ table.tree → next catalog_tree ≡ db catalog_tree
  catalog_stays other =
      kept catalog_tree other (no_index our_schema.indexes catalog_tree catalog_free)
