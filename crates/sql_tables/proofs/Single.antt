-- A selection by the whole key answers at most one row.
use Rattle.std.proofs.Common.{◌≡◌, ◌⊎◌, inl, inr, List, [], ◌∷◌, map, filter, length, Bool, true}
use Rattle.std.proofs.Common.{false, is_eq, refl, sym, ap, ap₂, subst, ◌∙◌, arith}
use Rattle.std.proofs.lemmas.Cmp.{tied_itself}
use Rattle.std.proofs.lemmas.List.{nil_from_length}
use Rattle.std.proofs.lemmas.List.Sorted.{length_permutation}
use Rattle.std.specs.List.{AllByRecursion}
use Rattle.std.specs.List.Sorted.{IsPermutation}
use Rattle.std.specs.Ordering.{eq_by_cmp}
use Rattle.sqlite_value.specs.Order.{Row, row_cmp, value_cmp}
use Rattle.sqlite_value.proofs.OrderLemmas.{value_cmp_total}
use Rattle.sqlite_trees.specs.Tree.{Trees, rowid}
use Rattle.sqlite_sql.specs.Ops.{is_null}
use Rattle.sqlite_schema.specs.declared.schema.Table.{Table}
use Rattle.sqlite_schema.specs.Rules.{Fits, guards}
use Rattle.sqlite_rules.specs.Lists.{Has}
use Rattle.sqlite_rules.proofs.ListLemmas.{has_filtered}
use Rattle.sql_tables.specs.Keyed.{key_of, IsStored}
use Rattle.sql_tables.specs.Schema.{our_schema, key_index}
use Rattle.sql_tables.specs.Selects.{Selects}
use Rattle.sql_tables.proofs.Keys.{keys_back}
use Rattle.sql_tables.proofs.Selections.{full_key, one_row}
use Rattle.sql_tables.proofs.Steps.{permuted}
use Rattle.sql_tables.proofs.Stored.{stored_filter}

-- a list of one row that has this one
one_had : {X : Type 0} (x : X) (ys : List X) → length ys ≡ 1 → Has ys x → ys ≡ x ∷ []
one_had x [] long h = absurd h
one_had x (y ∷ ys) long (inl same) = ap₂ ◌∷◌ (sym same) (nil_from_length ys (omega (arith, long)))
one_had x (y ∷ ys) long (inr h) = absurd (none ys (nil_from_length ys (omega (arith, long))) h)
  where
    none : (zs : List _) → zs ≡ [] → Has zs x → ⊥
    none [] e h = h
    none (z ∷ zs) e h = cc

pub only_one : {X : Type 0} (x : X) (ys : List X) → IsPermutation (x ∷ []) ys → ys ≡ x ∷ []
only_one x ys p =
    one_had x ys (length_permutation (x ∷ []) ys p) (permuted (x ∷ []) ys x p (inl refl))

module _ (table : Table) (tabled : Has our_schema.tables table)
    (listed : Has our_schema.indexes (key_index table)) (guarding : guards (key_index table) table
    ≡ true) (trees : Trees) (fits : Fits our_schema trees)
    (stored : IsStored (trees table.tree)) (columns : Row → Row) (test : Row → Bool) (key : Row)
    (full : AllByRecursion (λ v. is_null v ≡ false) key)
    (means : (r : Row) → test r ≡ eq_by_cmp row_cmp (key_of table.primary r) key) (out : List Row)
    (selects : Selects test columns (trees table.tree) out) where
  met : (r : Row) → test r ≡ true → eq_by_cmp row_cmp key (key_of table.primary r) ≡ true
  met r e = keys_back (key_of table.primary r) key (sym (means r) ∙ e)

  -- none, or one that is stored and has the key
  pub one_selected : (out ≡ [])
      ⊎ ((r : Row) × Has (trees table.tree) r × (test r ≡ true) × (out ≡ columns r ∷ []))
  one_selected = go (filter test (trees table.tree)) refl
    where
      go : (kept : List Row) → filter test (trees table.tree) ≡ kept
          → (out ≡ [])
          ⊎ ((r : Row) × Has (trees table.tree) r × (test r ≡ true) × (out ≡ columns r ∷ []))
      go [] is = inl (nil_from_length out (length_permutation (map columns []) out
          (subst (λ rs. IsPermutation (map columns rs) out) is selects.same)))
      go (r ∷ []) is =
          let has =
          has_filtered test (trees table.tree) r (subst (λ rs. Has rs r) (sym is) (inl refl)) in
          inr (
            r,
            has.0,
            has.1,
            only_one (columns r) out
                (subst (λ rs. IsPermutation (map columns rs) out) is selects.same),
          )
      go (r ∷ s ∷ rest) is =
          let first =
          has_filtered test (trees table.tree) r (subst (λ rs. Has rs r) (sym is) (inl refl)) in
          let second = has_filtered test (trees table.tree) s
          (subst (λ rs. Has rs s) (sym is) (inr (inl refl))) in
          let same : r ≡ s =
          one_row table.primary our_schema table tabled (key_index table) listed guarding refl
          refl trees fits stored key
          (λ x e. full_key table.primary key x full e) r s first.0 second.0
          (met r first.1) (met s second.1) in
          let apart = (subst IsStored is (stored_filter test (trees table.tree) stored)).0.0.0 in
          absurd (let no : true ≡ false =
          sym (ap is_eq (tied_itself value_cmp_total (rowid r)))
          ∙ ap (λ x. is_eq (value_cmp (rowid r) (rowid x))) same
          ∙ apart in cc)
