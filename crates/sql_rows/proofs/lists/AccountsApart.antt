-- No account is listed twice.
use Rattle.std.proofs.Common.{◌≡◌, inl, inr, ℕ, List, [], ◌∷◌, map, Bool, true, false, is_eq, refl}
use Rattle.std.proofs.Common.{sym, ap, subst, ◌∙◌, true≢false, Ordering, Less, Equal, Greater}
use Rattle.std.specs.Prelude.{filter}
use Rattle.std.specs.List.{AllByRecursion, IsDistinct}
use Rattle.std.specs.Ordering.{eq_by_cmp, ordering_reverse}
use Rattle.std.specs.List.Sorted.{IsPermutation}
use Rattle.std.proofs.lemmas.Map.Keys.{IsDistinct-IsPermutation}
use Rattle.std.specs.Cmp.{both_ways}
use Rattle.sqlite_value.specs.declared.value.Value.{Value}
use Rattle.sqlite_value.specs.Order.{Row, column, row_cmp, value_cmp}
use Rattle.sqlite_value.proofs.OrderLemmas.{row_cmp_total, value_cmp_total}
use Rattle.sqlite_trees.specs.Tree.{Trees, IsAscending, rowid}
use Rattle.sqlite_sql.specs.Ops.{is_null}
use Rattle.sqlite_schema.specs.Rules.{Fits}
use Rattle.sqlite_rules.specs.Lists.{Has}
use Rattle.sql_tables.specs.Keyed.{IsStored, same_name}
use Rattle.sql_tables.specs.Schema.{accounts, our_schema, key_index}
use Rattle.sql_tables.specs.Selects.{Selects}
use Rattle.sql_tables.proofs.Keys.{keys_back, text_last}
use Rattle.sql_tables.proofs.Selected.{selected_to}
use Rattle.sql_tables.proofs.Selections.{one_row, full_key}
use Rattle.sql_tables.proofs.Steps.{mapped_from}
use Rattle.ledger.specs.Lists.{EachIn}
use Rattle.reserving.specs.Rows.{AreApart}
use Rattle.sql_rows.specs.Values.{head_key}

abbrev pub columns : Row → Row
columns r = column r 1 ∷ []

self_turned : (o : Ordering) → o ≡ ordering_reverse o → o ≡ Equal
self_turned Less e = absurd (cc)
self_turned Equal e = refl
self_turned Greater e = absurd (cc)

value_itself : (v : Value) → is_eq (value_cmp v v) ≡ true
value_itself v = ap is_eq (self_turned (value_cmp v v) (value_cmp_total.antisymm v v))

row_itself : (v : Row) → eq_by_cmp row_cmp v v ≡ true
row_itself v = ap is_eq (self_turned (row_cmp v v) (row_cmp_total.antisymm v v))

flips : (x y : Row) → eq_by_cmp row_cmp x y ≡ eq_by_cmp row_cmp y x
flips x y = both_ways _ _ (keys_back x y) (keys_back y x)

module _ (trees : Trees) (fits : Fits our_schema trees) (stored : IsStored (trees 2))
    (keyed : (r : Row) → Has (trees 2) r → (a : List ℕ) × (head_key a ≡ columns r)) where
  differ : (r s : Row) → Has (trees 2) r → Has (trees 2) s
      → is_eq (value_cmp (rowid r) (rowid s)) ≡ false
      → eq_by_cmp row_cmp (columns r) (columns s) ≡ false
  differ r s h k apart = go (eq_by_cmp row_cmp (columns r) (columns s)) refl
    where
      go : (b : Bool) → eq_by_cmp row_cmp (columns r) (columns s) ≡ b →
          eq_by_cmp row_cmp (columns r) (columns s) ≡ false
      go false e = e
      go true e =
          let it = keyed r h in
          let same : r ≡ s =
          one_row (1 ∷ []) our_schema accounts (inr (inl refl)) (key_index accounts)
          (inr (inl refl)) refl refl refl trees fits stored (columns r)
          (λ x m. full_key (1 ∷ []) (columns r) x
          (subst (λ (w : Row). AllByRecursion (λ v. is_null v ≡ false) w) it.1 (refl, tt)) m)
          r s h k (row_itself (columns r)) e in
          absurd (true≢false (sym (value_itself (rowid r))
          ∙ ap (λ (x : Row). is_eq (value_cmp (rowid r) (rowid x))) same
          ∙ apart))

  after : (r : Row) (xs : List Row) → Has (trees 2) r → ((x : Row) → Has xs x → Has (trees 2) x)
      → AllByRecursion (λ x. is_eq (value_cmp (rowid r) (rowid x)) ≡ false) xs
      → AllByRecursion (λ y. eq_by_cmp row_cmp (columns r) y ≡ false) (map columns xs)
  after r [] h within all = tt
  after r (x ∷ xs) h within all =
      (differ r x h (within x (inl refl)) all.0, after r xs h (λ y m. within y (inr m)) all.1)

  distinct : (xs : List Row) → ((x : Row) → Has xs x → Has (trees 2) x)
      → IsAscending (λ a b. is_eq (value_cmp (rowid a) (rowid b)) ≡ false) xs
      → IsDistinct (eq_by_cmp row_cmp) (map columns xs)
  unfolding IsDistinct
  distinct [] within all = tt
  distinct (x ∷ xs) within all = (
    after x xs (within x (inl refl)) (λ y m. within y (inr m)) all.0,
    distinct xs (λ y m. within y (inr m)) all.1,
  )

each_apart : (a : List ℕ) (xs : List (List ℕ))
    → AllByRecursion (λ y. eq_by_cmp row_cmp (head_key a) y ≡ false) (map head_key xs)
    → EachIn (λ y. same_name y a ≡ false) xs
each_apart a [] h = tt
each_apart a (x ∷ xs) h = (sym (text_last x a) ∙ h.0, each_apart a xs h.1)

told_apart : (xs : List (List ℕ)) → IsDistinct (eq_by_cmp row_cmp) (map head_key xs) →
    AreApart (λ x y. same_name y x) xs
unfolding IsDistinct
told_apart [] h = tt
told_apart (x ∷ xs) h = (each_apart x xs h.0, told_apart xs h.1)

pub all_kept : (rows : List Row) → filter (λ r. true) rows ≡ rows
all_kept [] = refl
all_kept (r ∷ rows) = ap (λ rs. r ∷ rs) (all_kept rows)

pub accounts_apart : (trees : Trees) → Fits our_schema trees → IsStored (trees 2)
    → (xs : List (List ℕ)) → Selects (λ r. true) columns (trees 2) (map head_key xs)
    → AreApart (λ x y. same_name y x) xs
accounts_apart trees fits stored xs selects =
    told_apart xs
    (IsDistinct-IsPermutation (eq_by_cmp row_cmp) flips (map columns (trees 2)) (map head_key xs)
    (subst (λ rows. IsPermutation (map columns rows) (map head_key xs))
    (all_kept (trees 2)) selects.same)
    (distinct trees fits stored keyed (trees 2) (λ x h. h) stored.0))
  where
    keyed : (r : Row) → Has (trees 2) r → (a : List ℕ) × (head_key a ≡ columns r)
    keyed r h =
        let it = mapped_from head_key xs (columns r)
        (selected_to (λ r. true) columns (trees 2) (map head_key xs) selects r h refl) in
        (it.0, sym it.2)
