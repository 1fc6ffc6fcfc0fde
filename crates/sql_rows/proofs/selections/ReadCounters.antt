-- The counters of a cycle, of the rows that a selection answers.
use Rattle.std.proofs.Common.{◌≡◌, inl, inr, ℕ, List, [], ◌∷◌, map, Bool, true, false}
use Rattle.std.proofs.Common.{◌&&◌, Some, None, Option, is_eq, refl, sym, ap, ap₂, subst, ◌∙◌}
use Rattle.std.proofs.Common.{nat_eq}
use Rattle.std.proofs.lemmas.Bool.{and_parts, cases_Bool}
use Rattle.std.specs.Cmp.{unsigned_Decides}
use Rattle.std.specs.List.{find}
use Rattle.sqlite_value.specs.declared.value.Value.TheVariants.{Text}
use Rattle.sqlite_value.specs.declared.keys.Collation.TheVariants.{Binary}
use Rattle.sqlite_value.specs.Order.{Row, column, value_cmp}
use Rattle.sqlite_schema.specs.Rules.{Fits, equal}
use Rattle.sqlite_rules.proofs.ListLemmas.{has_found}
use Rattle.sqlite_trees.specs.Tree.{Trees}
use Rattle.sql_tables.specs.Keyed.{IsStored}
use Rattle.sql_tables.specs.Schema.{counters, our_schema}
use Rattle.sql_tables.proofs.ByKey.{answered_told, only_all}
use Rattle.sql_tables.proofs.Columns.{equal_turned}
use Rattle.sql_tables.proofs.Keys.{keys_split, int_tie}
use Rattle.sql_tables.proofs.Selected.{AreAnswered}
use Rattle.sql_tables.proofs.Selections.{meets}
use Rattle.sql_tables.proofs.Steps.{and_true, mapped_to}
use Rattle.reserving.specs.declared.session.Counter.{Counter}
use Rattle.sql_rows.specs.Values.{nat, counter_key, counter_in_row, counter_cells}
use Rattle.sql_rows.specs.Content.{rows_in}
use Rattle.sql_rows.specs.Lists.{AreCountersIn}
use Rattle.sql_rows.proofs.selections.ReadCounter.{columns, back}

module _ (a : List ℕ) where
  abbrev pub front : Row → Bool
  front r = equal Binary (column r 1) (Text a)

  abbrev rest : ℕ → ℕ → Row → Bool
  rest g y r = is_eq (value_cmp (nat g) (column r 2)) && is_eq (value_cmp (nat y) (column r 3))

  splits : (g y : ℕ) (r : Row) →
      meets (1 ∷ 2 ∷ 3 ∷ []) (counter_key a g y) r ≡ (front r && rest g y r)
  splits g y r =
      keys_split (Text a) (column r 1) (nat g ∷ nat y ∷ []) (column r 2 ∷ column r 3 ∷ [])
      ∙ ap₂ ◌&&◌ (sym (equal_turned (column r 1) (Text a) refl))
      (keys_split (nat g) (column r 2) (nat y ∷ []) (column r 3 ∷ []) ∙ ap₂ ◌&&◌ refl
      (keys_split (nat y) (column r 3) [] [] ∙ and_true _))

  wanted : (g y : ℕ) (x : Counter) (r : Row) → counter_cells x ≡ columns r → rest g y r ≡
      (nat_eq x.group g && nat_eq x.cycle y)
  wanted g y x r is =
      ap₂ ◌&&◌ (ap (λ (w : Row). is_eq (value_cmp (nat g) (column w 0))) (sym is)
      ∙ int_tie x.group g)
      (ap (λ (w : Row). is_eq (value_cmp (nat y) (column w 1))) (sym is) ∙ int_tie x.cycle y)

module _ (a : List ℕ) (cycle : ℕ) where
  abbrev pub extra : Row → Bool
  extra r = equal Binary (column r 3) (nat cycle)

  -- a row under the key of a counter of the cycle passes the test
  lives : (g : ℕ) (r : Row) → meets (1 ∷ 2 ∷ 3 ∷ []) (counter_key a g cycle) r ≡ true →
      extra r ≡ true
  lives g r m =
      let parts = and_parts (front a r) (rest a g cycle r) (sym (splits a g cycle r) ∙ m) in
      let last = and_parts (is_eq (value_cmp (nat g) (column r 2)))
      (is_eq (value_cmp (nat cycle) (column r 3))) parts.1 in
      equal_turned (column r 3) (nat cycle) refl ∙ last.1

  -- each that was read is of the cycle
  of_cycle : (x : Counter) (r : Row) → extra r ≡ true → counter_cells x ≡ columns r →
      x.cycle ≡ cycle
  of_cycle x r e is = (unsigned_Decides x.cycle cycle).0 (sym (int_tie x.cycle cycle)
      ∙ ap (λ (w : Row). is_eq (value_cmp (nat cycle) (column w 1))) is
      ∙ sym (equal_turned (column r 3) (nat cycle) refl) ∙ e)

  abbrev AreSelected : List Row → List Counter → Type 0
  AreSelected stored xs =
      AreAnswered (λ r. front a r && extra r) columns stored (map counter_cells xs)

  none_other : (stored : List Row) (xs : List Counter) → AreSelected stored xs → (g c : ℕ)
      → nat_eq c cycle ≡ false → find (λ x. nat_eq x.group g && nat_eq x.cycle c) xs ≡ None
  none_other stored xs answered g c other =
      go (find (λ x. nat_eq x.group g && nat_eq x.cycle c) xs) refl
    where
      go : (o : Option Counter) → find (λ x. nat_eq x.group g && nat_eq x.cycle c) xs ≡ o
          → find (λ x. nat_eq x.group g && nat_eq x.cycle c) xs ≡ None
      go None e = e
      go (Some x) e =
          let h = has_found (λ x. nat_eq x.group g && nat_eq x.cycle c) xs x e in
          let it = answered.from (counter_cells x) (mapped_to counter_cells xs x h.0) in
          let both = and_parts (front a it.0) (extra it.0) it.2 in
          let named = and_parts (nat_eq x.group g) (nat_eq x.cycle c) h.1 in
          let same : c ≡ cycle = sym ((unsigned_Decides x.cycle c).0 named.1)
          ∙ of_cycle x it.0 both.1 it.3 in
          absurd (let no : true ≡ false = sym ((unsigned_Decides c cycle).1 same) ∙ other in cc)

  -- a list of those rows
  pub counters_answered : (trees : Trees) → Fits our_schema trees → IsStored (trees 6)
      → (xs : List Counter) → AreSelected (trees 6) xs → AreCountersIn cycle (rows_in trees a) xs
  counters_answered trees fits stored xs answered g c = elim (cases_Bool (nat_eq c cycle)) [
    | inl here ↦ rw here (subst (λ y. find (λ x. nat_eq x.group g && nat_eq x.cycle y) xs
        ≡ (rows_in trees a).counters g y) (sym ((unsigned_Decides c cycle).0 here)) at)
    | inr other ↦ rw other (none_other (trees 6) xs answered g c other)
  ]
    where
      at : find (λ x. nat_eq x.group g && nat_eq x.cycle cycle) xs
          ≡ (rows_in trees a).counters g cycle
      at =
          answered_told counters (inr (inr (inr (inl refl))))
          (inr (inr (inr (inl refl)))) refl trees fits stored counter_in_row counter_cells columns
          (λ r. front a r && extra r) (counter_key a g cycle) (refl, (refl, (refl, tt)))
          (λ x r m. back x r) (λ x. nat_eq x.group g && nat_eq x.cycle cycle) (λ x. true) (front a)
          (rest a g cycle) extra (λ r. refl) (splits a g cycle) (wanted a g cycle)
          (λ r m h. lives g r m) (λ x r e same. refl) xs answered
          ∙ only_all _
