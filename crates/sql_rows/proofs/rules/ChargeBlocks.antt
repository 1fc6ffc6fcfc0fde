-- Covered blocks are beside a charge.
use Rattle.std.specs.Prelude.{codes, is_some}
use Rattle.std.proofs.Common.{◌≡◌, inl, inr, ℕ, List, [], ◌∷◌, true, Some, None, Option}
use Rattle.std.proofs.Common.{refl, sym, ap, ◌∙◌, option_map}
use Rattle.sqlite_value.specs.Keys.{plain, joined}
use Rattle.sqlite_value.specs.Order.{Row}
use Rattle.sqlite_trees.specs.Tree.{Trees}
use Rattle.sqlite_schema.specs.Names.{same_name}
use Rattle.sqlite_schema.specs.Rules.{Keeps, parent_key}
use Rattle.sqlite_schema.specs.declared.schema.Constraint.TheVariants.{ForeignKey}
use Rattle.sqlite_schema.specs.declared.schema.Reference.{Reference}
use Rattle.reserving.proofs.Lists.{not_both}
use Rattle.sql_tables.specs.Keyed.{look}
use Rattle.sql_tables.specs.Schema.{belongs, our_schema, charges, covered}
use Rattle.sql_tables.proofs.Found.{is_some_map}
use Rattle.sql_tables.proofs.Parents.{parent_there}
use Rattle.sql_tables.proofs.Selections.{full_key}
use Rattle.sql_rows.specs.Values.{charge_in_row, charge_key, covered_in_row}
use Rattle.sql_rows.specs.Content.{rows_in}
use Rattle.sql_rows.specs.Lists.{AreCoveredBeside}

abbrev to_charge : Reference
to_charge = belongs (1 ∷ 2 ∷ []) (codes "charges") (codes "account" ∷ codes "number" ∷ [])

points_to_charge : parent_key our_schema.tables to_charge ≡
    Some (charges.tree, charges.primary, plain)
unfolding joined same_name
points_to_charge = refl

module _ (trees : Trees) (keys : Keeps ForeignKey our_schema trees) (a : List ℕ) where
  charge_of_covered : (n : ℕ) (v : Row) → look covered trees (charge_key a n) ≡ Some v →
      is_some (look charges trees (charge_key a n)) ≡ true
  charge_of_covered n v found =
      parent_there our_schema covered
      (inr (inr (inr (inr (inr (inr (inr (inr (inr (inr (inr (inr (inr (inl refl))))))))))))))
      to_charge (inl refl) charges points_to_charge trees keys (charge_key a n) v (charge_key a n)
      found (λ r m. (full_key (1 ∷ 2 ∷ []) (charge_key a n) r (refl, (refl, tt)) m, m))

  pub covered_beside : AreCoveredBeside (rows_in trees a)
  covered_beside n none = at (look covered trees (charge_key a n)) refl
    where
      at : (o : Option Row) → look covered trees (charge_key a n) ≡ o →
          option_map covered_in_row o ≡ None
      at None e = refl
      at (Some v) e = absurd (not_both (sym (ap is_some none)
          ∙ is_some_map charge_in_row (look charges trees (charge_key a n))
          ∙ charge_of_covered n v e))
