-- A row that is found under a key is one of the table.
use Rattle.std.proofs.Common.{◌≡◌, ◌<◌, ℕ, nat_eq, arith, true, false, drop, Option, Some, None, refl, sym, ap, ◌∙◌, IsTrue, Bool}
use Rattle.std.specs.Prelude.{if◌then◌else◌, option_map}
use Rattle.std.proofs.lemmas.Bool.Decides.{nat_tests}
use Rattle.std.specs.FinMap.{get-from_entries}
use Rattle.std.specs.List.{AllByRecursion}
use Rattle.sqlite_value.specs.Order.{Row}
use Rattle.sqlite_value.proofs.OrderLemmas.{row_cmp_total}
use Rattle.sqlite_trees.specs.Tree.{Trees}
use Rattle.sqlite_schema.specs.declared.schema.Table.{Table}
use Rattle.sqlite_rules.specs.Lists.{Has}
use Rattle.sqlite_rules.proofs.ListLemmas.{all_has}
use Rattle.sql_rules.specs.Rules.{is_timely_at}
use Rattle.sql_tables.specs.Keyed.{entries_of, look}
use Rattle.sql_tables.proofs.Selections.{meets, met_some}

-- ---- a table whose rows are of no moment

if_not : (b x y : Bool) → b ≡ false → (if b then x else y) ≡ y
if_not true x y e = absurd (cc e)
if_not false x y e = refl

pub untimed : (last at : ℕ) (r : Row) → 9 < at → is_timely_at last at r ≡ true
untimed last at r high =
    if_not (nat_eq at 1) _ _ (grind (arith, nat_tests, high))
    ∙ if_not (nat_eq at 4) _ _ (grind (arith, nat_tests, high))
    ∙ if_not (nat_eq at 9) _ _ (grind (arith, nat_tests, high))

pub mapped : {X : Type 0} (of : Row → X) (o : Option Row) (x : X) → option_map of o ≡ Some x
    → (v : Row) × (o ≡ Some v) × (of v ≡ x)
mapped of None x e = absurd (cc e)
mapped of (Some v) x e = (v, refl, cc e)

-- with what the test says of each row
pub found_in : {X : Type 0} (table : Table) (trees : Trees) (rule : Row → Bool)
    → AllByRecursion (λ r. IsTrue (rule r)) (trees table.tree) → (of : Row → X) (key : Row) (x : X)
    → option_map of (look table trees key) ≡ Some x
    → (r : Row) × (meets table.primary key r ≡ true) × (rule r ≡ true) × (of (drop 1 r) ≡ x)
    × Has (trees table.tree) r
found_in table trees rule all of key x e =
    let it = mapped of (look table trees key) x e in
    let back = met_some table.primary key it.0 (trees table.tree)
    (sym (get-from_entries row_cmp_total (entries_of table.primary (trees table.tree)) key)
    ∙ it.1) in (
      back.0,
      back.2,
      all_has (λ r. IsTrue (rule r)) (trees table.tree) back.0 all back.1,
      ap of (sym back.3) ∙ it.2,
      back.1,
    )
