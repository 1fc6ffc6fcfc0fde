-- Rows that are in their rules, each under its key: what a statement that puts or removes rows
-- keeps.
-- Source: profile.
use Rattle.std.specs.Prelude.{◌≡◌, ◌<◌, ℕ, ◌∷◌, Bool, Some, IsTrue, length}
use Rattle.shelves.specs.Shelves.{Shelf}
use Rattle.sqlite_value.specs.declared.value.Value.TheVariants.{Null}
use Rattle.sqlite_value.specs.Order.{Row}
use Rattle.sqlite_trees.specs.Tree.{Trees}
use Rattle.sqlite_schema.specs.declared.schema.Table.{Table}
use Rattle.sql_tables.specs.Keyed.{look}
use Rattle.sql_tables.specs.Schema.{our_schema}
use Rattle.sql_rules.specs.Beside.{AreRightBeside}
use Rattle.sql_rules.specs.GrantRows.{HaveBooks}
use Rattle.sql_rules.specs.Rules.{passes_at}
use Rattle.sql_rules.specs.Tables.{last_kept, table_at}

-- the columns under each key pass the test; no test sees a rowid
-- rule: rows-ruled.mapped: rows are in their rules exactly if what is under each key is; a put in
--   its rules, and a removal, keep that
abbrev pub IsMapped : (Row → Bool) → Table → Trees → Type 0
IsMapped rule table trees =
    (key cells : Row) → look table trees key ≡ Some cells → IsTrue (rule (Null ∷ cells))

-- in each table of the latest version; none is wrong beside a row of another table, and each
-- reservation has its book
-- rule: rows-ruled.mapped, rows-ruled.beside, rows-ruled.granted
pub record AreMapped (shelf : Shelf) (trees : Trees) : Type 0 where
  pub each : (at : ℕ) → at < length our_schema.tables
      → IsMapped (passes_at shelf (last_kept trees) at) (table_at at) trees
  pub beside : AreRightBeside trees
  pub granted : HaveBooks shelf trees
