-- What rows in their rules are, as it is read aloud at `laws`.
-- Source: profile.
use Rattle.std.specs.Prelude.{◌≡◌, ◌∷◌, Bool, IsTrue, is_some}
use Rattle.sqlite_value.specs.Order.{Row}
use Rattle.sqlite_value.specs.declared.value.Value.TheVariants.{Null}
use Rattle.sqlite_schema.specs.Rules.{Fits, Keeps}
use Rattle.sqlite_schema.specs.declared.schema.Constraint.TheVariants.{ForeignKey}
use Rattle.sqlite_schema.specs.declared.schema.Table.{Table}
use Rattle.sqlite_trees.specs.Tree.{Trees}
use Rattle.shelves.specs.Shelves.{Shelf}
use Rattle.sql_tables.specs.Schema.{our_schema, latest}
use Rattle.sql_tables.specs.Statements.{AreStored, Changes, Ends}
use Rattle.sql_rows.specs.Content.{tables_content}
use Rattle.sql_rows.specs.Plain.{ArePlain}
use Rattle.sql_rules.specs.Mapped.{AreMapped, IsMapped}
use Rattle.sql_rules.specs.Ruled.{IsInRules, IsInRulesBy}
use Rattle.sql_rules.specs.Tables.{AreRuled, last_kept}

-- where each row is in its rules, so is what the tables hold
abbrev pub RuledRowsAreTold : Type 0
RuledRowsAreTold = (shelf : Shelf) (trees : Trees) → Fits our_schema trees
    → AreRuled shelf latest trees
    → IsInRulesBy shelf (last_kept trees) (tables_content trees)

-- and so it is beside each other, where a row that another one names is there
abbrev pub RuledRowsAreToldBeside : Type 0
RuledRowsAreToldBeside = (shelf : Shelf) (trees : Trees) → Fits our_schema trees
    → Keeps ForeignKey our_schema trees → AreRuled shelf latest trees
    → IsInRules shelf (tables_content trees)

-- where what they hold is, so are the rows, if they are as the statements write them
abbrev pub ContentIsOfRuledRows : Type 0
ContentIsOfRuledRows = (shelf : Shelf) (trees : Trees) → Fits our_schema trees → AreStored trees
    → ArePlain trees → IsTrue (is_some (tables_content trees).meta)
    → IsInRules shelf (tables_content trees) → AreRuled shelf latest trees

-- where each row is in its rules, so is what is under each key
abbrev pub RuledRowsAreMapped : Type 0
RuledRowsAreMapped = (shelf : Shelf) (trees : Trees) → Fits our_schema trees
    → AreRuled shelf latest trees → AreMapped shelf trees

-- and back, as long as no rowid comes twice
abbrev pub MappedRowsAreRuled : Type 0
MappedRowsAreRuled = (shelf : Shelf) (trees : Trees) → Fits our_schema trees → AreStored trees
    → AreMapped shelf trees → AreRuled shelf latest trees

-- a row that is put in its rules leaves its table in its rules
abbrev pub PutsKeepRules : Type 0
PutsKeepRules = (rule : Row → Bool) (table : Table) (values : Row) (old new : Trees)
    → Changes table values old new → IsTrue (rule (Null ∷ values))
    → IsMapped rule table old → IsMapped rule table new

-- so do rows that are removed
abbrev pub RemovalsKeepRules : Type 0
RemovalsKeepRules = (rule : Row → Bool) (table : Table) (wanted : Row) (old new : Trees)
    → Ends table wanted old new → IsMapped rule table old → IsMapped rule table new

-- so does what leaves the table as it was
abbrev pub OthersKeepRules : Type 0
OthersKeepRules = (rule : Row → Bool) (table : Table) (old new : Trees)
    → new table.tree ≡ old table.tree → IsMapped rule table old → IsMapped rule table new
