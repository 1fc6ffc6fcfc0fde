use Rattle.std.proofs.Common.{◌≡◌, drop}
use Rattle.std.specs.List.{list_any}
use Rattle.sqlite_schema.specs.declared.schema.Table.{Table}
use Rattle.sql_tables.specs.Ours.{is_ours}
use Rattle.sql_tables.proofs.schemas.has_ours.Given as goal

abbrev pub invariant-tables : goal.invariant-tables
invariant-tables l = list_any (λ (t : Table). is_ours t.name) l.schema.tables
    ≡ list_any (λ (t : Table). is_ours t.name) (drop l.table-index l.schema.tables)
