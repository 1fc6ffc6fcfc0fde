-- Whether a database has tables of ours.
-- Source: profile.
use Rattle.std.specs.Prelude.{ℕ, Bool, List}
use Rattle.std.specs.List.{list_any}
use Rattle.sqlite_schema.specs.Names.{same_name}
use Rattle.sqlite_schema.specs.declared.schema.Table.{Table}
use Rattle.sqlite_schema.specs.declared.schema.Schema.{Schema}
use Rattle.sql_tables.specs.Schema.{our_schema}

-- whether a name is that of one of the tables, but for the case of its letters
-- rule: tables
abbrev pub is_ours : List ℕ → Bool
is_ours name = list_any (λ (t : Table). same_name t.name name) our_schema.tables

-- rule: tables
abbrev pub has_ours : Schema → Bool
has_ours s = list_any (λ (t : Table). is_ours t.name) s.tables
