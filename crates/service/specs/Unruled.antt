-- What is left of files that the engine read, and refused for their rows.
-- Source: profile.
use Rattle.std.specs.Prelude.{◌≡◌, ◌⊎◌, IsTrue}
use Rattle.sqlite_disk.specs.declared.Disk as disk
use Rattle.sqlite_schema.specs.declared.schema.Schema.{Schema}
use Rattle.sqlite_trees.specs.Objects.{catalog_tree}
use Rattle.sqlite_trees.specs.View.{IsClean}
use Rattle.sqlite_store.specs.FileStore.{view}
use Rattle.sqlite_catalog.specs.Listing.{Lists}
use Rattle.sqlite.specs.declared.file.Leftover.{Leftover}
use Rattle.sqlite.specs.declared.file.Leftover.TheVariants as left
use Rattle.sqlite.specs.declared.error.Error.{Error}
use Rattle.sqlite.specs.declared.error.Error.TheVariants.{SqliteFailure}
use Rattle.sqlite.specs.declared.error.ErrorCode.TheVariants.{NotADatabase, OutOfMemory}
use Rattle.sql_tables.specs.Ours.{has_ours}
use Rattle.service.specs.declared.database_files.ConnectFault.{ConnectFault}
use Rattle.service.specs.declared.database_files.ConnectFault.TheVariants.{Refused, Unruled}

-- they list a schema with a table of ours
-- rule: rows-ruled.of-schema: files whose rows don't obey the schema that they list
abbrev pub ListsOurs : {D : Type 0} {g : disk.Ghosts D} → Leftover D g → Type 0
ListsOurs (left.Store it) = IsClean (view it) →
    (schema : Schema) × Lists ((view it).trees catalog_tree) schema × IsTrue (has_ours schema)
ListsOurs _ = ⊥

-- the engine's error is told, unless memory was refused, or rows are why it isn't a database
abbrev pub IsRefusedBy : Error → ConnectFault → Type 0
IsRefusedBy error (Refused told) = (told ≡ error) ⊎ (told ≡ SqliteFailure OutOfMemory)
IsRefusedBy error Unruled = error ≡ SqliteFailure NotADatabase
