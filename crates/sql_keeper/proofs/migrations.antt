-- A database of an older version, brought to the latest.
pub mod Brought
pub mod Granted
pub mod Migrated
pub mod MigratedRules
pub mod Moved
pub mod MovedRuled
