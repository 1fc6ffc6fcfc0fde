-- A connection between two transactions.
use Rattle.std.specs.Prelude.{◌≡◌, false}
use Rattle.sqlite.specs.State.{State}
use Rattle.sql_tables.specs.Statements.{HasIdleTables}

-- no transaction is open, and the tables are there
pub record IsReady (s : State) : Type 0 where
  pub mode : s.in_transaction ≡ false
  pub idle : HasIdleTables s
