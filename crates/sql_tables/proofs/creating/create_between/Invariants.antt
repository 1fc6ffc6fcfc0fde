use Rattle.std.proofs.Common.{◌≡◌, ◌<◌, ℕ, Ok}
use Rattle.sqlite.specs.declared.error.Error.{Error}
use Rattle.sqlite.specs.Held.{state}
use Rattle.sql_tables.specs.Stages.{Adds}
use Rattle.sql_tables.specs.Statements.{Attempts}
use Rattle.sql_tables.proofs.creating.create_between.Given as goal

abbrev pub invariant-loop-place : goal.invariant-loop-place
invariant-loop-place g l = record {
  low : l.fn.from < l.place;
  same : l.tx.conn.ghost_name ≡ l.fn.tx.conn.ghost_name;
  makes : Attempts {A = ℕ} {E = Error} (Adds l.fn.from l.place) (state g.S.Store l.fn.tx.conn.now)
      (state g.S.Store l.tx.conn.now) (Ok 0);
}
