use Rattle.charging.proofs.dead.PartedRows.{rows_are_parted, new_sessions_are_not_left}
use Rattle.charging.proofs.laws.loaded_or_left.Goals as goal

pub returns-clause-rows : goal.returns-clause-rows
returns-clause-rows c = rows_are_parted

pub returns-clause-sessions : goal.returns-clause-sessions
returns-clause-sessions c = new_sessions_are_not_left
