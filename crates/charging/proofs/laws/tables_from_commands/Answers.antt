use Rattle.charging.proofs.runs.TablesAfter.{tables_are_a_function, runs_from_nothing}
use Rattle.charging.proofs.laws.tables_from_commands.Goals as goal

pub returns-clause-tables : goal.returns-clause-tables
returns-clause-tables c = tables_are_a_function

pub returns-clause-runs : goal.returns-clause-runs
returns-clause-runs c = runs_from_nothing
