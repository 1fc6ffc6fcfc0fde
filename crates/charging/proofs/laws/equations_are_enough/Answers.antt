use Rattle.charging.proofs.lists.InRange.{equations_are_enough}
use Rattle.charging.proofs.runs.FromEquations.{lists_are_enough, runs_by_equations}
use Rattle.charging.proofs.laws.equations_are_enough.Goals as goal

pub returns-clause-tables : goal.returns-clause-tables
returns-clause-tables c = equations_are_enough

pub returns-clause-lists : goal.returns-clause-lists
returns-clause-lists c = lists_are_enough

pub returns-clause-runs : goal.returns-clause-runs
returns-clause-runs c = runs_by_equations
