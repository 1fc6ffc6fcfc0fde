use Rattle.charging.proofs.runs.AcceptedTables.{tables_none}
use Rattle.charging.specs.Outcomes.{book_days, outcome}
use Rattle.charging.proofs.laws.beginning.Goals as goal

pub returns-clause-tables : goal.returns-clause-tables
returns-clause-tables c = λ b. tables_none (book_days b) (outcome b) b
