use Rattle.charging.proofs.lists.FiniteRows.{rows_are_lists}
use Rattle.charging.proofs.lists.InRange.{left_are_lists, lists_in_range}
use Rattle.charging.proofs.laws.rows_are_lists.Goals as goal

pub returns-clause-lists : goal.returns-clause-lists
returns-clause-lists c = rows_are_lists

pub returns-clause-ranges : goal.returns-clause-ranges
returns-clause-ranges c = lists_in_range

pub returns-clause-left : goal.returns-clause-left
returns-clause-left c = left_are_lists
