use Rattle.charging.proofs.added_books.EarlyHistories.{addition_goes_on, nothing_changes}
use Rattle.charging.proofs.added_books.JoinedRuns.{one_run}
use Rattle.charging.proofs.additions.later_books.Goals as goal

pub returns-clause-additions : goal.returns-clause-additions
returns-clause-additions c = addition_goes_on

pub returns-clause-before : goal.returns-clause-before
returns-clause-before c = nothing_changes

pub returns-clause-runs : goal.returns-clause-runs
returns-clause-runs c = one_run
