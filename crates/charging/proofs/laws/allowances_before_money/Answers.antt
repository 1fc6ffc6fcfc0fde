use Rattle.charging.proofs.charges.Coverable.{report_covers_first, event_covers_first}
use Rattle.charging.proofs.laws.allowances_before_money.Goals as goal

pub returns-clause-reports : goal.returns-clause-reports
returns-clause-reports c = report_covers_first

pub returns-clause-events : goal.returns-clause-events
returns-clause-events c = event_covers_first
