use Rattle.calendar.proofs.FirstChange.{switch_is_first}
use Rattle.calendar.proofs.laws.switch_is_the_first_change.Goals as goal

pub returns : goal.returns
returns c = switch_is_first
