use Rattle.ledger.proofs.Unended.{held_is_unended, reserved_is_unended}
use Rattle.ledger.proofs.laws.holds_without_end.Goals as goal

pub returns-clause-held : goal.returns-clause-held
returns-clause-held c = held_is_unended

pub returns-clause-reserved : goal.returns-clause-reserved
returns-clause-reserved c = reserved_is_unended
