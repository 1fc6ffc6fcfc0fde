use Rattle.charging.proofs.grants.PricedRows.{reservations_are_priced, no_book_is_missing}
use Rattle.charging.proofs.laws.reservations_are_priced.Goals as goal

pub returns-clause-rows : goal.returns-clause-rows
returns-clause-rows c = reservations_are_priced

pub returns-clause-lists : goal.returns-clause-lists
returns-clause-lists c = no_book_is_missing
