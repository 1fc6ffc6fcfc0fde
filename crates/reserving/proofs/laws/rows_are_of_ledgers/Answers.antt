use Rattle.reserving.proofs.ByLedger.{whole_account, settles_by_ledger, debits_by_ledger}
use Rattle.reserving.proofs.ByLedger.{reserves_by_ledger}
use Rattle.reserving.proofs.laws.rows_are_of_ledgers.Goals as goal

pub returns-clause-whole : goal.returns-clause-whole
returns-clause-whole c = whole_account

pub returns-clause-settlements : goal.returns-clause-settlements
returns-clause-settlements c = settles_by_ledger

pub returns-clause-debits : goal.returns-clause-debits
returns-clause-debits c = debits_by_ledger

pub returns-clause-reservations : goal.returns-clause-reservations
returns-clause-reservations c = reserves_by_ledger
