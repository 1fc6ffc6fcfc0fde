use Rattle.vouchers.specs.Files.{records_in}
use Rattle.vouchers.proofs.ToldLemmas.{is_first_fault, first_fault_is}
use Rattle.vouchers.proofs.laws.voucher_fault_is_told.Goals as goal

pub returns : goal.returns
returns c = λ text fault.
    (is_first_fault (records_in text) fault, first_fault_is (records_in text) fault)
