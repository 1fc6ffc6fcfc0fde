use Rattle.vouchers.specs.Files.{records_in}
use Rattle.vouchers.proofs.ToldLemmas.{are_vouchers, vouchers_are}
use Rattle.vouchers.proofs.laws.vouchers_are_records.Goals as goal

pub returns : goal.returns
returns c = λ text rows. (are_vouchers (records_in text) rows, vouchers_are (records_in text) rows)
