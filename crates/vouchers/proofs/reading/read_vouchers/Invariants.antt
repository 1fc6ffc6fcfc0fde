use Rattle.std.proofs.Common.{◌≡◌, ◌+◌, All, length}
use Rattle.csv.specs.Reading.{Ready, default_config, reader_config, reader_trim}
use Rattle.csv.specs.declared.reader.Trim.TheVariants as trim
use Rattle.vouchers.specs.Rows.{IsVoucher}
use Rattle.vouchers.proofs.FileLemmas.{Knows}
use Rattle.vouchers.proofs.reading.read_vouchers.Given as goal

abbrev pub invariant-loop-number : goal.invariant-loop-number
invariant-loop-number g l = (reader_trim l.records ≡ trim.None) × Ready l.records
    × (reader_config l.records ≡ default_config) × All IsVoucher l.rows.items
    × Knows g.R.Read.remaining (g.R.Read.remaining l.fn.reader) l.records l.rows.items l.number
    × (length l.rows.items + 2 ≡ l.number)
