-- What the numbers of definitions about written numbers are.
use Rattle.std.specs.Prelude.{ℕ}

-- a civil month, as the number YYYYMM
abbrev pub MonthNumber : Type 0
MonthNumber = ℕ
