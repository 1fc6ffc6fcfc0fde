-- What the numbers of definitions about an account's rows are.
use Rattle.std.specs.Prelude.{ℕ}

-- a charge of an account, in the order of the uses, from 1 on
abbrev pub ChargeNumber : Type 0
ChargeNumber = ℕ
