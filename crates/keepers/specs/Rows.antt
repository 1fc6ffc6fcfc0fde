-- The charges of an account as a list.
-- Source: profile.
use Rattle.std.specs.Prelude.{◌≡◌, ◌+◌, ◌&&◌, Bool, true, List, [], ◌∷◌, Option, nat_le, nat_lt}
use Rattle.units.specs.Words.{Moment}
use Rattle.ledger.specs.Words.{ChargeNumber}
use Rattle.ledger.specs.ChargeColumns.{ChargeColumns}
use Rattle.keepers.specs.Tables.{charge_in}

-- whether the moment is `from` or later and before `until`
-- rule: charge-source
abbrev pub is_between : Moment → Moment → ChargeColumns → Bool
is_between from until c = nat_le from c.moment && nat_lt c.moment until

-- whether the numbers rise, the first from `least` on
abbrev pub are_rising : ChargeNumber → List ChargeColumns → Bool
are_rising least [] = true
are_rising least (c ∷ rest) = nat_le least c.number && are_rising (c.number + 1) rest

-- the rows are an account's charges, in the order of their numbers
-- rule: charge-source: an account's charges, in the order of their numbers, are one list
pub record AreCharges (charges : ChargeNumber → Option ChargeColumns) (rows : List ChargeColumns)
    : Type 0 where
  pub rising : are_rising 0 rows ≡ true
  pub listed : (n : ChargeNumber) → charge_in n rows ≡ charges n
