-- The charges of rows that aren't in the order of their numbers: of each number the first.
-- Source: profile.
use Rattle.std.specs.Prelude.{◌&&◌, List, [], ◌∷◌, Option, Some, None, nat_le, nat_lt}
use Rattle.std.specs.Prelude.{if◌then◌else◌}
use Rattle.ledger.specs.Words.{ChargeNumber}
use Rattle.ledger.specs.ChargeColumns.{ChargeColumns}

-- a number from `least` on, where none was found before it that isn't greater
abbrev pub nearer : ChargeNumber → ChargeNumber → Option ChargeNumber → Option ChargeNumber
nearer least n None = if nat_le least n then Some n else None
nearer least n (Some m) = if nat_le least n && nat_lt n m then Some n else Some m

-- the least number of the rows from `least` on, where this one was found before them
-- rule: charge-source.next-number: charges in another order are shown number by number
abbrev pub next_number : ChargeNumber → Option ChargeNumber → List ChargeColumns →
    Option ChargeNumber
next_number least found [] = found
next_number least found (c ∷ rest) = next_number least (nearer least c.number found) rest

-- what is found, as a list
abbrev pub one_or_none : Option ChargeColumns → List ChargeColumns
one_or_none None = []
one_or_none (Some c) = c ∷ []
