-- The charges of an account, some of them at a time.
-- Source: profile.
use Rattle.std.specs.Prelude.{◌≡◌, ◌<◌, ◌≤◌, ◌&&◌, Bool, true, false, List, Option, None, nat_lt}
use Rattle.std.specs.Prelude.{nat_le}
use Rattle.std.specs.List.{filter}
use Rattle.ledger.specs.Words.{ChargeNumber}
use Rattle.ledger.specs.ChargeColumns.{ChargeColumns}
use Rattle.keepers.specs.Rows.{AreCharges}
use Rattle.keepers.specs.declared.pages.ChargePage.{ChargePage}

-- whether a charge lies beyond a number, and up to another
abbrev pub is_number_within : ChargeNumber → ChargeNumber → ChargeColumns → Bool
is_number_within after last c = nat_lt after c.number && nat_le c.number last

-- the page has an account's charges beyond a number, up to its last one
pub record IsPage (charges : ChargeNumber → Option ChargeColumns) (after : ChargeNumber)
    (page : ChargePage) : Type 0 where
  pub rows : (all : List ChargeColumns) → AreCharges charges all →
      page.rows.items ≡ filter (is_number_within after page.last) all
  -- it goes on from there, and where more may follow it goes further
  pub from_there : after ≤ page.last
  pub goes_on : page.is_last ≡ false → after < page.last
  -- where it is the last page, none is beyond it
  pub end : page.is_last ≡ true → (n : ChargeNumber) → page.last < n → charges n ≡ None
