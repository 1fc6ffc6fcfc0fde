-- What the charges of an account come to: each within its bounds, and their sums within what 128
-- bits hold.
-- Source: profile.
use Rattle.std.specs.Prelude.{◌*◌, ◌<◌, ◌≤◌, ◌^◌, Bool, List, filter, length, sum_by}
use Rattle.units.specs.Words.{most_counted, greatest_number, greatest_price}
use Rattle.identifiers.specs.Words.{AccountName}
use Rattle.shelves.specs.Shelves.{Shelf, IsShelf}
use Rattle.ledger.specs.declared.charge.ChargeRow.{ChargeRow}
use Rattle.ledger.specs.Charges.{charge_rows}
use Rattle.ledger.specs.Lists.{EachIn}
use Rattle.keepers.specs.Tables.{Tables}
use Rattle.charging.specs.Accepted.{Accepted}
use Rattle.charging.specs.Served.{AreTables, history}

-- no more blocks than a counter counts, none dearer than 10^9 micro-units; what is collected and
-- what isn't are parts of the price
-- rule: stored-limits.bounded: each charge is within its bounds, and so are sums of charges
pub record IsBounded (c : ChargeRow) : Type 0 where
  pub blocks : c.blocks.0 ≤ most_counted
  pub rated : c.rated.0 ≤ c.blocks.0 * greatest_price
  pub collected : c.collected.0 ≤ c.rated.0
  pub uncollected : c.uncollected.0 ≤ c.rated.0

-- rule: stored-limits.bounded
pub record FitTogether (charges : List ChargeRow) : Type 0 where
  pub blocks : sum_by (λ c. c.blocks.0) charges < 2 ^ 128
  pub rated : sum_by (λ c. c.rated.0) charges < 2 ^ 128
  pub collected : sum_by (λ c. c.collected.0) charges < 2 ^ 128
  pub uncollected : sum_by (λ c. c.uncollected.0) charges < 2 ^ 128

-- so of those of each month, or of any others among them
-- rule: stored-limits.bounded
pub record AreBounded (charges : List ChargeRow) : Type 0 where
  pub each : EachIn IsBounded charges
  pub few : length charges ≤ greatest_number
  pub sums : (p : ChargeRow → Bool) → FitTogether (filter p charges)

-- so are the charges of each account whose tables a keeper holds
abbrev pub ChargesAreBounded : Type 0
ChargesAreBounded =
    (shelf : Shelf) → IsShelf shelf → (list : List Accepted) (tables : Tables) →
    AreTables shelf list tables → (a : AccountName) →
    AreBounded (charge_rows (history shelf a list).ledger)
