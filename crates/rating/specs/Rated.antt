-- Rated amounts (TS 32.296, rating), block by block.
use Rattle.std.specs.Prelude.{◌≡◌, zero, suc, ◌+◌, ◌-◌, ◌<◌, min, List, [], ◌∷◌, ◌++◌, sum_by}
use Rattle.std.specs.Prelude.{length, drop}
use Rattle.units.specs.Words.{Micros, UnitCount, BlockCount, Place}
use Rattle.units.specs.Blocks.{started}
use Rattle.tariffs.specs.Prices.{block_price}
use Rattle.tariffs.specs.declared.tiers.Tier.{Tier}
use Rattle.tariffs.specs.declared.group_prices.Side.{Side}
use Rattle.tariffs.specs.GroupPrices.{GroupPrices, tiers_on}
use Rattle.rating.specs.declared.report.Part.{Part}
use Rattle.rating.specs.declared.report.Rated.{Rated}

-- the rated amount of n blocks: the sum of their prices, at the places after one on the counter
-- rule: rated-amount: the rated amount
unfoldable pub rated_amount : List Tier → Place → BlockCount → Micros
rated_amount tiers place zero = 0
rated_amount tiers place (suc n) = rated_amount tiers place n + block_price tiers (place + suc n)

-- the same of n blocks the first of which are covered: these cost nothing, and each other block
-- keeps its place
-- rule: covered: the covered blocks of a report come first, cost nothing and keep their places
abbrev pub uncovered_amount : List Tier → Place → BlockCount → BlockCount → Micros
uncovered_amount tiers place covered n = rated_amount tiers (place + covered) (n - covered)

-- the blocks that the parts of a report start, each after the use that the one before left
unfoldable pub report_blocks : UnitCount → UnitCount → List Part → BlockCount
report_blocks block used [] = 0
report_blocks block used (part ∷ parts) =
    started used part.units.0 block + report_blocks block (used + part.units.0) parts

-- their rated amount: each part on its side, after the use, at the place, and with what is left of
-- the covered blocks, as the one before left them
unfoldable pub report_amount : GroupPrices → UnitCount → Place → BlockCount → List Part → Micros
report_amount p used place covered [] = 0
report_amount p used place covered (part ∷ parts) =
    uncovered_amount (tiers_on p part.side) place covered
    (started used part.units.0 p.tariff.block)
    + report_amount p (used + part.units.0) (place + started used part.units.0 p.tariff.block)
    (covered - started used part.units.0 p.tariff.block) parts

-- a report's price: its rated amount, its blocks, and how many of them are covered
-- rule: rated-amount, covered
abbrev pub rated_report : GroupPrices → UnitCount → Place → BlockCount → List Part → Rated
rated_report p used place covered parts = record {
  amount = record { 0 = report_amount p used place covered parts };
  blocks = report_blocks p.tariff.block used parts;
  covered = record { 0 = min (report_blocks p.tariff.block used parts) covered };
}

-- a part of some units on a side
abbrev pub part_of : Side → UnitCount → Part
part_of side units = record { side = side; units = record { 0 = units } }

-- the law of cutting: units used in two parts on one side, with nothing between, start and cost
-- what they do as one
-- rule: cutting.cuts-alike: a report in two parts costs the same
abbrev pub CutsAlike : Type 0
CutsAlike =
    (p : GroupPrices) (used : UnitCount) (place : Place) (covered : BlockCount)
    (before after : List Part) (side : Side)
    (one two : UnitCount) →
    0 < p.tariff.block
    → rated_report p used place covered (before ++ part_of side one ∷ part_of side two ∷ after)
    ≡ rated_report p used place covered (before ++ part_of side (one + two) ∷ after)

-- the units of a report
abbrev pub units_of : List Part → UnitCount
units_of parts = sum_by (λ part. part.units.0) parts

-- two reports after each other start and cost what their parts do as one report; the second has
-- what the first leaves of the covered blocks
pub record FollowsAt (p : GroupPrices) (used : UnitCount) (place : Place) (covered : BlockCount)
    (parts more : List Part) : Type 0 where
  pub blocks : report_blocks p.tariff.block used (parts ++ more)
      ≡ report_blocks p.tariff.block used parts
      + report_blocks p.tariff.block (used + units_of parts) more
  pub amount : report_amount p used place covered (parts ++ more)
      ≡ report_amount p used place covered parts
      + report_amount p (used + units_of parts)
      (place + report_blocks p.tariff.block used parts)
      (covered - report_blocks p.tariff.block used parts) more

-- rule: cutting.cuts-alike
abbrev pub FollowsOn : Type 0
FollowsOn = (p : GroupPrices) (used : UnitCount) (place : Place) (covered : BlockCount)
    (parts more : List Part) →
    FollowsAt p used place covered parts more

-- no more blocks are covered than are started
abbrev pub CoversNoMore : Type 0
CoversNoMore = (p : GroupPrices) (used : UnitCount) (place : Place) (covered : BlockCount)
    (parts : List Part) →
    report_amount p used place covered parts
    ≡ report_amount p used place (min (report_blocks p.tariff.block used parts) covered) parts

-- the prices of n blocks, each at its own place after one on the counter
unfoldable pub block_prices : List Tier → Place → BlockCount → List Micros
block_prices tiers place zero = []
block_prices tiers place (suc n) = block_price tiers (place + 1) ∷ block_prices tiers (place + 1) n

-- the prices of the blocks that a report starts, each on its part's side and at its own place
-- rule: covered.covers-the-first
unfoldable pub report_prices : GroupPrices → UnitCount → Place → List Part → List Micros
report_prices p used place [] = []
report_prices p used place (part ∷ parts) =
    block_prices (tiers_on p part.side) place (started used part.units.0 p.tariff.block)
    ++ report_prices p (used + part.units.0) (place + started used part.units.0 p.tariff.block)
    parts

-- each started block has its price at its own place, and the rated amount is the sum of these
-- prices without the first ones, which are covered
-- rule: covered.covers-the-first
pub record CoversAt (p : GroupPrices) (used : UnitCount) (place : Place) (covered : BlockCount)
    (parts : List Part) : Type 0 where
  pub blocks : report_blocks p.tariff.block used parts
      ≡ length (report_prices p used place parts)
  pub amount : report_amount p used place covered parts
      ≡ sum_by (λ price. price) (drop covered (report_prices p used place parts))

-- rule: covered.covers-the-first: what is covered costs nothing, and each block has the price at
--   its own place
abbrev pub CoversTheFirst : Type 0
CoversTheFirst = (p : GroupPrices) (used : UnitCount) (place : Place) (covered : BlockCount)
    (parts : List Part) →
    CoversAt p used place covered parts
