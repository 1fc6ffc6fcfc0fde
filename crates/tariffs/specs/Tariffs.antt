-- The tariff of a rating group as contracts see it.
use Rattle.std.specs.Prelude.{◌≡◌, ◌≢◌, ◌≤◌, ◌/◌, List, [], AllPairs, slice_index_or}
use Rattle.std.specs.List.{AllByRecursion}
use Rattle.units.specs.Words.{UnitCount, GroupId, PeriodNumber, greatest_number}
use Rattle.units.specs.Words.{most_seconds, most_granted}
use Rattle.calendar.specs.declared.cycle.Cycle.{Cycle}
use Rattle.units.specs.declared.blocks.UnitKind.{UnitKind}
use Rattle.units.specs.declared.blocks.UnitKind.TheVariants.{Time}
use Rattle.tariffs.specs.declared.tiers.Tier.{Tier}
use Rattle.tariffs.specs.declared.final_action.FinalAction.{FinalAction}
use Rattle.tariffs.specs.Prices.{AreTiers}

-- a rating group: what it counts, in blocks of how many units, what is granted without a wish and
-- at most, the cycle of its counter, what follows the last units, and the tiers of each period, in
-- the order of the book's periods
pub record GroupTariff : Type 0 where
  pub group : GroupId
  pub unit : UnitKind
  pub block : UnitCount
  pub slice : UnitCount
  pub max_grant : UnitCount
  pub cycle : Cycle
  pub final_action : FinalAction
  pub prices : List (List Tier)

-- the ranges of a tariff (profile)
pub record IsTariff (t : GroupTariff) : Type 0 where
  pub group : t.group ≤ greatest_number
  pub some_block : 1 ≤ t.block
  pub block : t.block ≤ most_granted
  pub some_slice : 1 ≤ t.slice
  pub slice : t.slice ≤ t.max_grant
  pub max_grant : t.max_grant ≤ most_granted
  pub seconds : t.unit ≡ Time → t.max_grant ≤ most_seconds
  pub few_blocks : t.max_grant / t.block ≤ 999_999_999
  pub tiers : AllByRecursion AreTiers t.prices

-- the tiers of a period; none for a period that the tariff doesn't have
abbrev pub tiers_at : GroupTariff → PeriodNumber → List Tier
tiers_at t period = slice_index_or t.prices period []

-- no group has a tariff twice
abbrev pub AreOfOtherGroups : List GroupTariff → Type 0
AreOfOtherGroups tariffs = AllPairs (λ t later. t.group ≢ later.group) tariffs
