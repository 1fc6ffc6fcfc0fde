-- Which lists of parts a report of used units can have.
use Rattle.std.specs.Prelude.{ℕ, ◌&&◌, ◌==◌, List, [], ◌∷◌, length, Bool, Option, nat_le}
use Rattle.std.specs.Option.{option_eq}
use Rattle.std.specs.List.{list_all, find}
use Rattle.units.specs.declared.blocks.UnitKind.{UnitKind}
use Rattle.units.specs.declared.blocks.TariffChangeUsage.{TariffChangeUsage}
use Rattle.units.specs.declared.blocks.TariffChangeUsage.TheVariants.{UnitBeforeTariffChange}
use Rattle.units.specs.declared.blocks.TariffChangeUsage.TheVariants.{UnitAfterTariffChange}
use Rattle.units.specs.declared.blocks.TariffChangeUsage.TheVariants.{UnitIndeterminate}
use Rattle.units.specs.contracts.blocks.TariffChangeUsagePartialEq.TheImpl.{ghosts as usage}
use Rattle.units.specs.declared.blocks.UsedPart.{UsedPart}
use Rattle.commands.specs.Differ.{all_differ}
use Rattle.commands.specs.Quantities.{most_units}

-- Tariff-Change-Usage (RFC 8506 section 8.27)
abbrev pub usage_number : TariffChangeUsage → ℕ
usage_number UnitBeforeTariffChange = 0
usage_number UnitAfterTariffChange = 1
usage_number UnitIndeterminate = 2

-- the one of this number
abbrev pub all_usages : List TariffChangeUsage
all_usages = UnitBeforeTariffChange ∷ UnitAfterTariffChange ∷ UnitIndeterminate ∷ []

abbrev pub usage_numbered : ℕ → Option TariffChangeUsage
usage_numbered n = find (λ x. usage_number x == n) all_usages

-- two are the same
abbrev pub same_usage : TariffChangeUsage → TariffChangeUsage → Bool
same_usage = usage.eq

-- no tag comes twice, and at most one part has none
abbrev pub tags_differ : List UsedPart → Bool
tags_differ = all_differ (λ (p q : UsedPart). option_eq same_usage p.change q.change)

-- 1 to 4 parts, whose tags differ, each with at most so many units
-- rule: used-parts
abbrev pub is_report : UnitKind → List UsedPart → Bool
is_report kind parts =
    nat_le 1 (length parts) && nat_le (length parts) 4
    && list_all (λ (p : UsedPart). nat_le p.units.0 (most_units kind)) parts && tags_differ parts
