use Rattle.std.proofs.Common.{◌≡◌, drop}
use Rattle.std.specs.List.{list_all}
use Rattle.tariffs.specs.Prices.{tier_lists, has_tiers}
use Rattle.tariffs.proofs.price_fields.is_complete.Given as goal

abbrev pub invariant-loop-tiers : goal.invariant-loop-tiers
invariant-loop-tiers l =
    list_all has_tiers (tier_lists (drop l.tiers-index l.prices))
    ≡ list_all has_tiers (tier_lists l.prices)
