use Rattle.std.proofs.Common.{◌≡◌, drop, [], length}
use Rattle.std.specs.Prelude.{replicate}
use Rattle.std.specs.List.{AllByRecursion}
use Rattle.toml.specs.View.{items_view}
use Rattle.tariffs.specs.Fields.{each}
use Rattle.tariffs.specs.Prices.{tier_lists, IsPriceOrNone}
use Rattle.tariffs.specs.PriceFields.{with_price}
use Rattle.tariffs.proofs.price_fields.price_list.Given as goal

abbrev pub invariant-loop-value : goal.invariant-loop-value
invariant-loop-value l = record {
  reading : each (with_price l.names) (tier_lists l.prices.items)
      (items_view (drop l.value-index l.values))
      ≡ each (with_price l.names) (replicate (length l.names) []) (items_view l.values);
  count : length l.prices.items ≡ length l.names;
  tiers : AllByRecursion IsPriceOrNone (tier_lists l.prices.items);
}
