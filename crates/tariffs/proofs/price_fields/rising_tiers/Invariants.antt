use Rattle.std.proofs.Common.{◌≡◌, drop, [], length}
use Rattle.toml.specs.View.{items_view}
use Rattle.tariffs.specs.Fields.{collected}
use Rattle.tariffs.specs.PriceFields.{next_tier}
use Rattle.tariffs.proofs.TierFacts.{AreFirst}
use Rattle.tariffs.proofs.price_fields.rising_tiers.Given as goal

abbrev pub invariant-loop-value : goal.invariant-loop-value
invariant-loop-value l = record {
  reading : collected (next_tier (length l.values)) l.tiers.items
      (items_view (drop l.value-index l.values))
      ≡ collected (next_tier (length l.values)) [] (items_view l.values);
  count : length l.tiers.items ≡ l.value-index;
  first : AreFirst (length l.values) l.tiers.items;
}
