use Rattle.std.proofs.Common.{◌≡◌, []}
use Rattle.std.specs.Prelude.{replicate}
use Rattle.tariffs.specs.Prices.{tier_lists}
use Rattle.tariffs.proofs.price_fields.no_prices.Given as goal

abbrev pub invariant-loop : goal.invariant-loop
invariant-loop l = tier_lists l.prices.items ≡ replicate l.counter []
