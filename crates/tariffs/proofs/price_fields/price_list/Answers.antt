use Rattle.std.proofs.Common.{◌≡◌, [], length, replicate, length-set, refl, Vec, Global}
use Rattle.std.proofs.lemmas.List.{map-set}
use Rattle.std.proofs.lemmas.Result.{err_from_is_err_and}
use Rattle.tariffs.proofs.Entries.{each_goes_on, each_ends, each_done}
use Rattle.tariffs.specs.declared.tiers.Tier.{Tier}
use Rattle.tariffs.specs.Prices.{tier_lists}
use Rattle.tariffs.specs.PriceFields.{with_price}
use Rattle.tariffs.proofs.PriceFacts.{none_priced, priced_set, count_of_lists}
use Rattle.tariffs.proofs.price_fields.price_list.Goals as goal

pub returns-in_err-period-clause-value : goal.returns-in_err-period-clause-value
returns-in_err-period-clause-value c =
    let p = err_from_is_err_and c.from_residual-in_err-period.result
    c.from_residual-in_err-period.ensures.1 in
    let read = rw c.deref.ensures.value at c.in_err-period.ensures.value in
    rw (p.1, p.2)
    (each_ends c.in_err-period.field-0.0 (with_price c.args.names.now)
    (tier_lists c.loop-value.prices.items) c.args.values.now c.loop-value.value-index
    c.value-item.result _ c.loop-value-test.true c.value-item.is (λ other. rw (read other) refl)
    c.loop-value.invariant.reading)

pub loop-value-init : goal.loop-value-init
loop-value-init c =
    let none : tier_lists c.in_ok-prices.prices.items ≡ replicate (length c.args.names.now) [] =
    rw c.count.ensures at c.in_ok-prices.ensures in
    record {
      reading = rw none refl;
      count = count_of_lists c.in_ok-prices.prices.items _ none;
      tiers = rw none (none_priced _);
    }

pub loop-value-preserved : goal.loop-value-preserved
loop-value-preserved c =
    let read = rw c.deref.ensures.value at c.in_ok-period.ensures.value in
    let place : c.from.result ≡ c.in_ok-period.period.0 = c.from.ensures in
    record {
      reading =
          rw (map-set (λ (v : Vec Tier Global). v.items), place)
          (each_goes_on (with_price c.args.names.now) (tier_lists c.loop-value.prices.items) _
          c.args.values.now c.loop-value.value-index c.value-item.result _
          c.loop-value-test.true c.value-item.is (rw read refl) c.loop-value.invariant.reading);
      count = rw length-set c.loop-value.invariant.count;
      tiers = rw (map-set (λ (v : Vec Tier Global). v.items))
          (priced_set (tier_lists c.loop-value.prices.items) c.from.result _
          c.in_ok-period.ensures.tiers c.loop-value.invariant.tiers);
    }

pub returns-clause-value : goal.returns-clause-value
returns-clause-value c =
    each_done (with_price c.args.names.now) (tier_lists c.loop-value.prices.items) c.args.values.now
    c.loop-value.value-index _ c.loop-value-test.false c.loop-value.invariant.reading
