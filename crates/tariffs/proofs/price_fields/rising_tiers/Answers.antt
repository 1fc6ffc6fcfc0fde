use Rattle.std.proofs.Common.{◌≡◌, ◌<◌, length, arith}
use Rattle.std.proofs.lemmas.Result.{err_from_is_err_and}
use Rattle.tariffs.proofs.Entries.{collected_goes_on, collected_ends, collected_done}
use Rattle.tariffs.specs.PriceFields.{last_bound, next_tier}
use Rattle.tariffs.proofs.TierFacts.{first_goes_on}
use Rattle.tariffs.proofs.price_fields.rising_tiers.Goals as goal

pub returns-in_err-tier-clause-value : goal.returns-in_err-tier-clause-value
returns-in_err-tier-clause-value c =
    let p = err_from_is_err_and c.from_residual.result c.from_residual.ensures.1 in
    let n : c.len.result ≡ length c.loop-value.tiers.items = omega (arith, c.len.ensures) in
    let above : c.last_bound-above.result ≡ last_bound c.loop-value.tiers.items =
    rw c.deref.ensures.value at c.last_bound-above.ensures in
    rw (p.1, p.2)
    (collected_ends c.in_err-tier.field-0.0 (next_tier (length c.args.values.now))
    c.loop-value.tiers.items c.args.values.now c.loop-value.value-index c.value-item.result _
    c.loop-value-test.true c.value-item.is (rw (n, above) at c.in_err-tier.ensures.value)
    c.loop-value.invariant.reading)

pub loop-value-preserved : goal.loop-value-preserved
loop-value-preserved c =
    let n : c.len.result ≡ length c.loop-value.tiers.items = omega (arith, c.len.ensures) in
    let above : c.last_bound-above.result ≡ last_bound c.loop-value.tiers.items =
    rw c.deref.ensures.value at c.last_bound-above.ensures in
    record {
      reading =
          rw c.in_ok-push.ensures.items
          (collected_goes_on (next_tier (length c.args.values.now)) c.loop-value.tiers.items
          c.in_ok-tier.tier c.args.values.now c.loop-value.value-index c.value-item.result _
          c.loop-value-test.true c.value-item.is (rw (n, above) at c.in_ok-tier.ensures.value)
          c.loop-value.invariant.reading);
      count = omega (arith, c.in_ok-push.ensures.len);
      first =
          let lt : length c.loop-value.tiers.items < length c.args.values.now =
          omega (arith, c.loop-value-test.true, c.loop-value.invariant.count) in
          rw c.in_ok-push.ensures.items
          (first_goes_on (length c.args.values.now) c.loop-value.tiers.items c.in_ok-tier.tier lt
          c.in_ok-tier.ensures.priced (rw (n, above) at c.in_ok-tier.ensures.bounded)
          c.loop-value.invariant.first);
    }

pub returns-clause-value : goal.returns-clause-value
returns-clause-value c =
    collected_done (next_tier (length c.args.values.now)) c.loop-value.tiers.items c.args.values.now
    c.loop-value.value-index _ c.loop-value-test.false c.loop-value.invariant.reading
