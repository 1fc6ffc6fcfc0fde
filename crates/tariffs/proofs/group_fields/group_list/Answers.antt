use Rattle.std.proofs.Common.{◌≡◌, length, arith}
use Rattle.std.proofs.lemmas.List.Elements.{All-push}
use Rattle.std.proofs.lemmas.Result.{err_from_is_err_and}
use Rattle.tariffs.proofs.Entries.{collected_goes_on, collected_ends, collected_done}
use Rattle.tariffs.specs.Tariffs.{IsTariff}
use Rattle.tariffs.specs.GroupFields.{group_of}
use Rattle.tariffs.proofs.GroupFacts.{other_groups_push}
use Rattle.tariffs.proofs.group_fields.group_list.Goals as goal

pub returns-in_err-tariff-clause-value : goal.returns-in_err-tariff-clause-value
returns-in_err-tariff-clause-value c =
    let p = err_from_is_err_and c.from_residual.result c.from_residual.ensures.1 in
    rw (p.1, p.2)
    (collected_ends c.in_err-tariff.field-0.0 (group_of c.args.names.now)
    c.loop-value.tariffs.items c.args.values.now c.loop-value.value-index c.value-item.result _
    c.loop-value-test.true c.value-item.is
    (rw c.deref.ensures.value at c.in_err-tariff.ensures.value) c.loop-value.invariant.reading)

pub loop-value-preserved : goal.loop-value-preserved
loop-value-preserved c = record {
  reading =
      rw c.in_ok-push.ensures.items
      (collected_goes_on (group_of c.args.names.now) c.loop-value.tariffs.items
      c.in_ok-tariff.tariff c.args.values.now c.loop-value.value-index c.value-item.result _
      c.loop-value-test.true c.value-item.is
      (rw c.deref.ensures.value at c.in_ok-tariff.ensures.value)
      c.loop-value.invariant.reading);
  count = omega (arith, c.in_ok-push.ensures.len);
  distinct =
      rw c.in_ok-push.ensures.items
      (other_groups_push c.loop-value.tariffs.items c.in_ok-tariff.tariff
      c.loop-value.invariant.distinct (rw c.deref.ensures.value at c.in_ok-tariff.ensures.new));
  tariffs =
      rw c.in_ok-push.ensures.items
      (All-push IsTariff c.loop-value.tariffs.items c.in_ok-tariff.tariff
      c.loop-value.invariant.tariffs c.in_ok-tariff.ensures.tariff);
  periods =
      rw c.in_ok-push.ensures.items
      (All-push (λ t. length t.prices ≡ length c.args.names.now) c.loop-value.tariffs.items
      c.in_ok-tariff.tariff c.loop-value.invariant.periods c.in_ok-tariff.ensures.periods);
}

pub returns-clause-value : goal.returns-clause-value
returns-clause-value c =
    collected_done (group_of c.args.names.now) c.loop-value.tariffs.items c.args.values.now
    c.loop-value.value-index _ c.loop-value-test.false c.loop-value.invariant.reading
