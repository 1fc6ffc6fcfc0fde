use Rattle.std.proofs.Common.{◌≡◌, ◌++◌, ◌∷◌, [], string_bytes, arith}
use Rattle.std.proofs.lemmas.Result.{err_from_is_err_and}
use Rattle.std.proofs.lemmas.List.{map_push}
use Rattle.tariffs.proofs.Entries.{collected_goes_on, collected_ends, collected_done}
use Rattle.tariffs.specs.Names.{name_of, texts}
use Rattle.tariffs.proofs.NameFacts.{distinct_push}
use Rattle.tariffs.proofs.names.names.Goals as goal

pub loop-value-preserved : goal.loop-value-preserved
loop-value-preserved c =
    let n = c.in_ok-name.name in
    let e : texts c.push.new.self.items ≡ texts c.loop-value.names.items ++ string_bytes n ∷ [] =
    rw c.in_ok-push.ensures.items (map_push _ c.loop-value.names.items n) in
    record {
      reading =
          rw e (collected_goes_on name_of (texts c.loop-value.names.items) (string_bytes n)
          c.args.values.now c.loop-value.value-index c.value-item.result _ c.loop-value-test.true
          c.value-item.is (rw c.deref.ensures.value at c.in_ok-name.ensures.value)
          c.loop-value.invariant.reading);
      count = omega (arith, c.in_ok-push.ensures.len);
      distinct =
          rw e (distinct_push (texts c.loop-value.names.items) (string_bytes n)
          (rw c.deref.ensures.value at c.in_ok-name.ensures.name) c.loop-value.invariant.distinct);
    }

pub returns-clause-value : goal.returns-clause-value
returns-clause-value c =
    collected_done name_of (texts c.loop-value.names.items) c.args.values.now
    c.loop-value.value-index _ c.loop-value-test.false c.loop-value.invariant.reading

pub returns-in_err-name-clause-value : goal.returns-in_err-name-clause-value
returns-in_err-name-clause-value c =
    let p = err_from_is_err_and c.from_residual.result c.from_residual.ensures.1 in
    rw (p.1, p.2)
    (collected_ends c.in_err-name.field-0.0 name_of (texts c.loop-value.names.items)
    c.args.values.now c.loop-value.value-index c.value-item.result _ c.loop-value-test.true
    c.value-item.is (rw c.deref.ensures.value at c.in_err-name.ensures.value)
    c.loop-value.invariant.reading)
