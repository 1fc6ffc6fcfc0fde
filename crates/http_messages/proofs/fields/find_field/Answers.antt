use Rattle.std.proofs.Common.{arith}
use Rattle.http_messages.proofs.Founds.{found_more}
use Rattle.http_messages.proofs.fields.find_field.Goals as goal

pub loop-field-preserved : goal.loop-field-preserved
loop-field-preserved c = (
  c.with_field-found.ensures.within c.loop-field.invariant.0,
  found_more c.args.part.now c.args.name.now c.args.fields.now c.loop-field.field-index
      _ c.loop-field.found c.with_field-found.result (omega (arith, c.loop-field-test.true))
      c.loop-field.invariant.1 c.with_field-found.ensures.found,
)
