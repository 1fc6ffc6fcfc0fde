use Rattle.std.proofs.Common.{ℕ, List, [], ◌∷◌, ◌++◌, Result, map, length, subst, ap, IfSome}
use Rattle.std.proofs.Common.{arith}
use Rattle.texts.specs.Lines.{IsLineOf}
use Rattle.json_fields.specs.declared.fault.WireFault.{WireFault}
use Rattle.charging.specs.declared.running.DatedCommand.{DatedCommand}
use Rattle.operations.specs.LineInput.{kept_fault, IsInput}
use Rattle.operations.specs.Lines.{line_request}
use Rattle.operations.proofs.request_lines.Streams.{few_lines, read-none, read-line}
use Rattle.operations.proofs.line_input.read_input.Goals as goal

pub loop-line-init : goal.loop-line-init
loop-line-init g c = record {
  count = ap length c.new.ensures.items;
  read = read-none (g.R.Read.remaining c.args.reader.now) _ (record {
    requests = c.new-2.ensures.items;
    lines = ap (map kept_fault) c.new.ensures.items;
  });
}

pub loop-line-preserved : goal.loop-line-preserved
loop-line-preserved g c = record {
  count = omega (arith, c.in_ok-add_line.ensures.count, c.loop-line.invariant.count);
  read = read-line (g.R.Read.remaining c.args.reader.now)
      (g.R.Read.remaining c.loop-line.reader)
      (g.R.Read.remaining c.next_line.new.reader) c.in-Some.line c.loop-line.input
      c.add_line.new.self c.loop-line.invariant.read
      (subst (λ l. IfSome (g.R.Read.remaining c.loop-line.reader) (λ stream. IsLineOf stream l
      (g.R.Read.remaining c.next_line.new.reader))) c.in-Some.is c.in_ok-line.ensures.line)
      (subst (λ (l : List ℕ). (read : List (Result DatedCommand WireFault)) →
      IsInput read c.loop-line.input → IsInput (read ++ line_request l ∷ []) c.add_line.new.self)
      c.deref.ensures.value c.in_ok-add_line.ensures.added);
}

pub unreachable-requires : goal.unreachable-requires
unreachable-requires g c = omega (
  arith,
  few_lines c.loop-line.input,
  c.loop-line.invariant.count,
  c.loop-line-test.false,
)
