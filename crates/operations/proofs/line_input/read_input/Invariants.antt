use Rattle.std.proofs.Common.{◌≡◌, length, IfSome}
use Rattle.operations.proofs.request_lines.Streams.{IsReadSoFar}
use Rattle.operations.proofs.line_input.read_input.Given as goal

abbrev pub invariant-loop-line : goal.invariant-loop-line
invariant-loop-line g l = record {
  count : length l.input.lines.items ≡ l._line;
  read : IfSome (g.R.Read.remaining l.fn.reader)
      (λ stream. IsReadSoFar stream (g.R.Read.remaining l.reader) l.input);
}
