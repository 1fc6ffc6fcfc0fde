use Rattle.std.proofs.Common.{sym, ◌∙◌, arith}
use Rattle.texts.proofs.LineLemmas.{goes_on}
use Rattle.texts.proofs.Bounds.{few_bytes, one_more}
use Rattle.texts.proofs.streams.next_line.Goals as goal

pub loop-taken-preserved : goal.loop-taken-preserved
loop-taken-preserved g c = record {
  count = one_more c.loop-taken.line.items c.push.new.self.items c.in-Some.byte c.loop-taken._taken
      c.in_ok-push.ensures.items c.loop-taken.invariant.count;
  begins = goes_on (g.R.Read.remaining c.args.reader.now) (g.R.Read.remaining c.loop-taken.reader)
      (g.R.Read.remaining c.next_byte.new.reader) c.loop-taken.line.items c.push.new.self.items
      c.in-Some.byte (sym c.ends_line.ensures ∙ c.if-ends_line.false) c.in_ok-push.ensures.items
      (rw c.in-Some.is at c.in_ok-byte.ensures.taken) c.loop-taken.invariant.begins;
}

pub unreachable-requires : goal.unreachable-requires
unreachable-requires g c = omega (
  arith,
  few_bytes c.loop-taken.line,
  c.loop-taken.invariant.count,
  c.loop-taken-test.false,
)
