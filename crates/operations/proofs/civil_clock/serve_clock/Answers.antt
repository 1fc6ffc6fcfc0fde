use Rattle.std.proofs.Common.{rules, subst, take, string_bytes}
use Rattle.std.specs.Io.KnownBytes.{Appends}
use Rattle.operations.specs.Written.{WritesBeginning}
use Rattle.operations.proofs.Beginnings.{on_err, some_written}
use Rattle.operations.proofs.civil_clock.serve_clock.Goals as goal

pub returns-in_err-write_whole : goal.returns-in_err-write_whole
returns-in_err-write_whole g c = record {
  written = search rules;
  err = on_err c.from_residual-in_err-write_whole.result
      (subst (WritesBeginning (g.W.Write.contents c.args.writer.now)
      (g.W.Write.contents c.write_whole.new.writer)) c.in_ok-text.ensures
      (some_written (g.W.Write.contents c.args.writer.now) (g.W.Write.contents
      c.write_whole.new.writer) (string_bytes c.in_ok-text.text) c.in_err-write_whole.ensures.err.0
      (subst (λ l. Appends (g.W.Write.contents c.args.writer.now)
      (g.W.Write.contents c.write_whole.new.writer) (take c.in_err-write_whole.ensures.err.0 l))
      c.as_bytes.ensures.value c.in_err-write_whole.ensures.err.1)));
  fault = search rules;
}
