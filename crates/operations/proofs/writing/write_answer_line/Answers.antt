use Rattle.std.proofs.Common.{rules, ◌∙◌, ◌∷◌, [], subst, take}
use Rattle.std.proofs.KnownBytes.{Appends-trans}
use Rattle.std.specs.Io.KnownBytes.{Appends}
use Rattle.wire.specs.Spelled.{answer_text}
use Rattle.operations.proofs.Beginnings.{beginning_after, beginning_before, on_err, some_written}
use Rattle.operations.proofs.writing.write_answer_line.Goals as goal

pub returns-in_err-write_whole : goal.returns-in_err-write_whole
returns-in_err-write_whole g c = record {
  written = search rules;
  err = on_err c.from_residual.result
      (beginning_before (g.W.Write.contents c.args.writer.now)
      (g.W.Write.contents c.write_whole.new.writer) (answer_text c.args.answer.now) (10 ∷ [])
      (some_written (g.W.Write.contents c.args.writer.now)
      (g.W.Write.contents c.write_whole.new.writer) (answer_text c.args.answer.now)
      c.in_err-write_whole.ensures.err.0
      (subst (λ l. Appends (g.W.Write.contents c.args.writer.now)
      (g.W.Write.contents c.write_whole.new.writer) (take c.in_err-write_whole.ensures.err.0 l))
      (c.as_bytes.ensures.value ∙ c.text.ensures.value) c.in_err-write_whole.ensures.err.1)));
  fault = search rules;
}

pub returns-in_err-write_whole-2 : goal.returns-in_err-write_whole-2
returns-in_err-write_whole-2 g c = record {
  written = search rules;
  err = on_err c.from_residual-in_err-write_whole-2.result
      (beginning_after (g.W.Write.contents c.args.writer.now)
      (g.W.Write.contents c.write_whole.new.writer)
      (g.W.Write.contents c.write_whole-2.new.writer) (answer_text c.args.answer.now) (10 ∷ [])
      (subst (Appends (g.W.Write.contents c.args.writer.now)
      (g.W.Write.contents c.write_whole.new.writer))
      (c.as_bytes.ensures.value ∙ c.text.ensures.value) c.in_ok-write_whole.ensures.ok)
      (some_written (g.W.Write.contents c.write_whole.new.writer)
      (g.W.Write.contents c.write_whole-2.new.writer) (10 ∷ [])
      c.in_err-write_whole-2.ensures.err.0 c.in_err-write_whole-2.ensures.err.1));
  fault = search rules;
}

pub returns : goal.returns
returns g c = record {
  written = Appends-trans (g.W.Write.contents c.args.writer.now)
      (g.W.Write.contents c.write_whole.new.writer)
      (g.W.Write.contents c.write_whole-2.new.writer) (answer_text c.args.answer.now) (10 ∷ [])
      (subst (Appends (g.W.Write.contents c.args.writer.now)
      (g.W.Write.contents c.write_whole.new.writer))
      (c.as_bytes.ensures.value ∙ c.text.ensures.value) c.in_ok-write_whole.ensures.ok)
      c.in_ok-write_whole-2.ensures.ok;
  err = search rules;
  fault = search rules;
}
