use Rattle.std.proofs.Common.{rules}
use Rattle.std.proofs.KnownBytes.{Appends-trans}
use Rattle.std.proofs.lemmas.Result.{on_ok_weaker}
use Rattle.http_messages.proofs.Begun.{at_err, err_gives, begun_first, begun_second}
use Rattle.http_messages.proofs.text.write_both.Goals as goal

pub returns-in_err-write_text : goal.returns-in_err-write_text
returns-in_err-write_text g c = record {
  ok = search rules;
  err = at_err c.from_residual.result
      (begun_first (g.W.Write.contents c.args.writer.now)
      (g.W.Write.contents c.write_text.new.writer) c.args.first.now c.args.second.now
      c.in_err-write_text.ensures.err);
  fault = search rules;
}

pub returns : goal.returns
returns g c = record {
  ok = on_ok_weaker c.write_text-2.result
      (λ more. Appends-trans (g.W.Write.contents c.args.writer.now)
      (g.W.Write.contents c.write_text.new.writer) (g.W.Write.contents c.write_text-2.new.writer)
      c.args.first.now c.args.second.now c.in_ok-write_text.ensures.ok more)
      c.write_text-2.ensures.ok;
  err = err_gives c.write_text-2.result
      (begun_second (g.W.Write.contents c.args.writer.now)
      (g.W.Write.contents c.write_text.new.writer) (g.W.Write.contents c.write_text-2.new.writer)
      c.args.first.now c.args.second.now c.in_ok-write_text.ensures.ok)
      c.write_text-2.ensures.err;
  fault = search rules;
}
