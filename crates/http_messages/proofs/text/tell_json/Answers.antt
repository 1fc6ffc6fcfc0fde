use Rattle.std.proofs.Common.{◌∙◌, ◌++◌, codes, refl, subst}
use Rattle.std.proofs.lemmas.Result.{on_ok_weaker}
use Rattle.std.specs.Io.KnownBytes.{Appends}
use Rattle.std.proofs.KnownBytes.{Appends-trans}
use Rattle.http_messages.specs.Texts.{AppendsBeginning, closing_line}
use Rattle.http_messages.proofs.Begun.{at_err, err_gives, begun_first, begun_second}
use Rattle.http_messages.proofs.Written.{json_written}
use Rattle.http_messages.proofs.text.tell_json.Goals as goal

pub returns-in_err-write_both-clause-err : goal.returns-in_err-write_both-clause-err
returns-in_err-write_both-clause-err g c = at_err c.from_residual.result
    (subst (AppendsBeginning (g.W.Write.contents c.args.writer.now)
    (g.W.Write.contents c.write_both.new.writer))
    (json_written c.ok_and_length.result.now c.as_bytes.result.now
    (codes "\r\n" ++ (closing_line c.args.closes ++ codes "\r\n")) c.args.body.now c.args.closes
    c.ok_and_length.ensures (c.as_bytes.ensures.value ∙ c.format-length.ensures.text) refl)
    (begun_first (g.W.Write.contents c.args.writer.now)
    (g.W.Write.contents c.write_both.new.writer)
    (c.ok_and_length.result.now ++ c.as_bytes.result.now)
    ((codes "\r\n" ++ (closing_line c.args.closes ++ codes "\r\n")) ++ c.args.body.now)
    c.in_err-write_both.ensures.err))

pub returns-clause-ok : goal.returns-clause-ok
returns-clause-ok g c = on_ok_weaker c.write_both-2.result
    (λ more. subst (Appends (g.W.Write.contents c.args.writer.now)
    (g.W.Write.contents c.write_both-2.new.writer))
    (json_written c.ok_and_length.result.now c.as_bytes.result.now c.after_length.result.now
    c.args.body.now c.args.closes c.ok_and_length.ensures
    (c.as_bytes.ensures.value ∙ c.format-length.ensures.text) c.after_length.ensures)
    (Appends-trans (g.W.Write.contents c.args.writer.now)
    (g.W.Write.contents c.write_both.new.writer) (g.W.Write.contents c.write_both-2.new.writer)
    (c.ok_and_length.result.now ++ c.as_bytes.result.now)
    (c.after_length.result.now ++ c.args.body.now) c.in_ok-write_both.ensures.ok more))
    c.write_both-2.ensures.ok

pub returns-clause-err : goal.returns-clause-err
returns-clause-err g c = err_gives c.write_both-2.result
    (λ more. subst (AppendsBeginning (g.W.Write.contents c.args.writer.now)
    (g.W.Write.contents c.write_both-2.new.writer))
    (json_written c.ok_and_length.result.now c.as_bytes.result.now c.after_length.result.now
    c.args.body.now c.args.closes c.ok_and_length.ensures
    (c.as_bytes.ensures.value ∙ c.format-length.ensures.text) c.after_length.ensures)
    (begun_second (g.W.Write.contents c.args.writer.now)
    (g.W.Write.contents c.write_both.new.writer) (g.W.Write.contents c.write_both-2.new.writer)
    (c.ok_and_length.result.now ++ c.as_bytes.result.now)
    (c.after_length.result.now ++ c.args.body.now) c.in_ok-write_both.ensures.ok more))
    c.write_both-2.ensures.err
