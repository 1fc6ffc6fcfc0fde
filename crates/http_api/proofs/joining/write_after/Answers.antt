use Rattle.http_messages.proofs.Begun.{at_err, err_gives, begun_first, begun_second}
use Rattle.http_api.proofs.joining.write_after.Goals as goal

pub returns-in_err-write_waiting-clause-err : goal.returns-in_err-write_waiting-clause-err
returns-in_err-write_waiting-clause-err g c = at_err c.from_residual.result
    (begun_first (g.W.Write.contents c.args.writer.now)
    (g.W.Write.contents c.write_waiting.new.writer) c.args.waiting.now.items c.args.text.now
    c.in_err-write_waiting.ensures.err)

pub returns-clause-err : goal.returns-clause-err
returns-clause-err g c = err_gives c.write_text.result
    (begun_second (g.W.Write.contents c.args.writer.now)
    (g.W.Write.contents c.write_waiting.new.writer) (g.W.Write.contents c.write_text.new.writer)
    c.args.waiting.now.items c.args.text.now c.in_ok-write_waiting.ensures.ok)
    c.write_text.ensures.err
