use Rattle.http_api.proofs.Leaving.{text_left}
use Rattle.http_api.proofs.telling.tell_refusal.Goals as goal

pub returns : goal.returns
returns g c = text_left (g.W.Write.contents c.args.writer.now)
    (g.W.Write.contents c.tell_refusal.new.writer) (g.W.Write.contents c.leave.new.writer)
    c.leave.result _ c.in_ok-tell_refusal.ensures.ok c.leave.ensures.kept c.leave.ensures.fault
