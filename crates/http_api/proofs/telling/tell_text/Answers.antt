use Rattle.http_messages.specs.Statuses.{ok}
use Rattle.http_api.proofs.Leaving.{told_left, text_as}
use Rattle.http_api.proofs.telling.tell_text.Goals as goal

pub returns : goal.returns
returns g c = told_left (g.W.Write.contents c.args.writer.now)
    (g.W.Write.contents c.tell_text.new.writer) (g.W.Write.contents c.leave.new.writer)
    c.leave.result _ (text_as c.args.following.closes ok c.args.body.now)
    c.in_ok-tell_text.ensures.ok c.leave.ensures.kept c.leave.ensures.fault
