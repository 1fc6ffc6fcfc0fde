use Rattle.http_api.proofs.Leaving.{told_left, fault_as}
use Rattle.http_api.proofs.telling.tell_fault.Goals as goal

pub returns : goal.returns
returns g c = told_left (g.W.Write.contents c.args.writer.now)
    (g.W.Write.contents c.tell_fault.new.writer) (g.W.Write.contents c.leave.new.writer)
    c.leave.result _ (fault_as c.args.following.closes c.args.fault) c.in_ok-tell_fault.ensures.ok
    c.leave.ensures.kept c.leave.ensures.fault
