use Rattle.ocs.proofs.EndLemmas.{told_memory}
use Rattle.ocs.proofs.telling.tell_unread.Goals as goal

pub returns-in-Memory-clause-told : goal.returns-in-Memory-clause-told
returns-in-Memory-clause-told g c =
    told_memory c.args.fault c.tell_stream.result (g.E.Write.contents c.args.errors.now)
    (g.E.Write.contents c.tell_stream.new.errors) c.in-Memory.is
    c.tell_stream.ensures.status c.tell_stream.ensures.told
