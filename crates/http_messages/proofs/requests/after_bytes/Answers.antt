use Rattle.http_messages.proofs.Nexts.{next_none, next_some}
use Rattle.http_messages.proofs.requests.after_bytes.Goals as goal

pub returns-in-None-clause-next : goal.returns-in-None-clause-next
returns-in-None-clause-next g c =
    next_none c.args.part.now c.in_ok-head.head (g.R.Read.remaining c.args.reader.now)
    (g.R.Read.remaining c.args.reader.now) c.in-None.is c.in_ok-head.ensures

pub returns-in-Some-clause-next : goal.returns-in-Some-clause-next
returns-in-Some-clause-next g c =
    next_some c.with_body.result c.args.part.now c.in_ok-head.head c.in-Some.head
    (g.R.Read.remaining c.args.reader.now) (g.R.Read.remaining c.with_body.new.reader) c.in-Some.is
    c.in_ok-head.ensures c.with_body.ensures.tells
