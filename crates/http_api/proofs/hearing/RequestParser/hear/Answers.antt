use Rattle.http_api.proofs.HeadRefusals.{heard_next}
use Rattle.http_api.proofs.hearing.RequestParser.hear.Goals as goal

pub returns-clause-heard : goal.returns-clause-heard
returns-clause-heard g c = heard_next (g.R.Read.remaining c.args.reader.now)
    (g.R.Read.remaining c.next_request.new.reader) c.in_ok-taken.taken c.heard_of.result
    c.in_ok-taken.ensures.next c.heard_of.ensures
