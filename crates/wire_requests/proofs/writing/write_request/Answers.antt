use Rattle.wire_requests.proofs.RequestsAgain.{requests_again}
use Rattle.wire_requests.proofs.writing.write_request.Goals as goal

pub returns-clause-read_again : goal.returns-clause-read_again
returns-clause-read_again c =
    rw c.in_ok-text.ensures.text (requests_again c.args.request.now c.in_ok-text.ensures.rule)
