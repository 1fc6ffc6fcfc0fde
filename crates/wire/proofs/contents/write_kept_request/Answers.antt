use Rattle.wire.proofs.ContentsAgain.{request_content_again}
use Rattle.wire.proofs.contents.write_kept_request.Goals as goal

pub returns-clause-read_again : goal.returns-clause-read_again
returns-clause-read_again c =
    request_content_again _ c.args.request.now c.in_ok-text.ensures.read_again
