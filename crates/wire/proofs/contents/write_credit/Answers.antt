use Rattle.wire.proofs.ContentsAgain.{credit_content_again}
use Rattle.wire.proofs.contents.write_credit.Goals as goal

pub returns-clause-read_again : goal.returns-clause-read_again
returns-clause-read_again c =
    rw c.in_ok-text.ensures.text (credit_content_again c.args.credit.now c.in_ok-text.ensures.rule)
