use Rattle.wire.proofs.AllowancesAgain.{allowance_content_again}
use Rattle.wire.proofs.contents.write_allowance.Goals as goal

pub returns-clause-read_again : goal.returns-clause-read_again
returns-clause-read_again c = rw c.in_ok-text.ensures.text
    (allowance_content_again c.args.allowance.now c.in_ok-text.ensures.rule)
