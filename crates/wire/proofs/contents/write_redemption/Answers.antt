use Rattle.wire.proofs.RedeemedAgain.{redemption_content_again}
use Rattle.wire.proofs.contents.write_redemption.Goals as goal

pub returns-clause-read_again : goal.returns-clause-read_again
returns-clause-read_again c = rw c.in_ok-text.ensures.text
    (redemption_content_again c.args.redemption.now c.in_ok-text.ensures.rule)
