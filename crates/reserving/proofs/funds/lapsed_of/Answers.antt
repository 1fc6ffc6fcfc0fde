use Rattle.ledger.specs.Pricing.{validity_of}
use Rattle.reserving.specs.Sessions.{is_live_in}
use Rattle.reserving.proofs.rows.LapsedFunds.{lapsed_for-none}
use Rattle.reserving.proofs.funds.lapsed_of.Goals as goal

pub returns-in_default : goal.returns-in_default
returns-in_default c =
    lapsed_for-none (is_live_in (validity_of c.args.shelf.now) c.args.at c.args.sessions.now)
    c.args.kind
    c.args.group c.args.at c.args.row.now c.args.buckets.now c.in_default.is
