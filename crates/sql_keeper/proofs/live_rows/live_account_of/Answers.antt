use Rattle.std.proofs.Common.{subst}
use Rattle.sql_keeper.specs.LiveRows.{IsReadAccount}
use Rattle.sql_keeper.proofs.loads.LiveRows.{live_read}
use Rattle.sql_keeper.proofs.live_rows.live_account_of.Goals as goal

pub returns-in_default : goal.returns-in_default
returns-in_default c = λ names shelf t rows is.
    subst (IsReadAccount names shelf t rows) c.in_default.is is

pub returns : goal.returns
returns c = λ names shelf t rows is.
    live_read names shelf t rows c.in-Some.read c.in_ok-account.account
    (subst (IsReadAccount names shelf t rows) c.in-Some.is is)
    c.in_ok-account.ensures.rows c.in_ok-account.ensures.found
