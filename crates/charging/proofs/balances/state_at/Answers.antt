use Rattle.std.proofs.Common.{subst}
use Rattle.keepers.specs.Change.{AreDeadOf}
use Rattle.keepers.specs.Tables.{Tables}
use Rattle.charging.proofs.outcomes.PartsServed.{found_by, read_of, reads_then}
use Rattle.charging.proofs.outcomes.Requested.{none_viewed, some_viewed}
use Rattle.charging.proofs.outcomes.Stated.{none-stated, some-stated}
use Rattle.charging.proofs.balances.state_at.Goals as goal

pub returns-in_default : goal.returns-in_default
returns-in_default g c = found_by (read_of c.in_ok-account.ensures) (λ clean list time is le.
    none-stated c.args.shelf.now c.args.number.now list (g.K.Keeper.seen c.args.keeper.now).tables
    is (none_viewed c.args.shelf.now c.args.moment
    ((g.K.Keeper.seen c.args.keeper.now).tables.rows c.args.number.now)
    c.in_ok-account.field-0 (c.in_ok-account.ensures.found clean) c.in_default.is))

pub returns : goal.returns
returns g c = found_by (reads_then (read_of c.in_ok-account.ensures) (read_of c.in_ok-dead.ensures))
    (λ clean list time is le.
    let viewed = c.in_ok-dead.ensures.cleanness clean in
    let same = c.in_ok-account.ensures.same viewed in
    some-stated c.args.shelf.now c.args.number.now c.args.moment list
    (g.K.Keeper.seen c.args.keeper.now).tables c.in-Some.account c.in_ok-dead.dead.items
    c.in_ok-state_of.field-0 time is le
    (some_viewed c.args.shelf.now c.args.moment
    ((g.K.Keeper.seen c.args.keeper.now).tables.rows c.args.number.now)
    c.in_ok-account.field-0 c.in-Some.account (c.in_ok-account.ensures.found viewed) c.in-Some.is)
    (subst (λ (y : Tables). AreDeadOf (y.rows c.args.number.now) c.in_ok-dead.dead.items) same
    (c.in_ok-dead.ensures.found clean))
    c.in_ok-state_of.ensures)
