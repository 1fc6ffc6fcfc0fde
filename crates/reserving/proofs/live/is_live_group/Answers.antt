use Rattle.std.proofs.Common.{rules, ◌≡◌, ◌∙◌, true, false}
use Rattle.std.specs.Prelude.{is_some}
use Rattle.reserving.specs.Left.{is_open_row}
use Rattle.reserving.specs.Sessions.{session_in}
use Rattle.reserving.proofs.rows.Quiet.{or_true, or_false}
use Rattle.reserving.proofs.live.is_live_group.Goals as goal

pub returns-then-is_some : goal.returns-then-is_some
returns-then-is_some c =
    let some : is_some c.args.group.now.reservation ≡ true = search rules in
    c.if-is_some.true ∙ or_true (is_open_row (session_in c.args.group.now.session c.args.sessions.now)) _ some

pub returns-else-is_some : goal.returns-else-is_some
returns-else-is_some c =
    let none : is_some c.args.group.now.reservation ≡ false = search rules in
    c.is_open.ensures
    ∙ or_false (is_open_row (session_in c.args.group.now.session c.args.sessions.now)) _ none
