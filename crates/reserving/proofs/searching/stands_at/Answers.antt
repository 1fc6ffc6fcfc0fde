use Rattle.std.proofs.Common.{rules, sym, ap, ◌∙◌}
use Rattle.reserving.specs.declared.session.Session.{Session}
use Rattle.reserving.specs.declared.session.SessionState.TheVariants.{Open}
use Rattle.reserving.specs.Sessions.{is_session}
use Rattle.reserving.proofs.order.KeyRows.{sessions_total, session_ties}
use Rattle.reserving.proofs.order.Searched.{found_at}
use Rattle.reserving.proofs.searching.stands_at.Goals as goal

pub returns-then-place-sessions : goal.returns-then-place-sessions
returns-then-place-sessions c = λ e.
    let row : Session = c.index-sessions-place.result in
    let named : Session =
    record { id = c.args.id.now; last_number = 0; touched = 0; state = Open } in
    found_at sessions_total (is_session c.args.id.now) named (session_ties named)
    c.args.place c.args.sessions.now row c.if-place-sessions.true
    (ap (is_session c.args.id.now) (sym c.index-sessions-place.is) ∙ c.is_one_name.ensures e)
    c.requires
