use Rattle.std.proofs.Common.{Some, None, subst, ◌≡◌, List, ◌∙◌}
use Rattle.std.specs.Prelude.{position}
use Rattle.reserving.specs.declared.session.Session.{Session}
use Rattle.reserving.specs.Sessions.{is_session}
use Rattle.reserving.proofs.OwnKept.{own_at, own_none}
use Rattle.reserving.proofs.own_rows.keep_own_session.Goals as goal

pub returns-in-Ok : goal.returns-in-Ok
returns-in-Ok c = c.keep_from.ensures
    ∙ own_at c.args.session.now c.in-Ok.place c.args.sessions.now.items c.requires.apart
    (subst (λ (xs : List Session). position (is_session c.args.session.now) xs ≡ Some c.in-Ok.place)
    c.deref.ensures.value c.in-Ok.ensures.found)

pub returns-in-Err : goal.returns-in-Err
returns-in-Err c = c.clear.ensures.items
    ∙ own_none c.args.session.now c.args.sessions.now.items c.requires.apart
    (subst (λ (xs : List Session). position (is_session c.args.session.now) xs ≡ None)
    c.deref.ensures.value c.in-Err.ensures.absent.none)
