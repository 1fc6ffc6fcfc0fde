use Rattle.std.proofs.Common.{◌++◌, ◌∙◌, sym, ap}
use Rattle.std.specs.Prelude.{is_some}
use Rattle.reserving.specs.Sessions.{session_in}
use Rattle.keepers.specs.Parts.{Parts}
use Rattle.keepers.specs.Inside.{parts_of}
use Rattle.keepers.proofs.KnownNames.{known_live, known_left, known_none}
use Rattle.keepers.proofs.store.Store.knows.Goals as goal

pub returns-then-has_session : goal.returns-then-has_session
returns-then-has_session c =
    let p : Parts = parts_of c.self.inside in
    let s = c.args.session.now in
    let live = c.has_session.ensures in
    c.if-has_session.true ∙ known_live s p.left.sessions p.live.sessions
    (sym live ∙ c.if-has_session.true)
    ∙ ap (λ (q : Parts). is_some (session_in s (q.left.sessions ++ q.live.sessions))) c.self.view_is

pub returns-then-contains : goal.returns-then-contains
returns-then-contains c =
    let p : Parts = parts_of c.self.inside in
    let s = c.args.session.now in
    let live = c.has_session.ensures in
    c.has_session-then-contains.ensures
    ∙ ap (λ xs. is_some (session_in s xs)) c.deref.ensures.value
    ∙ known_left s p.left.sessions p.live.sessions (sym live ∙ c.if-has_session.false)
    ∙ ap (λ (q : Parts). is_some (session_in s (q.left.sessions ++ q.live.sessions))) c.self.view_is

pub returns-else-contains : goal.returns-else-contains
returns-else-contains c =
    let p : Parts = parts_of c.self.inside in
    let s = c.args.session.now in
    let live = c.has_session.ensures in
    c.if-contains.false
    ∙ known_none c.self.inside.known.names s p.left.sessions p.live.sessions
    c.self.invariant.sessions (sym c.contains.ensures ∙ c.if-contains.false)
    (sym live ∙ c.if-has_session.false)
    ∙ ap (λ (q : Parts). is_some (session_in s (q.left.sessions ++ q.live.sessions))) c.self.view_is
