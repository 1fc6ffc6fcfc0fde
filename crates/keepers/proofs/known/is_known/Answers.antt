use Rattle.std.proofs.Common.{sym, ◌∙◌}
use Rattle.keepers.proofs.Unchanged.{unknown_there}
use Rattle.keepers.proofs.known.is_known.Goals as goal

pub returns-then-has_session_near : goal.returns-then-has_session_near
returns-then-has_session_near c =
    sym (unknown_there c.args.names.now c.args.session.now c.args.sessions.now c.requires
    (sym c.has_session_near.ensures ∙ c.if-has_session_near.true))
