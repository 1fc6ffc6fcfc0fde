use Rattle.std.proofs.Common.{sym, ap, ◌∙◌}
use Rattle.std.specs.Prelude.{is_some}
use Rattle.reserving.specs.Sessions.{is_session}
use Rattle.keepers.proofs.PartsKept.{placed_found}
use Rattle.keepers.proofs.places.has_session_near.Goals as goal

pub returns-then-stands_at : goal.returns-then-stands_at
returns-then-stands_at c = sym (c.stands_at.ensures c.if-stands_at.true)

pub returns-then-stands_at-2 : goal.returns-then-stands_at-2
returns-then-stands_at-2 c = sym (c.stands_at-2.ensures c.if-stands_at-2.true)

pub returns-in_default : goal.returns-in_default
returns-in_default c =
    ap is_some (sym c.in_default.is ∙ c.session_place.ensures)
    ∙ placed_found (is_session c.args.session.now) c.args.rows.now

pub returns : goal.returns
returns c =
    ap is_some (sym c.in-Some.is ∙ c.session_place.ensures)
    ∙ placed_found (is_session c.args.session.now) c.args.rows.now
