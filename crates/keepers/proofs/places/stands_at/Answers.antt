use Rattle.reserving.specs.Sessions.{is_session}
use Rattle.keepers.proofs.Cursor.{stands}
use Rattle.keepers.proofs.places.stands_at.Goals as goal

pub returns-then-place-rows : goal.returns-then-place-rows
returns-then-place-rows c = λ e.
    stands (is_session c.args.session.now) c.args.rows.now c.args.place c.index-rows-place.result
    c.if-place-rows.true (c.is_one_name.ensures e)
