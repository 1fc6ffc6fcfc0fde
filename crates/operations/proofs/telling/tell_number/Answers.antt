use Rattle.std.specs.Fmt.{decimal}
use Rattle.operations.specs.Told.{place_told}
use Rattle.std.proofs.Common.{◌++◌, ◌∷◌, []}
use Rattle.operations.proofs.Beginnings.{beginning_after, part_told}
use Rattle.operations.proofs.telling.tell_number.Goals as goal

pub returns-in-Ok : goal.returns-in-Ok
returns-in-Ok g c =
    beginning_after (g.E.Write.contents c.args.errors.now)
    (g.E.Write.contents c.write_whole.new.writer) (g.E.Write.contents c.tell_digits.new.errors)
    (32 ∷ []) (decimal c.args.number ++ (place_told c.args.place ++ 10 ∷ [])) c.in-Ok.ensures.ok c.tell_digits.ensures

pub returns-in-Err : goal.returns-in-Err
returns-in-Err g c =
    part_told (g.E.Write.contents c.args.errors.now) (g.E.Write.contents c.write_whole.new.writer)
    (32 ∷ []) (decimal c.args.number ++ (place_told c.args.place ++ 10 ∷ [])) c.in-Err.ensures.err
