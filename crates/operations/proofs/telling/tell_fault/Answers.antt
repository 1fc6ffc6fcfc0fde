use Rattle.std.proofs.Common.{◌++◌, ◌∷◌, [], subst}
use Rattle.operations.specs.Told.{number_told, place_told}
use Rattle.operations.specs.Written.{WritesBeginning}
use Rattle.operations.proofs.Beginnings.{first_told, parts_told}
use Rattle.operations.proofs.telling.tell_fault.Goals as goal

pub returns-in-Ok : goal.returns-in-Ok
returns-in-Ok g c =
    subst (λ line. WritesBeginning (g.E.Write.contents c.args.errors.now)
    (g.E.Write.contents c.tell_end.new.errors)
    (((line ++ number_told c.args.number) ++ place_told c.args.place) ++ 10 ∷ []))
    c.as_bytes.ensures.value
    (parts_told (g.E.Write.contents c.args.errors.now) (g.E.Write.contents c.write_whole.new.writer)
    (g.E.Write.contents c.tell_end.new.errors) c.as_bytes.result.now (number_told c.args.number)
    (place_told c.args.place) c.in-Ok.ensures.ok c.tell_end.ensures)

pub returns-in-Err : goal.returns-in-Err
returns-in-Err g c =
    subst (λ line. WritesBeginning (g.E.Write.contents c.args.errors.now)
    (g.E.Write.contents c.write_whole.new.writer)
    (((line ++ number_told c.args.number) ++ place_told c.args.place) ++ 10 ∷ []))
    c.as_bytes.ensures.value
    (first_told (g.E.Write.contents c.args.errors.now) (g.E.Write.contents c.write_whole.new.writer)
    c.as_bytes.result.now (number_told c.args.number) (place_told c.args.place)
    c.in-Err.ensures.err)
