use Rattle.std.proofs.Common.{◌++◌, ◌∷◌, [], subst, ◌∙◌}
use Rattle.operations.specs.Told.{place_told}
use Rattle.operations.specs.Written.{WritesBeginning}
use Rattle.operations.proofs.Beginnings.{beginning_after, part_told}
use Rattle.operations.proofs.telling.tell_digits.Goals as goal

pub returns-in-Ok : goal.returns-in-Ok
returns-in-Ok g c =
    subst (λ text. WritesBeginning (g.E.Write.contents c.args.errors.now)
    (g.E.Write.contents c.tell_place.new.errors) (text ++ (place_told c.args.place ++ 10 ∷ [])))
    (c.as_bytes.ensures.value ∙ c.format-text.ensures.text)
    (beginning_after (g.E.Write.contents c.args.errors.now)
    (g.E.Write.contents c.write_whole.new.writer) (g.E.Write.contents c.tell_place.new.errors)
    c.as_bytes.result.now (place_told c.args.place ++ 10 ∷ []) c.in-Ok.ensures.ok
    c.tell_place.ensures)

pub returns-in-Err : goal.returns-in-Err
returns-in-Err g c =
    subst (λ text. WritesBeginning (g.E.Write.contents c.args.errors.now)
    (g.E.Write.contents c.write_whole.new.writer) (text ++ (place_told c.args.place ++ 10 ∷ [])))
    (c.as_bytes.ensures.value ∙ c.format-text.ensures.text)
    (part_told (g.E.Write.contents c.args.errors.now) (g.E.Write.contents c.write_whole.new.writer)
    c.as_bytes.result.now (place_told c.args.place ++ 10 ∷ []) c.in-Err.ensures.err)
