use Rattle.std.proofs.Common.{◌++◌, ◌∷◌, [], subst}
use Rattle.operations.specs.Written.{WritesBeginning}
use Rattle.operations.proofs.Beginnings.{beginning_after, part_told}
use Rattle.operations.proofs.telling.tell_line.Goals as goal

pub returns-in-Ok : goal.returns-in-Ok
returns-in-Ok g c =
    subst (λ line. WritesBeginning (g.E.Write.contents c.args.errors.now)
    (g.E.Write.contents c.end_line.new.errors) (line ++ 10 ∷ [])) c.as_bytes.ensures.value
    (beginning_after (g.E.Write.contents c.args.errors.now)
    (g.E.Write.contents c.write_whole.new.writer) (g.E.Write.contents c.end_line.new.errors)
    c.as_bytes.result.now (10 ∷ []) c.in-Ok.ensures.ok c.end_line.ensures)

pub returns-in-Err : goal.returns-in-Err
returns-in-Err g c =
    subst (λ line. WritesBeginning (g.E.Write.contents c.args.errors.now)
    (g.E.Write.contents c.write_whole.new.writer) (line ++ 10 ∷ [])) c.as_bytes.ensures.value
    (part_told (g.E.Write.contents c.args.errors.now) (g.E.Write.contents c.write_whole.new.writer)
    c.as_bytes.result.now (10 ∷ []) c.in-Err.ensures.err)
