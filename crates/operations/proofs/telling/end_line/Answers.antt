use Rattle.std.proofs.Common.{◌∷◌, []}
use Rattle.operations.proofs.Beginnings.{whole_or_part}
use Rattle.operations.proofs.telling.end_line.Goals as goal

pub returns : goal.returns
returns g c = whole_or_part c.write_whole.result
    (g.E.Write.contents c.args.errors.now) (g.E.Write.contents c.write_whole.new.writer)
    (10 ∷ []) c.write_whole.ensures.ok c.write_whole.ensures.err
