use Rattle.std.proofs.Common.{◌++◌, ◌∷◌, [], subst}
use Rattle.operations.specs.Written.{WritesBeginning}
use Rattle.operations.proofs.telling.tell_last.Goals as goal

pub returns : goal.returns
returns g c = subst (λ text. WritesBeginning (g.E.Write.contents c.args.errors.now)
    (g.E.Write.contents c.tell_line.new.errors) (text ++ 10 ∷ []))
    c.format-text.ensures.text c.tell_line.ensures
