use Rattle.std.proofs.Common.{subst, ◌∙◌}
use Rattle.operations.specs.Written.{WritesBeginning}
use Rattle.operations.proofs.Beginnings.{whole_or_part}
use Rattle.service.proofs.telling.tell_fault.Goals as goal

pub returns : goal.returns
returns g c =
    subst (WritesBeginning (g.E.Write.contents c.args.errors.now)
    (g.E.Write.contents c.write_whole.new.writer)) (c.as_bytes.ensures.value ∙ c.fault_line.ensures)
    (whole_or_part c.write_whole.result (g.E.Write.contents c.args.errors.now)
    (g.E.Write.contents c.write_whole.new.writer) c.as_bytes.result.now c.write_whole.ensures.ok
    c.write_whole.ensures.err)
