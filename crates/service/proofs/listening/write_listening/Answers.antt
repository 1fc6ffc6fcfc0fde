use Rattle.std.proofs.Common.{subst, ◌∙◌}
use Rattle.std.specs.Io.KnownBytes.{Appends}
use Rattle.keepers.proofs.Placed.{on_ok}
use Rattle.operations.specs.Written.{WritesBeginning}
use Rattle.operations.proofs.Beginnings.{on_err, some_written}
use Rattle.service.specs.ServingTold.{listening_line}
use Rattle.service.proofs.FaultLines.{written_kept}
use Rattle.service.proofs.listening.write_listening.Goals as goal

pub returns-in_err-write_whole-clause-err : goal.returns-in_err-write_whole-clause-err
returns-in_err-write_whole-clause-err g c =
    on_err c.from_residual-in_err-write_whole.result
    (subst (WritesBeginning (g.O.Write.contents c.args.output.now)
    (g.O.Write.contents c.write_whole.new.writer)) (c.as_bytes.ensures.value ∙ c.in_ok-line.ensures)
    (some_written (g.O.Write.contents c.args.output.now)
    (g.O.Write.contents c.write_whole.new.writer) c.as_bytes.result.now
    c.in_err-write_whole.ensures.err.0 c.in_err-write_whole.ensures.err.1))

pub returns-clause-ok : goal.returns-clause-ok
returns-clause-ok g c =
    on_ok c.map_err.result (written_kept (g.O.Write.contents c.args.output.now)
    (g.O.Write.contents c.write_whole.new.writer) (g.O.Write.contents c.flush.new.self)
    (listening_line c.args.port) (subst
    (Appends (g.O.Write.contents c.args.output.now) (g.O.Write.contents c.write_whole.new.writer))
    (c.as_bytes.ensures.value ∙ c.in_ok-line.ensures) c.in_ok-write_whole.ensures.ok)
    c.flush.ensures.bytes)
