use Rattle.std.proofs.Common.{subst}
use Rattle.std.specs.Io.KnownBytes.{Appends}
use Rattle.operations.specs.CivilClock.{clock_text}
use Rattle.operations.specs.Written.{WritesBeginning}
use Rattle.operations.proofs.Beginnings.{on_err}
use Rattle.service.proofs.civil_clock.write_clock.Goals as goal

pub returns-clause-shown : goal.returns-clause-shown
returns-clause-shown g c =
    subst (λ l. Appends (g.O.Write.contents c.args.output.now)
    (g.O.Write.contents c.serve_clock.new.writer) (clock_text c.args.shelf.now l))
    c.as_slice-moments.ensures.value c.in_ok-serve_clock.ensures.written

pub returns-in_err-serve_clock-clause-begun : goal.returns-in_err-serve_clock-clause-begun
returns-in_err-serve_clock-clause-begun g c =
    on_err c.from_residual.result
    (subst (λ l. WritesBeginning (g.O.Write.contents c.args.output.now)
    (g.O.Write.contents c.serve_clock.new.writer) (clock_text c.args.shelf.now l))
    c.as_slice-moments.ensures.value c.in_err-serve_clock.ensures.err)
