use Rattle.std.proofs.Common.{◌≡◌, ◌++◌, List, ℕ, ap, arith, subst, sym}
use Rattle.std.proofs.lemmas.Fmt.{decimal_digit}
use Rattle.std.specs.Prelude.{codes, OnErr, OnOk}
use Rattle.std.specs.Io.KnownBytes.{Appends}
use Rattle.operations.specs.Written.{WritesBeginning}
use Rattle.ocs.specs.Told.{version_line}
use Rattle.ocs.proofs.making.answer_migrate.Goals as goal

-- the text that is printed is the latest version's line
latest_line : codes "version 3\n" ≡ version_line
latest_line = sym (ap (λ (digits : List ℕ). codes "version " ++ (digits ++ codes "\n"))
    (decimal_digit 3 (omega arith)))

pub returns-clause-done : goal.returns-clause-done
returns-clause-done g c =
    subst (λ (line : List ℕ). OnOk c.print_done.result
    (Appends (g.O.Write.contents c.args.output.now) (g.O.Write.contents c.print_done.new.output)
    line)) latest_line c.print_done.ensures.done

pub returns-clause-begun : goal.returns-clause-begun
returns-clause-begun g c =
    subst (λ (line : List ℕ). OnErr c.print_done.result
    (WritesBeginning (g.O.Write.contents c.args.output.now)
    (g.O.Write.contents c.print_done.new.output) line)) latest_line c.print_done.ensures.begun
