use Rattle.std.proofs.Common.{map, drop}
use Rattle.operations.specs.LineInput.{kept_fault}
use Rattle.operations.specs.LinesServed.{answer_texts}
use Rattle.operations.proofs.request_lines.SoFar.{IsWrittenSoFar}
use Rattle.operations.proofs.line_output.write_output.Given as goal

-- what is written so far, with the texts of the lines that are left, is the whole text
abbrev pub invariant-loop-line : goal.invariant-loop-line
invariant-loop-line g l =
    IsWrittenSoFar (answer_texts (map kept_fault l.lines) l.answers)
    (answer_texts (map kept_fault (drop l.line-index l.lines)) (drop l.next l.answers))
    (g.W.Write.contents l.fn.writer) (g.W.Write.contents l.writer)
