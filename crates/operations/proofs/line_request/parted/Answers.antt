use Rattle.std.proofs.Common.{subst}
use Rattle.operator.specs.Lines.{IsDated}
use Rattle.operations.proofs.request_lines.Parts.{unread, dated}
use Rattle.operations.proofs.line_request.parted.Goals as goal

pub returns-in_default-clause-moment : goal.returns-in_default-clause-moment
returns-in_default-clause-moment c = unread c.args.line.now c.in_default.ensures.cases.0

pub returns-clause-moment : goal.returns-clause-moment
returns-clause-moment c = dated c.args.line.now c.dated_line.result c.in-Ok.ensures.cases.1
    (subst (λ l. IsDated l c.dated_line.result) c.in-Ok.ensures.cases.0 c.dated_line.ensures)
