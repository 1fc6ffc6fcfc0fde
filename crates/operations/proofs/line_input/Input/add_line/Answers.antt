use Rattle.operations.specs.Lines.{line_request}
use Rattle.operations.proofs.request_lines.Streams.{request_added, fault_added, line_counted}
use Rattle.operations.proofs.line_input.Input.add_line.Goals as goal

pub returns-in-Ok-clause-added : goal.returns-in-Ok-clause-added
returns-in-Ok-clause-added c =
    request_added c.add_request.result (line_request c.args.line.now) c.in-Ok.request
    c.args.self.now _ c.in-Ok.ensures c.add_request.ensures.requests c.add_request.ensures.lines

pub returns-in-Ok-clause-count : goal.returns-in-Ok-clause-count
returns-in-Ok-clause-count c =
    line_counted c.add_request.result _ c.args.self.now.lines.items
    c.add_request.new.self.lines.items c.add_request.ensures.lines

pub returns-in-Err-clause-added : goal.returns-in-Err-clause-added
returns-in-Err-clause-added c =
    fault_added c.add_fault.result (line_request c.args.line.now) c.in-Err.fault c.args.self.now _
    c.in-Err.ensures c.add_fault.ensures.own c.add_fault.ensures.requests c.add_fault.ensures.lines

pub returns-in-Err-clause-count : goal.returns-in-Err-clause-count
returns-in-Err-clause-count c =
    line_counted c.add_fault.result _ c.args.self.now.lines.items
    c.add_fault.new.self.lines.items c.add_fault.ensures.lines
