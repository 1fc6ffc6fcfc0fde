use Rattle.std.proofs.Common.{ap}
use Rattle.tariffs.specs.OnceBook.{once_book}
use Rattle.operations.specs.Written.{WritesBeginning}
use Rattle.operations.specs.Once.{BeginsOnce}
use Rattle.ocs.proofs.EndLemmas.{fails_undone, fault_told, line_ends, once_ends, printed_done}
use Rattle.ocs.proofs.EndLemmas.{refused_begun}
use Rattle.ocs.proofs.run_said.Goals as goal

pub returns-in-Err-clause-told : goal.returns-in-Err-clause-told
returns-in-Err-clause-told g c =
    fault_told c.args.said (g.O.Write.contents c.args.output.now)
    (g.O.Write.contents c.do_said.new.output) c.in-Err.fault c.tell_fault.result
    (g.E.Write.contents c.args.errors.now) (g.E.Write.contents c.do_said.new.errors)
    (g.E.Write.contents c.tell_fault.new.errors)
    c.tell_fault.ensures.status c.in-Err.ensures.reached
    (λ silent. ap (g.O.Write.contents) (c.in-Err.ensures.silent silent))
    (ap (g.E.Write.contents) c.in-Err.ensures.untold) c.tell_fault.ensures.told

pub returns-in-Ok-clause-prints : goal.returns-in-Ok-clause-prints
returns-in-Ok-clause-prints g c = record {
  printed = λ done. c.in-Ok.ensures.printed;
  begun = line_ends c.args.said (g.O.Write.contents c.args.output.now)
      (g.O.Write.contents c.do_said.new.output) c.in-Ok.status
      (WritesBeginning (g.O.Write.contents c.args.output.now)
      (g.O.Write.contents c.do_said.new.output)) c.in-Ok.ensures.ended;
  answered = printed_done _ c.args.said (g.O.Write.contents c.args.output.now)
      (g.O.Write.contents c.do_said.new.output) c.in-Ok.status c.in-Ok.ensures.answered;
  started = refused_begun _ c.args.said (g.O.Write.contents c.args.output.now)
      (g.O.Write.contents c.do_said.new.output) c.in-Ok.status c.in-Ok.ensures.ended;
  done = λ done. c.in-Ok.ensures.done;
  fault = once_ends c.args.said (g.O.Write.contents c.args.output.now)
      (g.O.Write.contents c.do_said.new.output) c.in-Ok.status
      (λ once. BeginsOnce (once_book once.price once.block) once.credit
      (g.I.Read.remaining c.args.input.now) (g.O.Write.contents c.args.output.now)
      (g.O.Write.contents c.do_said.new.output)) c.in-Ok.ensures.ended;
}

pub returns-in-Err-clause-prints : goal.returns-in-Err-clause-prints
returns-in-Err-clause-prints g c = record {
  printed = λ done. absurd (fails_undone c.tell_fault.result c.tell_fault.ensures.status done);
  begun = λ failed. c.in-Err.ensures.begun;
  answered = λ done. absurd (fails_undone c.tell_fault.result c.tell_fault.ensures.status done);
  started = λ failed. c.in-Err.ensures.started;
  done = λ done. absurd (fails_undone c.tell_fault.result c.tell_fault.ensures.status done);
  fault = λ failed. c.in-Err.ensures.fault;
}
