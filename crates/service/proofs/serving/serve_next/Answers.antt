use Rattle.std.proofs.Common.{rules}
use Rattle.service.proofs.FaultLines.{faults_one}
use Rattle.service.proofs.serving.serve_next.Goals as goal

pub returns-in-Err : goal.returns-in-Err
returns-in-Err g c = record {
  told = faults_one c.in-Err.fault (g.E.Write.contents c.args.errors.now)
      (g.E.Write.contents c.tell_fault.new.errors) c.tell_fault.ensures;
  bounded = search rules;
  continued = search rules;
  cleanness = search rules;
  honesty = search rules;
  left = search rules;
  failures = search rules;
}
