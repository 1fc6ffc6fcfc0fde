use Rattle.std.proofs.Common.{rules, refl, subst, Err, Option}
use Rattle.std.proofs.lemmas.Result.{err_from_is_err_and}
use Rattle.std.specs.Prelude.{IfNone}
use Rattle.keepers.specs.declared.fault.StoreFault.{StoreFault}
use Rattle.charging.specs.Promise.{Carries}
use Rattle.operations.proofs.CarriedLemmas.{done_from, left_from, untold_from}
use Rattle.operations.proofs.KeeperFaults.{carried, carried-failed, fault_is}
use Rattle.operations.proofs.serving.serve_office.Goals as goal

pub returns-in_err-answer : goal.returns-in_err-answer
returns-in_err-answer g c =
    let old = g.K.Keeper.seen c.args.keeper.now in
    let new = g.K.Keeper.seen c.step.new.keeper in
    let p = err_from_is_err_and c.from_residual.result c.from_residual.ensures.1 in
    let same = fault_is c.from_residual.result p.0 _ p.1 p.2 in
    record {
      done = search rules;
      untold = search rules;
      unserved = search rules;
      prints = search rules;
      left = left_from c.args.shelf.now _ _ c.args.moment old new c.step.ensures.left
          c.into_command-command.ensures;
      keeper = subst (Carries old new) same
          (carried-failed old new c.in_err-answer.ensures.kept.cleanness
          c.in_err-answer.ensures.kept.honesty (Err _) _ refl c.in_err-answer.ensures.kept.cause);
      stands = λ honest. subst (λ (f : Option StoreFault). IfNone f new.clean) same tt;
    }

pub returns-in_err-write_answer_line : goal.returns-in_err-write_answer_line
returns-in_err-write_answer_line g c =
    let old = g.K.Keeper.seen c.args.keeper.now in
    let new = g.K.Keeper.seen c.step.new.keeper in
    let p = err_from_is_err_and c.from_residual-in_err-write_answer_line.result
    c.from_residual-in_err-write_answer_line.ensures.1 in
    let same = fault_is c.from_residual-in_err-write_answer_line.result p.0 _ p.1 p.2 in
    record {
      done = search rules;
      untold = λ fault is clean.
          untold_from _ _ _ _ _ _ _ _ _ _ (c.in_ok-answer.ensures.served clean) refl
          c.into_command-command.ensures c.in_err-write_answer_line.ensures.err;
      unserved = search rules;
      prints = search rules;
      left = left_from c.args.shelf.now _ _ c.args.moment old new c.step.ensures.left
          c.into_command-command.ensures;
      keeper = subst (Carries old new) same
          (carried old new c.in_ok-answer.ensures.kept.cleanness
          c.in_ok-answer.ensures.kept.honesty
          (λ honest clean. c.in_ok-answer.ensures.stands honest)
          c.in_ok-answer.ensures.kept.cause.kept);
      stands = λ honest. subst (λ (f : Option StoreFault). IfNone f new.clean) same
          (c.in_ok-answer.ensures.stands honest);
    }

pub returns : goal.returns
returns g c =
    let old = g.K.Keeper.seen c.args.keeper.now in
    let new = g.K.Keeper.seen c.step.new.keeper in
    record {
      done = λ clean. done_from _ _ _ _ _ _ _ _ _ _ _ (c.in_ok-answer.ensures.served clean) refl
          c.into_command-command.ensures c.ends_as.ensures c.in_ok-write_answer_line.ensures.written;
      untold = search rules;
      unserved = search rules;
      prints = record {
        printed = record {
          answer = c.in_ok-answer.answer;
          is = c.ends_as.ensures;
          printed = c.in_ok-write_answer_line.ensures.written;
        };
        unwritten = search rules;
        fault = search rules;
      };
      left = left_from c.args.shelf.now _ _ c.args.moment old new c.step.ensures.left
          c.into_command-command.ensures;
      keeper = carried old new c.in_ok-answer.ensures.kept.cleanness
          c.in_ok-answer.ensures.kept.honesty
          (λ honest clean. c.in_ok-answer.ensures.stands honest)
          c.in_ok-answer.ensures.kept.cause.kept;
      stands = c.in_ok-answer.ensures.stands;
    }
