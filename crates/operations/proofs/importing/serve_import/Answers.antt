use Rattle.std.proofs.Common.{rules, refl, subst, Err}
use Rattle.std.proofs.lemmas.Result.{err_from_is_err_and}
use Rattle.charging.specs.Promise.{Carries}
use Rattle.operations.proofs.ImportLemmas.{told_from, untold_from}
use Rattle.operations.proofs.KeeperFaults.{carried, carried-failed, fault_is}
use Rattle.operations.proofs.importing.serve_import.Goals as goal

pub returns-in_err-counts : goal.returns-in_err-counts
returns-in_err-counts g c =
    let old = g.K.Keeper.seen c.args.keeper.now in
    let new = g.K.Keeper.seen c.import.new.keeper in
    let p = err_from_is_err_and c.from_residual.result c.from_residual.ensures.1 in
    record {
      done = search rules;
      untold = search rules;
      unserved = search rules;
      prints = search rules;
      left = search rules;
      keeper = subst (Carries old new) (fault_is c.from_residual.result p.0 _ p.1 p.2)
          (carried-failed old new c.in_err-counts.ensures.cleanness c.in_err-counts.ensures.honesty
          (Err _) _ refl c.in_err-counts.ensures.cause);
    }

pub returns-in_err-write_counts : goal.returns-in_err-write_counts
returns-in_err-write_counts g c =
    let old = g.K.Keeper.seen c.args.keeper.now in
    let new = g.K.Keeper.seen c.import.new.keeper in
    let p = err_from_is_err_and c.from_residual-in_err-write_counts.result
    c.from_residual-in_err-write_counts.ensures.1 in
    record {
      done = search rules;
      untold = λ fault is clean. untold_from c.args.shelf.now _ old.tables new.tables _ _ _ _
          (c.in_ok-counts.ensures.imported clean) refl c.in_err-write_counts.ensures.err;
      unserved = search rules;
      prints = search rules;
      left = search rules;
      keeper = subst (Carries old new)
          (fault_is c.from_residual-in_err-write_counts.result p.0 _ p.1 p.2)
          (carried old new c.in_ok-counts.ensures.cleanness c.in_ok-counts.ensures.honesty
          c.in_ok-counts.ensures.stands c.in_ok-counts.ensures.cause.kept);
    }

pub returns : goal.returns
returns g c = record {
  done = λ clean. told_from _ _ _ _ _ _ _ _ (c.in_ok-counts.ensures.imported clean) refl
      c.in_ok-write_counts.ensures.written;
  untold = search rules;
  unserved = search rules;
  prints = search rules;
  left = search rules;
  keeper = carried (g.K.Keeper.seen c.args.keeper.now) (g.K.Keeper.seen c.import.new.keeper)
      c.in_ok-counts.ensures.cleanness c.in_ok-counts.ensures.honesty
      c.in_ok-counts.ensures.stands c.in_ok-counts.ensures.cause.kept;
}
