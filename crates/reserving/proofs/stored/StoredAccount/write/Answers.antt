use Rattle.std.proofs.Common.{sym, ap, subst, ◌∙◌}
use Rattle.reserving.specs.Restored.{given}
use Rattle.reserving.specs.Stored.{IsStoredInOrder}
use Rattle.reserving.specs.Written.{rows_written}
use Rattle.reserving.proofs.Bound.{IsBound}
use Rattle.reserving.proofs.WrittenOver.{on_err}
use Rattle.reserving.proofs.stored.StoredAccount.write.Goals as goal

pub is_bound-bound-requires-clause-order : goal.is_bound-bound-requires-clause-order
is_bound-bound-requires-clause-order c =
    (subst IsStoredInOrder
    (sym (c.in_ok-write.ensures.ok ∙ ap (rows_written (given c.args.rows)) c.self.view_is))
    c.requires).keys.by_name

pub is_bound-bound-requires-clause-bound : goal.is_bound-bound-requires-clause-bound
is_bound-bound-requires-clause-bound c = λ stays.
    subst IsBound
    (sym (c.in_ok-write.ensures.ok ∙ ap (rows_written (given c.args.rows)) c.self.view_is))
    (c.stays_bound-stays.ensures stays)

pub invariant_of-self : goal.invariant_of-self
invariant_of-self c = record {
  rows = subst IsStoredInOrder (sym c.in_err-write.ensures.err) c.self.invariant.rows;
  bound = λ e. subst IsBound (sym c.in_err-write.ensures.err) (c.self.invariant.bound e);
}

pub invariant_of-self-2 : goal.invariant_of-self-2
invariant_of-self-2 c =
    let is = c.in_ok-write.ensures.ok ∙ ap (rows_written (given c.args.rows)) c.self.view_is in
    record {
      rows = subst IsStoredInOrder (sym is) c.requires;
      bound = λ e. sym c.is_bound-bound.ensures ∙ e;
    }

pub returns-clause-ok : goal.returns-clause-ok
returns-clause-ok c =
    c.in_ok-write.ensures.ok ∙ ap (rows_written (given c.args.rows)) c.self.view_is

pub returns-in_err-write-clause-err : goal.returns-in_err-write-clause-err
returns-in_err-write-clause-err c =
    on_err c.from_residual.result (c.in_err-write.ensures.err ∙ c.self.view_is)
