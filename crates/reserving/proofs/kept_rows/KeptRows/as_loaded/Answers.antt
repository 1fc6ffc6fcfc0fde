use Rattle.std.proofs.Common.{sym, ◌∙◌}
use Rattle.reserving.specs.Inside.{stored_of}
use Rattle.reserving.specs.Stored.{priced}
use Rattle.reserving.proofs.Lists.{not_both}
use Rattle.reserving.proofs.rows.Quiet.{calm_told, at_told}
use Rattle.reserving.proofs.kept_rows.KeptRows.as_loaded.Goals as goal

pub is_quiet-quiet-requires-clause-order : goal.is_quiet-quiet-requires-clause-order
is_quiet-quiet-requires-clause-order c = c.requires.priced.order.by_name

pub is_quiet-quiet-requires-clause-bound : goal.is_quiet-quiet-requires-clause-bound
is_quiet-quiet-requires-clause-bound c = c.requires.bound

pub invariant_of-result : goal.invariant_of-result
invariant_of-result c = record {
  priced = c.requires.priced;
  calm = λ e. absurd (not_both e);
  quiet = at_told _ _ _ _ c.quiet_if.ensures (λ e.
      calm_told (priced c.args.shelf.now (stored_of c.args.self)) c.args.moment
      (sym c.is_quiet-quiet.ensures ∙ e));
}
