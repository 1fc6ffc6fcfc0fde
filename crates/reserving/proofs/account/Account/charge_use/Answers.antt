use Rattle.std.proofs.Common.{[]}
use Rattle.buckets.specs.Holding.{uncollected}
use Rattle.buckets.specs.Kinds.{due}
use Rattle.std.proofs.Common.{◌≤◌, ◌+◌, sym, ap, subst, ◌∙◌}
use Rattle.buckets.specs.Holding.{IsWithin}
use Rattle.ledger.specs.Pricing.{cycle_at}
use Rattle.reserving.specs.Rows.{AccountRows}
use Rattle.reserving.specs.Changes.{count_in, debited_account}
use Rattle.reserving.proofs.kept.Debited.{within_none}
use Rattle.reserving.proofs.calls.Debited.{debited_parts}
use Rattle.reserving.specs.Inside.{rows_inside}
use Rattle.reserving.specs.Placed.{IsPriced}
use Rattle.reserving.proofs.kept.Placed.{IsPriced-debited}
use Rattle.reserving.specs.Calm.{IsCalm}
use Rattle.reserving.proofs.rows.CalmEvents.{calm_debited}
use Rattle.reserving.proofs.account.Account.charge_use.Goals as goal

pub settle-charged-requires : goal.settle-charged-requires
settle-charged-requires c =
    subst (λ h. IsWithin h c.self.inside.rows.purse) (sym c.none-none_held.ensures)
    (within_none c.self.inside.rows.purse)

pub invariant_of-self : goal.invariant_of-self
invariant_of-self c =
    let a : AccountRows = rows_inside c.self.inside in
    let now : AccountRows = c.args.self.now in
    let is =
    debited_parts a c.args.session.now c.args.group c.args.cycle c.args.rated.units.0
    c.args.rated.blocks.0 (due c.args.rated.amount.0 c.args.rated.covered.0) c.none-none_held.result
    c.settle-charged.new.self c.count_blocks.new.counters.items c.count_units.new.groups.items
    (c.requires.cycle
    ∙ sym (ap (λ (x : AccountRows). cycle_at x.shelf c.args.group x.as_of) c.self.view_is))
    c.none-none_held.ensures c.settle-charged.ensures.rows c.count_blocks.ensures
    c.count_units.ensures
    ∙ ap (debited_account c.args.session.now c.args.group c.args.rated.units.0 c.args.rated.blocks.0
    (due c.args.rated.amount.0 c.args.rated.covered.0)) c.self.view_is in
    record {
      priced = subst IsPriced (sym is)
          (IsPriced-debited now c.args.session.now c.args.group c.args.rated.units.0
          c.args.rated.blocks.0 (due c.args.rated.amount.0 c.args.rated.covered.0) c.requires.used
          (subst (λ x.
          count_in c.args.group x now.counters + c.args.rated.blocks.0 ≤ 4000000000000000000)
          c.requires.cycle c.requires.counted) c.requires.charges
          (subst IsPriced c.self.view_is c.self.invariant.priced));
      calm = λ e. subst IsCalm (sym is)
          (calm_debited now c.args.session.now c.args.group c.args.rated.units.0
          c.args.rated.blocks.0 (due c.args.rated.amount.0 c.args.rated.covered.0)
          (subst IsCalm c.self.view_is (c.self.invariant.calm e)));
      quiet = tt;
    }

pub returns-clause-uncollected : goal.returns-clause-uncollected
returns-clause-uncollected c =
    c.settle-charged.ensures.uncollected
    ∙ ap (λ hs. uncollected hs c.args.group c.self.inside.rows.as_of c.args.rated.amount.0
    c.self.inside.rows.purse) c.none-none_held.ensures
    ∙ ap (λ (x : AccountRows). uncollected [] c.args.group x.as_of c.args.rated.amount.0 x.buckets)
    c.self.view_is
