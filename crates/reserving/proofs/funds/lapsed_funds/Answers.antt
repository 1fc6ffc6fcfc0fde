use Rattle.std.proofs.Common.{◌<◌, ◌^◌, length, sym, ◌∙◌, arith}
use Rattle.reserving.specs.Sessions.{is_live_in}
use Rattle.reserving.proofs.rows.LapsedFunds.{lapsed_funds-most, lapsed_funds-none}
use Rattle.ledger.specs.Pricing.{validity_of}
use Rattle.reserving.proofs.funds.lapsed_funds.Goals as goal

pub loop-row-init : goal.loop-row-init
loop-row-init c =
    let short : length c.args.buckets.now < 2 ^ 64 = omega arith in
    record {
      total = omega arith;
      most =
          lapsed_funds-most (is_live_in (validity_of c.args.shelf.now) c.args.at
          c.args.sessions.now) c.args.kind
          c.args.group
          c.args.at c.args.groups.now c.args.buckets.now short c.requires.sound c.requires.held;
    }

pub returns-then-not-any_eligible-clause-value : goal.returns-then-not-any_eligible-clause-value
returns-then-not-any_eligible-clause-value c =
    sym (lapsed_funds-none (is_live_in (validity_of c.args.shelf.now) c.args.at
    c.args.sessions.now) c.args.kind c.args.group c.args.at c.args.groups.now c.args.buckets.now
    (sym c.any_eligible.ensures ∙ c.if-not-any_eligible.true))
