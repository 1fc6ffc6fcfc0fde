use Rattle.std.proofs.Common.{rules}
use Rattle.reserving.specs.declared.session.SessionState.TheVariants.{NeverOpened}
use Rattle.reserving.proofs.rows.Others.{stays_recorded}
use Rattle.decisions.proofs.denying.deny.Goals as goal

pub returns : goal.returns
returns c = record {
  ruled = search rules;
  stay =
      stays_recorded c.args.asked.now.session.now c.args.asked.now.number c.args.asked.now.moment
      NeverOpened c.args.account.now c.deny.new.self c.in_ok-deny.ensures.rows;
  tariff = search rules;
}
