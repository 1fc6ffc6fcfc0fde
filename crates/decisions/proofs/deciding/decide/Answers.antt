use Rattle.std.proofs.Common.{ap, sym, ◌∙◌, Some, None}
use Rattle.std.specs.Prelude.{if◌then◌else◌}
use Rattle.reserving.proofs.rows.Quiet.{calm_told}
use Rattle.decisions.specs.Decisions.{answer_of}
use Rattle.decisions.proofs.Staying.{stay_alone}
use Rattle.decisions.proofs.deciding.decide.Goals as goal

pub returns : goal.returns
returns c = record {
  decided =
      λ ledger left rows asked. record {
        answer = c.answer_to.ensures
            ∙ ap (answer_of c.args.request.now)
            (c.in_ok-ruling.ensures.ruled.follows ledger left asked rows).same;
        accepted = (c.in_ok-ruling.ensures.ruled.follows ledger left asked rows).acceptance;
        rows = (c.in_ok-ruling.ensures.ruled.follows ledger left asked rows).rows;
        charges = (c.in_ok-ruling.ensures.ruled.follows ledger left asked rows).written;
      };
  moment = c.in_ok-ruling.ensures.ruled.stands.moment;
  tariff = c.in_ok-ruling.ensures.tariff;
  refused =
      λ e. (
        c.in_ok-ruling.ensures.ruled.stands.same e,
        c.in_ok-ruling.ensures.ruled.stands.unwritten e,
      );
  own = (
    c.in_ok-own.ensures
        ∙ ap (λ q. if q then Some c.args.request.now.session else None) c.is_quiet.ensures,
    stay_alone c.in_ok-own.own c.args.request.now.session c.args.moment c.args.account.now
        c.decide_ask.new.account c.is_quiet.result c.in_ok-own.ensures
        (λ e. calm_told c.args.account.now c.args.moment (sym c.is_quiet.ensures ∙ e))
        c.in_ok-ruling.ensures.stay,
  );
}
