use Rattle.std.proofs.Common.{refl, sym, ap, ◌∙◌}
use Rattle.commands.specs.declared.request.EventAction.TheVariants.{CheckBalance, PriceEnquiry}
use Rattle.decisions.specs.Decisions.{answer_of}
use Rattle.decisions.proofs.Reading.{answered_by, read_by}
use Rattle.decisions.proofs.deciding.read.Goals as goal
use Rattle.decisions.proofs.deciding.read.Goals.{in-CheckBalance, in-PriceEnquiry}

pub returns : goal.returns
returns c = record {
  answer = λ ledger left rows. c.answer_to.ensures ∙ ap (answer_of c.args.request.now)
      (elim c.match-event.branch [
        | in-CheckBalance w ↦ w.outcome-is ∙ w.checked-outcome.ensures ledger left rows
            ∙ sym (answered_by c.args.account.now.shelf c.args.moment c.args.request.now
            c.in-Event.event CheckBalance ledger c.in-Event.is w.in-CheckBalance.is)
        | in-PriceEnquiry w ↦ w.outcome-is ∙ w.priced-outcome.ensures ledger left rows
            ∙ sym (answered_by c.args.account.now.shelf c.args.moment c.args.request.now
            c.in-Event.event PriceEnquiry ledger c.in-Event.is w.in-PriceEnquiry.is)
      ]);
  read = elim c.match-event.branch [
    | in-CheckBalance w ↦ read_by c.args.request.now c.in-Event.event CheckBalance c.in-Event.is
        w.in-CheckBalance.is refl
    | in-PriceEnquiry w ↦ read_by c.args.request.now c.in-Event.event PriceEnquiry c.in-Event.is
        w.in-PriceEnquiry.is refl
  ];
}
