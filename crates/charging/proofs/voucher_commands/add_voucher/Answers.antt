use Rattle.std.proofs.Common.{◌≡◌, ◌∙◌, ap, refl, sym, rules}
use Rattle.commands.specs.declared.answer.Answer.TheVariants as answer
use Rattle.commands.specs.declared.command.Command.TheVariants as command
use Rattle.voucher_rules.specs.Adding.{addition}
use Rattle.shelves.specs.Shelves.{Shelf}
use Rattle.keepers.specs.Change.{with_voucher}
use Rattle.keepers.specs.Tables.{Tables}
use Rattle.charging.specs.Stepping.{Answers, is_unaccepted}
use Rattle.charging.proofs.outcomes.Serving.{left_as, served-as}
use Rattle.charging.proofs.outcomes.Vouchered.{add-told, add-done}
use Rattle.charging.proofs.outcomes.Refused.{not_told}
use Rattle.charging.proofs.voucher_commands.add_voucher.Goals as goal
use Rattle.charging.proofs.voucher_commands.add_voucher.Goals.{After-add_voucher}

-- what is put is what the command comes to
done : (g : _) (c : After-add_voucher g) (t : Tables) →
    (g.K.Keeper.seen c.find_voucher.new.self).clean →
    t ≡ with_voucher c.args.addition.code c.args.addition.terms c.args.moment
    (g.K.Keeper.seen c.find_voucher.new.self).tables → (b : Shelf) →
    Answers b (command.AddVoucher c.args.addition) c.args.moment
    (g.K.Keeper.seen c.args.keeper.now).tables t answer.Done
done g c t clean_find made = λ b list time is le.
    let v = c.args.addition in
    add-done b list v c.args.moment (g.K.Keeper.seen c.args.keeper.now).tables t time le is
    c.add.result
    (ap (λ o. addition o v.terms) (sym (c.in_ok-found.ensures.found clean_find))
    ∙ sym c.add.ensures.value) c.in-New.field-0 c.in-New.is
    (made ∙ ap (with_voucher v.code v.terms c.args.moment) (c.in_ok-found.ensures.same clean_find))

pub returns-in_ok-add_voucher-in-New : goal.returns-in_ok-add_voucher-in-New
returns-in_ok-add_voucher-in-New g c =
    let at = (goal.at.returns-in_ok-add_voucher-in-New g c).After-add_voucher in
    record {
      served = λ clean b given list time is le.
          served-as b list (command.AddVoucher c.args.addition) c.args.moment
          (g.K.Keeper.seen c.args.keeper.now).tables (g.K.Keeper.seen c.add_voucher.new.self).tables
          c.in_ok-done.done answer.Done c.in_ok-done.ensures
          (done g at (g.K.Keeper.seen c.add_voucher.new.self).tables
          (c.add_voucher.ensures.kept.cleanness clean)
          (c.in_ok-add_voucher-in-New.ensures.done clean) b list time is le);
      refused = λ clean e. not_told _ (sym (ap is_unaccepted c.in_ok-done.ensures) ∙ e);
      kept = search rules;
      left = λ honest t l.
          let honest_find = c.add_voucher.ensures.kept.honesty honest in
          left_as (c.add_voucher.ensures.kept.left honest t l)
          (c.in_ok-found.ensures.left honest_find t)
          (λ made b given list time is le.
          (done g at t (c.in_ok-found.ensures.stands honest_find) made b list time is le).tables);
    }

pub returns-in_err-add_voucher-in-New : goal.returns-in_err-add_voucher-in-New
returns-in_err-add_voucher-in-New g c =
    let at = (goal.at.returns-in_err-add_voucher-in-New g c).After-add_voucher in
    record {
      served = search rules;
      refused = search rules;
      kept = search rules;
      left = λ honest t l.
          let honest_find = c.add_voucher.ensures.kept.honesty honest in
          left_as (c.add_voucher.ensures.kept.left honest t l)
          (c.in_ok-found.ensures.left honest_find t)
          (λ made b given list time is le.
          (done g at t (c.in_ok-found.ensures.stands honest_find) made b list time is le).tables);
    }

pub returns-in-Present : goal.returns-in-Present
returns-in-Present g c = record {
  served = λ clean b given list time is le.
      let v = c.args.addition in
      let present = ap (λ o. addition o v.terms) (sym (c.in_ok-found.ensures.found clean))
      ∙ sym c.add.ensures.value ∙ c.in-Present.is in
      served-as b list (command.AddVoucher c.args.addition) c.args.moment
      (g.K.Keeper.seen c.args.keeper.now).tables (g.K.Keeper.seen c.find_voucher.new.self).tables
      c.in_ok-done.done _ c.in_ok-done.ensures
      (add-told b list v c.args.moment (g.K.Keeper.seen c.args.keeper.now).tables
      (g.K.Keeper.seen c.find_voucher.new.self).tables time le is _ present _ refl refl
      (c.in_ok-found.ensures.same clean));
  refused = λ clean e. c.in_ok-found.ensures.same clean;
  kept = search rules;
  left = search rules;
}

pub returns-in_ok-refuse-in-Conflicting : goal.returns-in_ok-refuse-in-Conflicting
returns-in_ok-refuse-in-Conflicting g c = record {
  served = λ clean b given list time is le.
      let v = c.args.addition in
      let conflicting = ap (λ o. addition o v.terms) (sym (c.in_ok-found.ensures.found clean))
      ∙ sym c.add.ensures.value ∙ c.in-Conflicting.is in
      served-as b list (command.AddVoucher c.args.addition) c.args.moment
      (g.K.Keeper.seen c.args.keeper.now).tables (g.K.Keeper.seen c.find_voucher.new.self).tables
      c.in_ok-refuse-in-Conflicting.field-0 _ c.in_ok-refuse-in-Conflicting.ensures
      (add-told b list v c.args.moment (g.K.Keeper.seen c.args.keeper.now).tables
      (g.K.Keeper.seen c.find_voucher.new.self).tables time le is _ conflicting _ refl refl
      (c.in_ok-found.ensures.same clean));
  refused = λ clean e. c.in_ok-found.ensures.same clean;
  kept = search rules;
  left = search rules;
}
