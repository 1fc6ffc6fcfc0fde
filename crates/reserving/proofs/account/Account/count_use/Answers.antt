use Rattle.std.proofs.Common.{◌≡◌, [], sym, ap, ◌∙◌, refl}
use Rattle.ledger.specs.Settlement.{passes_after}
use Rattle.reserving.specs.Uses.{charged_more}
use Rattle.reserving.proofs.Lists.{is_nothing, is_something}
use Rattle.reserving.proofs.LeftReadings.{passes_after_told}
use Rattle.reserving.proofs.calls.Limits.{passes_in_some, passes_in_none}
use Rattle.reserving.proofs.account.Account.count_use.Goals as goal

pub returns-then-is_empty : goal.returns-then-is_empty
returns-then-is_empty c =
    let none : c.args.parts.now ≡ [] =
    is_nothing c.args.parts.now (sym c.is_empty.ensures ∙ c.if-is_empty.true) in
    record {
      counted = none;
      limit = tt;
      rows =
          sym (passes_in_none c.args.session.now c.args.group c.args.moment c.args.parts.now
          (charged_more c.args.charges c.args.self.now) none);
      left = λ ledger left h le live.
          ap (λ ps. passes_after c.args.charges c.args.self.now.shelf c.args.moment
          c.args.session.now c.args.group ps ledger) (sym none);
    }

pub returns-in_default : goal.returns-in_default
returns-in_default c =
    let some = is_something c.args.parts.now (sym c.is_empty.ensures ∙ c.if-is_empty.false) in
    let passes = c.count_within.ensures.none c.in_default.is in
    record {
      counted = tt;
      limit = refl;
      rows =
          sym (passes_in_some c.args.session.now c.args.group c.args.moment c.args.parts.now
          (charged_more c.args.charges c.args.self.now) some ∙ passes);
      left = λ ledger left h le live.
          sym (passes_after_told c.args.charges ledger left c.args.moment c.args.self.now
          c.args.session.now c.args.group c.args.parts.now le h live some ∙ passes);
    }

pub returns : goal.returns
returns c =
    let some = is_something c.args.parts.now (sym c.is_empty.ensures ∙ c.if-is_empty.false) in
    let limits = passes_in_some c.args.session.now c.args.group c.args.moment c.args.parts.now
    (charged_more c.args.charges c.args.self.now) some ∙ c.in-Some.ensures.some in
    record {
      counted = record { some = some; counted = c.in-Some.ensures.counted; within = limits };
      limit = tt;
      rows = sym limits;
      left = λ ledger left h le live.
          sym (passes_after_told c.args.charges ledger left c.args.moment c.args.self.now
          c.args.session.now c.args.group c.args.parts.now le h live some
          ∙ c.in-Some.ensures.some);
    }
