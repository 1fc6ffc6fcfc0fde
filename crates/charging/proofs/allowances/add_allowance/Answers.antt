use Rattle.std.proofs.Common.{◌≡◌, true, false, sym, ap, ◌∙◌}
use Rattle.shelves.specs.Shelves.{Shelf, book_at}
use Rattle.decisions.specs.Services.{is_known}
use Rattle.charging.specs.OutcomeParts.{is_over}
use Rattle.charging.proofs.outcomes.Allowing.{allows_full, allows_known, allows_unknown}
use Rattle.charging.proofs.allowances.add_allowance.Goals as goal

pub returns-in_default-clause-allows : goal.returns-in_default-clause-allows
returns-in_default-clause-allows c =
    let over : is_over c.args.allowance.now c.args.moment ≡ false =
    sym c.is_over.ensures ∙ c.if-is_over.false in
    allows_full c.args.account.now.shelf c.args.allowance.now c.args.moment
    c.from_at-from.result c.end-until.result c.args.account.now c.make_allowance.new.account
    c.from_at-from.ensures c.end-until.ensures over c.in_ok-made.made
    c.in_ok-made.ensures.makes c.in_default.is

pub returns-then-is_known-clause-allows : goal.returns-then-is_known-clause-allows
returns-then-is_known-clause-allows c =
    let over : is_over c.args.allowance.now c.args.moment ≡ false =
    sym c.is_over.ensures ∙ c.if-is_over.false in
    let known : is_known (book_at c.args.account.now.shelf c.args.moment)
    c.args.allowance.now.scope ≡ true =
    sym (c.is_known.ensures
    ∙ ap (λ (s : Shelf). is_known (book_at s c.args.moment) c.args.allowance.now.scope)
    c.in_ok-made.ensures.tariff) ∙ c.if-is_known.true in
    allows_known c.args.account.now.shelf c.args.allowance.now c.args.moment
    c.from_at-from.result c.end-until.result c.args.account.now c.make_allowance.new.account
    c.from_at-from.ensures c.end-until.ensures over c.in_ok-made.made
    c.in_ok-made.ensures.makes c.in-Some.number c.in-Some.is known

pub returns-else-is_known-clause-allows : goal.returns-else-is_known-clause-allows
returns-else-is_known-clause-allows c =
    let over : is_over c.args.allowance.now c.args.moment ≡ false =
    sym c.is_over.ensures ∙ c.if-is_over.false in
    let unknown : is_known (book_at c.args.account.now.shelf c.args.moment)
    c.args.allowance.now.scope ≡ false =
    sym (c.is_known.ensures
    ∙ ap (λ (s : Shelf). is_known (book_at s c.args.moment) c.args.allowance.now.scope)
    c.in_ok-made.ensures.tariff) ∙ c.if-is_known.false in
    allows_unknown c.args.account.now.shelf c.args.allowance.now c.args.moment
    c.from_at-from.result c.end-until.result c.args.account.now c.make_allowance.new.account
    c.from_at-from.ensures c.end-until.ensures over c.in_ok-made.made
    c.in_ok-made.ensures.makes c.in-Some.number c.in-Some.is unknown
