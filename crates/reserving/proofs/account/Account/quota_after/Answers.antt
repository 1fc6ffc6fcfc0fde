use Rattle.std.proofs.Common.{◌+◌, ◌-◌}
use Rattle.buckets.specs.Spend.{allowance}
use Rattle.std.proofs.Common.{◌≤◌, ℕ, ap, subst, ◌∙◌}
use Rattle.std.specs.Prelude.{option_map, IfSome, IfNone}
use Rattle.units.specs.declared.blocks.Units.{Units}
use Rattle.units.specs.Blocks.{started}
use Rattle.tariffs.specs.GroupPrices.{GroupPrices}
use Rattle.tariffs.specs.BookPrices.{ArePricesOf}
use Rattle.tariffs.specs.Books.{Book}
use Rattle.rating.specs.declared.grant.Grant.{Grant}
use Rattle.rating.specs.Granted.{IsGreatest, grant_of}
use Rattle.buckets.specs.Spend.{funds}
use Rattle.shelves.specs.Shelves.{book_at}
use Rattle.ledger.specs.Pricing.{cycle_at, wanted_units}
use Rattle.reserving.specs.Changes.{advanced, count_in}
use Rattle.reserving.specs.Rows.{AccountRows}
use Rattle.reserving.proofs.ReservedCall.{no_tariff, quota_none, quota_by}
use Rattle.reserving.proofs.account.Account.quota_after.Goals as goal

pub returns-in_default : goal.returns-in_default
returns-in_default c =
    let none : (q : GroupPrices) → ArePricesOf (book_at c.args.self.now.shelf c.args.moment)
    c.args.group
    c.args.periods.before.0 c.args.periods.after.0 q → ⊥ =
    subst (λ (b : Book). (q : GroupPrices) → ArePricesOf b c.args.group
    c.args.periods.before.0 c.args.periods.after.0 q → ⊥) (c.book_at.ensures.value
    ∙ ap (λ (a : AccountRows). book_at a.shelf c.args.moment) c.self.view_is)
    (subst (λ o. IfNone o ((q : GroupPrices) → ArePricesOf c.book_at.result.now c.args.group
    c.args.periods.before.0 c.args.periods.after.0 q → ⊥)) c.in_default.is
    c.prices.ensures.none) in
    quota_none (book_at c.args.self.now.shelf c.args.moment) c.args.used c.args.group
    (option_map (λ (u : Units). u.0) c.args.requested) c.args.periods
    (count_in c.args.group (cycle_at c.args.self.now.shelf c.args.group c.args.moment)
    c.args.self.now.counters)
    (funds c.args.group c.args.moment (advanced c.args.moment c.args.self.now).buckets)
    (allowance c.args.group c.args.moment (advanced c.args.moment c.args.self.now).buckets)
    c.none.result.wanted c.none.result.grant
    (no_tariff (book_at c.args.self.now.shelf c.args.moment) c.args.group c.args.periods
    c.requires.of_book none)
    c.none.ensures.wanted c.none.ensures.grant

pub returns : goal.returns
returns c =
    let q : GroupPrices = c.in-Some.prices in
    let found : ArePricesOf (book_at c.args.self.now.shelf c.args.moment) c.args.group
    c.args.periods.before.0
    c.args.periods.after.0 q =
    subst (λ (b : Book). ArePricesOf b c.args.group c.args.periods.before.0
    c.args.periods.after.0 q) (c.book_at.ensures.value
    ∙ ap (λ (a : AccountRows). book_at a.shelf c.args.moment) c.self.view_is)
    (subst (λ o. IfSome o (ArePricesOf c.book_at.result.now c.args.group
    c.args.periods.before.0 c.args.periods.after.0)) c.in-Some.is c.prices.ensures.found) in
    let place : ℕ =
    count_in c.args.group (cycle_at c.args.self.now.shelf c.args.group c.args.moment)
    c.args.self.now.counters in
    let money : ℕ =
    funds c.args.group c.args.moment (advanced c.args.moment c.args.self.now).buckets in
    let free : ℕ =
    allowance c.args.group c.args.moment (advanced c.args.moment c.args.self.now).buckets in
    let wanted : ℕ = c.wanted_of-wanted.result in
    let grant : Grant = c.greatest_grant-grant.result in
    quota_by (book_at c.args.self.now.shelf c.args.moment) c.args.used c.args.group
    (option_map (λ (u : Units). u.0) c.args.requested) c.args.periods place money free
    wanted grant q
    found
    (c.wanted_of-wanted.ensures.value
    ∙ ap (λ t. wanted_units t (option_map (λ (u : Units). u.0) c.args.requested))
    c.tariff.ensures)
    (subst (λ t. wanted ≤ t.max_grant) c.tariff.ensures c.wanted_of-wanted.ensures.most)
    (c.greatest_grant-grant.ensures.value
    ∙ (λ i. grant_of q c.args.used (c.place_at-place.ensures i) wanted
    (c.funds-funds.ensures.rows i) (c.allowance-allowance.ensures.rows i)))
    (subst (λ n. IsGreatest q.before q.after (place + grant.allowed.0)
    (started c.args.used wanted q.tariff.block - grant.allowed.0) n
    grant.blocks.0) c.funds-funds.ensures.rows
    (subst (λ n. IsGreatest q.before q.after (n + grant.allowed.0)
    (started c.args.used wanted q.tariff.block - grant.allowed.0)
    c.funds-funds.result.0 grant.blocks.0)
    c.place_at-place.ensures c.greatest_grant-grant.ensures.greatest))
    c.greatest_grant-grant.ensures.within
