use Rattle.std.proofs.Common.{rules, ◌≡◌, ◌≤◌, ◌<◌, ◌^◌, None, Some, sym, ◌∙◌, subst}
use Rattle.std.proofs.Math.Facts.{Fits-of_lt}
use Rattle.units.specs.Blocks.{started}
use Rattle.tariffs.specs.Tariffs.{IsTariff}
use Rattle.shelves.specs.Shelves.{IsShelf, book_at}
use Rattle.ledger.specs.Pricing.{tariff_of}
use Rattle.reserving.specs.Changes.{event_price_in}
use Rattle.decisions.specs.Decisions.{event_units}
use Rattle.decisions.specs.Parts.{event_fault}
use Rattle.decisions.proofs.Reading.{AreRight, units_right}
use Rattle.decisions.proofs.Priced.{price_fits}
use Rattle.decisions.proofs.reads.priced.Goals as goal

pub overflow_cast-result : goal.overflow_cast-result
overflow_cast-result c =
    let known : Some c.in-Some-tariff_of.tariff.now ≡
    tariff_of (book_at c.args.account.now.shelf c.args.moment)
    c.args.event.now.group = search rules in
    let is : IsTariff c.in-Some-tariff_of.tariff.now = search rules in
    let fault : event_fault (book_at c.args.account.now.shelf c.args.moment) c.args.event.now ≡
    None = search rules in
    let right : AreRight c.in-Some-tariff_of.tariff.now c.args.event.now.requested =
    units_right (book_at c.args.account.now.shelf c.args.moment) c.args.event.now
    c.in-Some-tariff_of.tariff.now
    known fault in
    let units : event_units c.in-Some-tariff_of.tariff.now c.args.event.now.requested ≡
    c.units.result = sym c.event_quantity-quantity.ensures.units
    ∙ sym c.units.ensures.value in
    let few : started 0 c.units.result c.in-Some-tariff_of.tariff.now.block ≤ 1000000000 =
    subst (λ n. started 0 n c.in-Some-tariff_of.tariff.now.block ≤ 1000000000) units
    right.few in
    let fits : (event_price_in c.args.event.now.group 0 c.units.result c.args.moment
    c.args.account.now).amount.0 < 2 ^ 64 =
    price_fits c.args.account.now c.in-Some-tariff_of.tariff.now c.args.moment
    c.args.event.now.group c.units.result
    (subst IsShelf c.shelf.ensures c.first-ranges.ensures.shelf) known is few in
    Fits-of_lt (subst (λ n. n < 2 ^ 64) (sym c.quote-price.ensures.rows) fits)
