use Rattle.std.proofs.Common.{◌≡◌, ◌+◌, true, false, refl, sym, ap, ◌∙◌, arith, rules}
use Rattle.std.specs.Ordering.{is_lt, nat_cmp}
use Rattle.units.specs.declared.blocks.Units.{Units}
use Rattle.units.specs.declared.money.Amount.{Amount}
use Rattle.units.specs.declared.blocks.Blocks.{Blocks}
use Rattle.rating.specs.declared.report.Rated.{Rated}
use Rattle.buckets.specs.Kinds.{due}
use Rattle.ledger.specs.Pricing.{cycle_at}
use Rattle.ledger.specs.Settlement.{passes}
use Rattle.reserving.specs.Changes.{advanced, used_in, count_in, rest_price_in, debited_account}
use Rattle.reserving.specs.Prepared.{with_rows}
use Rattle.reserving.specs.declared.settle.Settled.{Settled}
use Rattle.reserving.specs.Rows.{AccountRows}
use Rattle.reserving.proofs.calls.Settled.{within_used, within_counted, there_later, counter_there}
use Rattle.reserving.proofs.calls.Settled.{used_middle, count_middle}
use Rattle.reserving.proofs.Lists.{no_fault}
use Rattle.reserving.proofs.calls.Debited.{IsDebitMade, covered_in_is, debit_made}
use Rattle.reserving.proofs.account.Account.debit.Goals as goal

pub charge_use-charged-requires : goal.charge_use-charged-requires
charge_use-charged-requires c = record {
  group =
      there_later c.args.self.now c.advance.new.self c.args.session.now c.args.group
      c.cycle_at-cycle.result c.args.moment
      (c.advance.ensures.rows ∙ ap (advanced c.args.moment) c.in_ok-make_rows.ensures.ok);
  counter =
      counter_there c.args.self.now c.advance.new.self c.args.session.now c.args.group
      c.cycle_at-cycle.result c.args.moment
      (c.advance.ensures.rows ∙ ap (advanced c.args.moment) c.in_ok-make_rows.ensures.ok);
  cycle = search rules;
  used =
      let same : used_in c.args.session.now c.args.group c.advance.new.self.groups
      ≡ used_in c.args.session.now c.args.group c.args.self.now.groups =
      used_middle c.args.self.now c.advance.new.self c.args.session.now c.args.group
      c.cycle_at-cycle.result c.args.moment
      (c.advance.ensures.rows ∙ ap (advanced c.args.moment) c.in_ok-make_rows.ensures.ok) in
      let units : c.in-Some.rated.units.0 ≡ c.args.units.0 =
      ap (λ (x : Units). x.0) c.in-Some.ensures.units in
      omega (
        arith,
        same,
        units,
        within_used (used_in c.args.session.now c.args.group c.args.self.now.groups) c.args.units.0
            (count_in c.args.group (cycle_at c.args.self.now.shelf c.args.group c.args.moment)
            c.args.self.now.counters) c.rest_price-price.result.blocks c.args.self.now.next_charge
            c.in-Some.ensures.some,
      );
  counted =
      let cycle : count_in c.args.group c.cycle_at-cycle.result c.args.self.now.counters
      ≡ count_in c.args.group (cycle_at c.args.self.now.shelf c.args.group c.args.moment)
      c.args.self.now.counters =
      ap (λ x. count_in c.args.group x c.args.self.now.counters) c.cycle_at-cycle.ensures in
      let same : count_in c.args.group c.cycle_at-cycle.result c.advance.new.self.counters
      ≡ count_in c.args.group c.cycle_at-cycle.result c.args.self.now.counters =
      count_middle c.args.self.now c.advance.new.self c.args.session.now c.args.group
      c.cycle_at-cycle.result c.args.moment
      (c.advance.ensures.rows ∙ ap (advanced c.args.moment) c.in_ok-make_rows.ensures.ok) in
      omega (
        arith,
        same,
        cycle,
        c.in-Some.ensures.blocks,
        within_counted (used_in c.args.session.now c.args.group c.args.self.now.groups)
            c.args.units.0
            (count_in c.args.group (cycle_at c.args.self.now.shelf c.args.group c.args.moment)
            c.args.self.now.counters) c.rest_price-price.result.blocks c.args.self.now.next_charge
            c.in-Some.ensures.some,
      );
  charges = search rules;
}

-- the units' blocks and their price, by the rows
started : (c : goal.After-result-6-1) →
    c.in-Some.rated.blocks.0
    ≡ (rest_price_in c.args.group c.args.units.0 c.args.moment c.args.self.now).blocks
started c = c.in-Some.ensures.blocks ∙ ap (λ (x : Rated). x.blocks) c.rest_price-price.ensures.value

price : (c : goal.After-result-6-1) →
    c.in-Some.rated.amount.0
    ≡ (rest_price_in c.args.group c.args.units.0 c.args.moment c.args.self.now).amount.0
price c =
    ap (λ (x : Amount). x.0) c.in-Some.ensures.amount
    ∙ ap (λ (x : Rated). x.amount.0) c.rest_price-price.ensures.value

cover : (c : goal.After-result-6-1) →
    c.in-Some.rated.covered.0
    ≡ (rest_price_in c.args.group c.args.units.0 c.args.moment c.args.self.now).covered.0
cover c =
    ap (λ (x : Blocks). x.0) c.in-Some.ensures.covered
    ∙ ap (λ (x : Rated). x.covered.0) c.rest_price-price.ensures.value

brought : (c : goal.After-result-6-1) →
    c.advance.new.self
    ≡ advanced c.args.moment
    (with_rows c.args.session.now c.args.group c.cycle_at-cycle.result c.args.self.now)
brought c = c.advance.ensures.rows ∙ ap (advanced c.args.moment) c.in_ok-make_rows.ensures.ok

debited : (c : goal.After-result-6-1) →
    c.charge_use-charged.new.self
    ≡ debited_account c.args.session.now c.args.group c.args.units.0 c.in-Some.rated.blocks.0
    (due c.in-Some.rated.amount.0 c.in-Some.rated.covered.0) c.advance.new.self
debited c =
    c.charge_use-charged.ensures.rows
    ∙ (λ i. debited_account c.args.session.now c.args.group (c.in-Some.ensures.units i).0
    c.in-Some.rated.blocks.0 (due c.in-Some.rated.amount.0 c.in-Some.rated.covered.0)
    c.advance.new.self)

abbrev Sums : (c : goal.After-result-6-1) → Type 0
Sums c =
    c.charge_use-charged.result.collected.0 + c.charge_use-charged.result.uncollected.0
    ≡ c.in-Some.rated.amount.0

abbrev answered : (c : goal.After-result-6-1) → Sums c → Settled
answered c sum =
    record {
      blocks = c.in-Some.rated.blocks;
      covered = c.in-Some.rated.covered;
      rated = c.in-Some.rated.amount;
      collected = c.charge_use-charged.result.collected;
      uncollected = c.charge_use-charged.result.uncollected;
      sum = sum;
    }

made : (c : goal.After-result-6-1) (sum : Sums c) →
    IsDebitMade c.args.self.now c.advance.new.self c.charge_use-charged.new.self c.args.session.now
    c.args.group c.cycle_at-cycle.result c.args.moment c.args.units.0 c.funds.result.0
    (answered c sum)
made c sum =
    let a : AccountRows = c.args.self.now in
    record {
      cycle = c.cycle_at-cycle.ensures;
      funded = c.funds.ensures.rows;
      covers = ap (λ (x : Amount). is_lt (nat_cmp c.funds.result.0 x.0)) c.in-Some.ensures.amount
          ∙ sym c.lt.ensures ∙ c.if-lt.false;
      fits = ap
          (λ (x : Rated). passes (used_in c.args.session.now c.args.group a.groups) c.args.units.0
          (count_in c.args.group (cycle_at a.shelf c.args.group c.args.moment) a.counters) x.blocks
          a.next_charge) (sym c.rest_price-price.ensures.value) ∙ c.in-Some.ensures.some;
      started = started c;
      cover = cover c;
      price = price c;
      brought = brought c;
      debited = debited c;
      missing = c.charge_use-charged.ensures.uncollected;
    }

pub returns-then-lt : goal.returns-then-lt
returns-then-lt c = record {
  debit = (
    covered_in_is true c.args.self.now c.args.group c.args.units.0 c.args.moment
        c.funds.result.0 c.rest_price-price.result.amount.0 c.funds.ensures.rows
        (ap (λ (x : Rated). x.amount.0) c.rest_price-price.ensures.value)
        (sym c.lt.ensures ∙ c.if-lt.true),
    refl,
  );
  limit = λ e. absurd (no_fault e);
  err = tt;
}

pub returns-in_default : goal.returns-in_default
returns-in_default c = record {
  debit = tt;
  limit =
      λ e. (
        covered_in_is false c.args.self.now c.args.group c.args.units.0 c.args.moment
            c.funds.result.0
            c.rest_price-price.result.amount.0 c.funds.ensures.rows
            (ap (λ (x : Rated). x.amount.0) c.rest_price-price.ensures.value)
            (sym c.lt.ensures ∙ c.if-lt.false),
        (λ i. passes (used_in c.args.session.now c.args.group c.args.self.now.groups) c.args.units.0
            (count_in c.args.group (cycle_at c.args.self.now.shelf c.args.group c.args.moment)
            c.args.self.now.counters) (sym c.rest_price-price.ensures.value i).blocks
            c.args.self.now.next_charge) ∙ c.within_limits.ensures.none c.in_default.is,
      );
  err = refl;
}

pub returns : goal.returns
returns c = record {
  debit =
      debit_made c.args.self.now c.advance.new.self c.charge_use-charged.new.self
      c.args.session.now c.args.group c.cycle_at-cycle.result c.args.moment c.args.units.0
      c.funds.result.0 (answered c _) (made c _);
  limit = λ e. absurd (no_fault e);
  err = tt;
}
