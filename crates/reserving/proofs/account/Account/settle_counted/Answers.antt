use Rattle.std.proofs.Common.{◌≡◌, [], sym, ap, subst, refl, ◌∙◌, arith}
use Rattle.buckets.specs.Kinds.{due}
use Rattle.reserving.specs.Changes.{advanced, used_in, count_in, price_in}
use Rattle.reserving.specs.Prepared.{with_rows}
use Rattle.reserving.specs.Uses.{IsUseOf, IsCountedUse}
use Rattle.ledger.specs.Pricing.{cycle_at}
use Rattle.ledger.specs.Settlement.{reported, due_of}
use Rattle.reserving.proofs.Lists.{no_fault}
use Rattle.reserving.proofs.ChargeRows.{charge-numbered}
use Rattle.reserving.proofs.calls.Settled.{nothing_settled, within_used, within_counted}
use Rattle.reserving.proofs.calls.Settled.{there_later, counter_there, used_middle, count_middle}
use Rattle.reserving.proofs.calls.Settled.{settled_is, ended_is, answer_is}
use Rattle.reserving.proofs.calls.Limits.{passes_in_none}
use Rattle.reserving.proofs.calls.Uses.{within_now, limits_now}
use Rattle.reserving.proofs.account.Account.settle_counted.Goals as goal

pub settle_use-charged-requires : goal.settle_use-charged-requires
settle_use-charged-requires c =
    let u : IsCountedUse c.args.session.now c.args.group c.args.parts.now 0 c.args.moment
    c.args.self.now c.in-Some.counted =
    subst (IsUseOf c.args.session.now c.args.group c.args.parts.now 0 c.args.moment c.args.self.now)
    c.in-Some.is c.requires.counted in
    let limits =
    limits_now c.args.session.now c.args.group c.args.moment c.args.parts.now c.args.self.now
    c.in-Some.counted u in
    let middle : c.advance-2.new.self
    ≡ advanced c.args.moment (with_rows c.args.session.now c.args.group c.in-Some.counted.cycle
    c.args.self.now) =
    c.advance-2.ensures.rows ∙ ap (advanced c.args.moment) c.in_ok-make_rows.ensures.ok in
    let place : count_in c.args.group c.in-Some.counted.cycle c.args.self.now.counters
    ≡ count_in c.args.group (cycle_at c.args.self.now.shelf c.args.group c.args.moment)
    c.args.self.now.counters =
    ap (λ x. count_in c.args.group x c.args.self.now.counters) u.counted.cycle in
    record {
      group =
          there_later c.args.self.now c.advance-2.new.self c.args.session.now c.args.group
          c.in-Some.counted.cycle c.args.moment middle;
      counter =
          counter_there c.args.self.now c.advance-2.new.self c.args.session.now c.args.group
          c.in-Some.counted.cycle c.args.moment middle;
      cycle =
          u.counted.cycle
          ∙ sym (λ i. cycle_at (middle i).shelf c.args.group (middle i).as_of);
      used =
          let same : used_in c.args.session.now c.args.group c.advance-2.new.self.groups
          ≡ used_in c.args.session.now c.args.group c.args.self.now.groups =
          used_middle c.args.self.now c.advance-2.new.self c.args.session.now c.args.group
          c.in-Some.counted.cycle c.args.moment middle in
          omega (
            arith,
            same,
            c.rate-rated.ensures.units,
            within_used (used_in c.args.session.now c.args.group c.args.self.now.groups)
                (reported c.args.parts.now)
                (count_in c.args.group (cycle_at c.args.self.now.shelf c.args.group c.args.moment)
                c.args.self.now.counters)
                (price_in c.args.session.now c.args.group c.args.moment c.args.parts.now
                c.args.self.now).blocks c.args.self.now.next_charge limits,
          );
      counted =
          let same : count_in c.args.group c.in-Some.counted.cycle c.advance-2.new.self.counters
          ≡ count_in c.args.group c.in-Some.counted.cycle c.args.self.now.counters =
          count_middle c.args.self.now c.advance-2.new.self c.args.session.now c.args.group
          c.in-Some.counted.cycle c.args.moment middle in
          omega (
            arith,
            same,
            place,
            c.rate-rated.ensures.blocks,
            within_counted (used_in c.args.session.now c.args.group c.args.self.now.groups)
                (reported c.args.parts.now)
                (count_in c.args.group (cycle_at c.args.self.now.shelf c.args.group c.args.moment)
                c.args.self.now.counters)
                (price_in c.args.session.now c.args.group c.args.moment c.args.parts.now
                c.args.self.now).blocks c.args.self.now.next_charge limits,
          );
      charges =
          let next : c.advance-2.new.self.next_charge ≡ c.args.self.now.next_charge =
          ap (λ x. x.next_charge) middle in
          omega (
            arith,
            next,
            charge-numbered (used_in c.args.session.now c.args.group c.args.self.now.groups)
                (reported c.args.parts.now)
                (count_in c.args.group (cycle_at c.args.self.now.shelf c.args.group c.args.moment)
                c.args.self.now.counters)
                (price_in c.args.session.now c.args.group c.args.moment c.args.parts.now
                c.args.self.now).blocks c.args.self.now.next_charge limits,
          );
    }

-- nothing was reported
pub returns-in_default : goal.returns-in_default
returns-in_default c =
    let none : c.args.parts.now ≡ [] =
    subst (IsUseOf c.args.session.now c.args.group c.args.parts.now 0 c.args.moment
    c.args.self.now) c.in_default.is c.requires.counted in
    record {
      rows =
          ended_is c.args.self.now c.advance.new.self c.end_reservation.new.self c.args.session.now
          c.args.group c.args.moment c.args.parts.now none
          c.advance.ensures.rows c.end_reservation.ensures.rows;
      settled =
          nothing_settled c.args.self.now c.args.session.now c.args.group c.args.moment
          c.args.parts.now _ none refl refl refl refl;
      within =
          passes_in_none c.args.session.now c.args.group c.args.moment c.args.parts.now
          c.args.self.now none;
      limit = λ e. absurd (no_fault e);
      ended = λ e. refl;
      err = tt;
    }

pub returns : goal.returns
returns c =
    let u : IsCountedUse c.args.session.now c.args.group c.args.parts.now 0 c.args.moment
    c.args.self.now c.in-Some.counted =
    subst (IsUseOf c.args.session.now c.args.group c.args.parts.now 0 c.args.moment c.args.self.now)
    c.in-Some.is c.requires.counted in
    let rated = c.rate-rated.ensures in
    let middle : c.advance-2.new.self
    ≡ advanced c.args.moment (with_rows c.args.session.now c.args.group c.in-Some.counted.cycle
    c.args.self.now) =
    c.advance-2.ensures.rows ∙ ap (advanced c.args.moment) c.in_ok-make_rows.ensures.ok in
    let due_is : due c.rate-rated.result.amount.0 c.rate-rated.result.covered.0
    ≡ due_of (price_in c.args.session.now c.args.group c.args.moment c.args.parts.now
    c.args.self.now) =
    λ i. due (rated.amount i) (rated.covered i) in
    record {
      rows =
          settled_is c.args.self.now c.advance-2.new.self c.settle_use-charged.new.self
          c.args.session.now c.args.group c.in-Some.counted.cycle c.args.moment
          c.rate-rated.result.units.0 c.rate-rated.result.blocks.0
          (due c.rate-rated.result.amount.0 c.rate-rated.result.covered.0) c.args.parts.now
          c.requires.live u.some u.counted.cycle rated.units rated.blocks due_is middle
          c.settle_use-charged.ensures.rows;
      settled =
          answer_is c.args.self.now c.advance-2.new.self c.args.session.now c.args.group
          c.in-Some.counted.cycle c.args.moment c.args.parts.now _ (record {
            blocks_are = rated.blocks;
            covered_is = rated.covered;
            rated_is = rated.amount;
            brought = middle;
            missing = c.settle_use-charged.ensures.uncollected;
          });
      within =
          within_now c.args.session.now c.args.group c.args.moment c.args.parts.now
          c.args.self.now c.in-Some.counted u;
      limit = λ e. absurd (no_fault e);
      ended = λ none. refl;
      err = tt;
    }
