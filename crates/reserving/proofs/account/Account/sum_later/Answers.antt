use Rattle.std.proofs.Common.{rules, ◌≡◌, ◌+◌, map, sym, ap, ◌∙◌, subst, arith}
use Rattle.buckets.proofs.Counted.{sum_in-most}
use Rattle.reserving.specs.Rows.{AccountRows, IsAccount}
use Rattle.reserving.specs.Calm.{IsCalm}
use Rattle.reserving.proofs.rows.Calm.{calm_same}
use Rattle.reserving.proofs.rows.Quiet.{quiet_advanced}
use Rattle.reserving.specs.Placed.{IsPriced}
use Rattle.reserving.proofs.Advanced.{IsAccount-advanced}
use Rattle.buckets.specs.Row.{with_end, with_release, eligible_amount}
use Rattle.buckets.specs.Share.{sum_in}
use Rattle.reserving.specs.Sessions.{is_live_in}
use Rattle.reserving.specs.Changes.{advanced, lapsed_in}
use Rattle.reserving.proofs.rows.LapsedFunds.{lapsed_funds-is}
use Rattle.ledger.specs.Pricing.{validity_of}
use Rattle.reserving.proofs.account.Account.sum_later.Goals as goal

pub returns-clause-rows : goal.returns-clause-rows
returns-clause-rows c =
    (λ i. c.free_funds-free.ensures.value i + c.lapsed_funds-given_up.ensures.value i)
    ∙ lapsed_funds-is c.args.kind c.args.group (validity_of c.self.inside.shelf.now) c.args.moment
    c.deref-2.result.now c.deref.result.now c.buckets-buckets.result.now
    ∙ (λ i. sum_in c.args.kind (eligible_amount c.args.group c.args.moment)
    (map (λ b. with_end c.args.moment
    (with_release c.args.moment b
    (lapsed_in (is_live_in (validity_of c.self.inside.shelf.now) c.args.moment
    (c.deref-2.ensures.value i)) (c.deref.ensures.value i) b)))
    (c.buckets-buckets.ensures.value i)))
    ∙ ap (λ a. sum_in c.args.kind (eligible_amount c.args.group c.args.moment)
    (advanced c.args.moment a).buckets) c.self.view_is

-- nothing is left to end at the moment
pub returns-then-eq-clause-rows : goal.returns-then-eq-clause-rows
returns-then-eq-clause-rows c =
    let a : AccountRows = c.args.self.now in
    let now : c.self.inside.rows.as_of ≡ c.args.moment = search rules in
    let same : a.as_of ≡ c.args.moment =
    sym (ap (λ (x : AccountRows). x.as_of) c.self.view_is) ∙ now in
    let calm : advanced c.args.moment a ≡ a =
    sym (ap (λ t. advanced t a) same)
    ∙ calm_same a (subst IsCalm c.self.view_is (c.self.invariant.calm c.if-self.true)) in
    c.free_funds-free.ensures.value
    ∙ ap (sum_in c.args.kind (eligible_amount c.args.group c.args.moment))
    (c.buckets-buckets.ensures.value
    ∙ ap (λ (x : AccountRows). x.buckets) c.self.view_is
    ∙ sym (ap (λ (x : AccountRows). x.buckets) calm))

pub returns-then-eq-clause-account : goal.returns-then-eq-clause-account
returns-then-eq-clause-account c = (subst IsPriced c.self.view_is c.self.invariant.priced).account

pub returns-then-eq-clause-most : goal.returns-then-eq-clause-most
returns-then-eq-clause-most c =
    let later : IsAccount (advanced c.args.moment c.args.self.now) =
    IsAccount-advanced c.args.self.now c.args.moment
    ((subst IsPriced c.self.view_is c.self.invariant.priced).account) in
    omega (
      arith,
      returns-then-eq-clause-rows c,
      sum_in-most c.args.kind c.args.group c.args.moment
          (advanced c.args.moment c.args.self.now).buckets later.sound,
    )

pub returns-clause-account : goal.returns-clause-account
returns-clause-account c = (subst IsPriced c.self.view_is c.self.invariant.priced).account

pub returns-clause-most : goal.returns-clause-most
returns-clause-most c =
    let later : IsAccount (advanced c.args.moment c.args.self.now) =
    IsAccount-advanced c.args.self.now c.args.moment (returns-clause-account c) in
    omega (
      arith,
      returns-clause-rows c,
      sum_in-most c.args.kind c.args.group c.args.moment
          (advanced c.args.moment c.args.self.now).buckets later.sound,
    )

-- nor does anything end at it, as a load found
pub returns-then-is_found_quiet-clause-rows : goal.returns-then-is_found_quiet-clause-rows
returns-then-is_found_quiet-clause-rows c =
    let a : AccountRows = c.args.self.now in
    let quiet : advanced c.args.moment a ≡ record a { as_of = c.args.moment } =
    quiet_advanced a c.args.moment (c.is_found_quiet.ensures c.if-is_found_quiet.true) in
    c.free_funds-free.ensures.value
    ∙ ap (sum_in c.args.kind (eligible_amount c.args.group c.args.moment))
    (c.buckets-buckets.ensures.value
    ∙ ap (λ (x : AccountRows). x.buckets) c.self.view_is
    ∙ sym (ap (λ (x : AccountRows). x.buckets) quiet))

pub returns-then-is_found_quiet-clause-account : goal.returns-then-is_found_quiet-clause-account
returns-then-is_found_quiet-clause-account c =
    (subst IsPriced c.self.view_is c.self.invariant.priced).account

pub returns-then-is_found_quiet-clause-most : goal.returns-then-is_found_quiet-clause-most
returns-then-is_found_quiet-clause-most c =
    let later : IsAccount (advanced c.args.moment c.args.self.now) =
    IsAccount-advanced c.args.self.now c.args.moment
    ((subst IsPriced c.self.view_is c.self.invariant.priced).account) in
    omega (
      arith,
      returns-then-is_found_quiet-clause-rows c,
      sum_in-most c.args.kind c.args.group c.args.moment
          (advanced c.args.moment c.args.self.now).buckets later.sound,
    )
