use Rattle.std.proofs.Common.{◌≡◌, ℕ, ◌<◌, Option, sym, ap, ◌∙◌, arith, refl}
use Rattle.std.specs.Prelude.{option_map, nat_lt}
use Rattle.units.specs.declared.blocks.Units.{Units}
use Rattle.tariffs.specs.Books.{Book}
use Rattle.rating.specs.declared.grant.Grant.{Grant}
use Rattle.shelves.specs.Shelves.{book_at}
use Rattle.ledger.specs.Pricing.{periods_at, switch_at, validity_at, periods_by, switch_by}
use Rattle.ledger.specs.Pricing.{validity_by}
use Rattle.reserving.specs.Changes.{advanced, used_in}
use Rattle.reserving.specs.Prepared.{with_group_row}
use Rattle.reserving.specs.Rows.{AccountRows}
use Rattle.reserving.proofs.ReservedCall.{group_there, free_middle, covered_middle, QuotaOf}
use Rattle.reserving.proofs.ReservedCall.{quota_of, quota_covered}
use Rattle.reserving.proofs.ReservedCall.{within_grant, allowed_middle, quota_allowed}
use Rattle.reserving.proofs.ReservedCall.{tariff_middle}
use Rattle.reserving.proofs.calls.Limits.{grant_in_is}
use Rattle.reserving.proofs.rows.Calm.{live_middle}
use Rattle.reserving.proofs.account.Account.reserve.Goals as goal

-- where nothing is granted, the quota was reckoned with the window's periods
nothing_told : (c : goal.After-advance) →
    QuotaOf c.args.self.now c.args.session.now c.args.group c.args.moment
    (option_map (λ (u : Units). u.0) c.args.requested) c.quota-quota.result.wanted
    c.quota-quota.result.grant
nothing_told c =
    quota_of c.args.self.now c.args.session.now c.args.group c.args.moment _ _ _ _
    (c.window_at-window.ensures.periods
    ∙ ap (λ (b : Book). periods_by b c.args.moment) c.book_at.ensures.value
    ∙ ap (λ (x : AccountRows). periods_at x.shelf c.args.moment) c.self.view_is)
    c.quota-quota.ensures.quota

pub hold_quota-requires-clause-there : goal.hold_quota-requires-clause-there
hold_quota-requires-clause-there c =
    group_there c.args.self.now c.advance-2.new.self c.args.session.now c.args.group c.args.moment
    (c.advance-2.ensures.rows ∙ ap (advanced c.args.moment) c.in_ok-room.ensures.ok)

pub hold_quota-requires-clause-free : goal.hold_quota-requires-clause-free
hold_quota-requires-clause-free c =
    free_middle c.args.self.now c.advance-2.new.self c.args.session.now c.args.group c.args.moment
    c.requires.free (c.advance-2.ensures.rows ∙ ap (advanced c.args.moment) c.in_ok-room.ensures.ok)

pub hold_quota-requires-clause-live : goal.hold_quota-requires-clause-live
hold_quota-requires-clause-live c =
    live_middle c.args.self.now c.advance-2.new.self c.args.session.now c.args.group c.args.moment
    c.requires.live (c.advance-2.ensures.rows ∙ ap (advanced c.args.moment) c.in_ok-room.ensures.ok)

pub hold_quota-requires-clause-covered : goal.hold_quota-requires-clause-covered
hold_quota-requires-clause-covered c =
    covered_middle c.args.self.now c.advance-2.new.self c.args.session.now c.args.group
    c.args.moment c.quota-quota.result.grant.amount.0
    (quota_covered c.args.self.now c.args.session.now c.args.group c.args.moment
    (option_map (λ (u : Units). u.0) c.args.requested) _ c.quota-quota.result.grant
    (quota_of c.args.self.now c.args.session.now c.args.group c.args.moment _ _ _ _
    (c.window_at-window.ensures.periods
    ∙ ap (λ (b : Book). periods_by b c.args.moment) c.book_at.ensures.value
    ∙ ap (λ (x : AccountRows). periods_at x.shelf c.args.moment) c.self.view_is)
    c.quota-quota.ensures.quota))
    (c.advance-2.ensures.rows ∙ ap (advanced c.args.moment) c.in_ok-room.ensures.ok)

pub hold_quota-requires-clause-allowed : goal.hold_quota-requires-clause-allowed
hold_quota-requires-clause-allowed c =
    allowed_middle c.args.self.now c.advance-2.new.self c.args.session.now c.args.group
    c.args.moment c.quota-quota.result.grant.allowed.0
    (quota_allowed c.args.self.now c.args.session.now c.args.group c.args.moment
    (option_map (λ (u : Units). u.0) c.args.requested) _ c.quota-quota.result.grant
    (quota_of c.args.self.now c.args.session.now c.args.group c.args.moment _ _ _ _
    (c.window_at-window.ensures.periods
    ∙ ap (λ (b : Book). periods_by b c.args.moment) c.book_at.ensures.value
    ∙ ap (λ (x : AccountRows). periods_at x.shelf c.args.moment) c.self.view_is)
    c.quota-quota.ensures.quota))
    (c.advance-2.ensures.rows ∙ ap (advanced c.args.moment) c.in_ok-room.ensures.ok)

pub hold_quota-requires-clause-tariff : goal.hold_quota-requires-clause-tariff
hold_quota-requires-clause-tariff c =
    let some : 0 < c.quota-quota.result.grant.units.0 = omega (arith, c.if-quota-eq0.false) in
    tariff_middle c.args.self.now c.advance-2.new.self c.args.session.now c.args.group
    c.args.moment c.quota-quota.result.grant.units.0
    (within_grant (book_at c.args.self.now.shelf c.args.moment)
    (used_in c.args.session.now c.args.group c.args.self.now.groups) c.args.group
    (option_map (λ (u : Units). u.0) c.args.requested) c.window_at-window.result.periods _ _ _
    c.quota-quota.result.wanted c.quota-quota.result.grant c.quota-quota.ensures.quota some)
    (c.advance-2.ensures.rows ∙ ap (advanced c.args.moment) c.in_ok-room.ensures.ok)

-- what a grant of some units comes from
abbrev requested_units : (c : goal.After-struct_known-2-1) → Option ℕ
requested_units c = option_map (λ (u : Units). u.0) c.args.requested

abbrev granted : (c : goal.After-struct_known-2-1) → Grant
granted c = c.quota-quota.result.grant

quota_told : (c : goal.After-struct_known-2-1) →
    QuotaOf c.args.self.now c.args.session.now c.args.group c.args.moment (requested_units c)
    c.quota-quota.result.wanted (granted c)
quota_told c =
    quota_of c.args.self.now c.args.session.now c.args.group c.args.moment _ _ _ _
    (c.window_at-window.ensures.periods
    ∙ ap (λ (b : Book). periods_by b c.args.moment) c.book_at.ensures.value
    ∙ ap (λ (x : AccountRows). periods_at x.shelf c.args.moment) c.self.view_is)
    c.quota-quota.ensures.quota

some_units : (c : goal.After-struct_known-2-1) → 0 < (granted c).units.0
some_units c = omega (arith, c.if-quota-eq0.false)

switch : (c : goal.After-struct_known-2-1) →
    c.window_at-window.result.switch ≡ switch_at c.args.self.now.shelf c.args.moment
switch c =
    c.window_at-window.ensures.switch
    ∙ ap (λ (b : Book). switch_by b c.args.moment) c.book_at.ensures.value
    ∙ ap (λ (x : AccountRows). switch_at x.shelf c.args.moment) c.self.view_is

validity : (c : goal.After-struct_known-2-1) →
    c.window_at-window.result.validity ≡ validity_at c.args.self.now.shelf c.args.moment
validity c =
    c.window_at-window.ensures.validity
    ∙ ap (λ (b : Book). validity_by b c.args.moment) c.book_at.ensures.value
    ∙ ap (λ (x : AccountRows). validity_at x.shelf c.args.moment) c.self.view_is

brought : (c : goal.After-struct_known-2-1) →
    c.advance-2.new.self
    ≡ advanced c.args.moment (with_group_row c.args.session.now c.args.group c.args.self.now)
brought c = c.advance-2.ensures.rows ∙ ap (advanced c.args.moment) c.in_ok-room.ensures.ok

pub returns-then-quota-eq0 : goal.returns-then-quota-eq0
returns-then-quota-eq0 c = record {
  granted = (
    sym (ap (λ (x : Grant). x.units.0) (nothing_told c).grant) ∙ c.if-quota-eq0.true,
    c.advance.ensures.rows,
  );
  memory = tt;
  err = tt;
}

pub returns : goal.returns
returns c = record {
  granted =
      grant_in_is c.args.self.now c.advance-2.new.self c.hold_quota.new.self c.args.session.now
      c.args.group c.args.moment (requested_units c) c.quota-quota.result.wanted (granted c)
      c.window_at-window.result.switch c.window_at-window.result.validity
      (nat_lt (granted c).units.0 c.quota-quota.result.wanted)
      (quota_told c) (some_units c) (switch c) (validity c) refl (brought c) c.hold_quota.ensures;
  memory = tt;
  err = tt;
}
