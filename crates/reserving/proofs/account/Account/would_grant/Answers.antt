use Rattle.std.proofs.Common.{ℕ, Option, ap, subst, ◌∙◌}
use Rattle.std.specs.Prelude.{option_map, nat_lt}
use Rattle.units.specs.declared.blocks.Units.{Units}
use Rattle.tariffs.specs.Books.{Book}
use Rattle.rating.specs.declared.grant.Grant.{Grant}
use Rattle.buckets.specs.Spend.{funds, allowance}
use Rattle.shelves.specs.Shelves.{book_at}
use Rattle.ledger.specs.Pricing.{periods_at, cycle_at, periods_by}
use Rattle.reserving.specs.Quotas.{IsQuota}
use Rattle.reserving.specs.Changes.{advanced, count_in}
use Rattle.reserving.specs.Rows.{AccountRows}
use Rattle.reserving.proofs.ReservedCall.{new_told, quota_with}
use Rattle.reserving.proofs.LeftReadings.{new_told_beside}
use Rattle.reserving.specs.Placed.{IsPriced}
use Rattle.reserving.proofs.account.Account.would_grant.Goals as goal

-- what is asked for, and the grant
abbrev requested : (c : goal.After-struct_known-1) → Option ℕ
requested c = option_map (λ (u : Units). u.0) c.args.requested

abbrev grant : (c : goal.After-struct_known-1) → Grant
grant c = c.quota_after-quota.result.grant

-- the quota that was reckoned with the window's periods
quota_told : (c : goal.After-struct_known-1) →
    IsQuota (book_at c.args.self.now.shelf c.args.moment) 0 c.args.group (requested c)
    (periods_at c.args.self.now.shelf c.args.moment)
    (count_in c.args.group (cycle_at c.args.self.now.shelf c.args.group c.args.moment)
    c.args.self.now.counters)
    (funds c.args.group c.args.moment (advanced c.args.moment c.args.self.now).buckets)
    (allowance c.args.group c.args.moment (advanced c.args.moment c.args.self.now).buckets)
    c.quota_after-quota.result.wanted (grant c)
quota_told c =
    quota_with c.args.self.now 0 c.args.group c.args.moment (requested c) _ _ _
    (c.window_at.ensures.periods
    ∙ ap (λ (b : Book). periods_by b c.args.moment) c.book_at.ensures.value
    ∙ ap (λ (x : AccountRows). periods_at x.shelf c.args.moment) c.self.view_is)
    c.quota_after-quota.ensures

pub returns : goal.returns
returns c = record {
  rows = ap (λ (x : Grant). nat_lt 0 x.units.0) (quota_told c).grant;
  ledger =
      λ ledger rows.
      ap (λ (x : Grant). nat_lt 0 x.units.0)
      (new_told ledger c.args.self.now c.args.group c.args.moment (requested c)
      c.quota_after-quota.result.wanted (grant c)
      (subst IsPriced c.self.view_is c.self.invariant.priced).account rows c.requires (quota_told
      c));
  left =
      λ ledger left h.
      ap (λ (x : Grant). nat_lt 0 x.units.0)
      (new_told_beside ledger left c.args.moment c.args.self.now c.args.group (requested c)
      c.quota_after-quota.result.wanted (grant c) c.requires h (quota_told c));
}
