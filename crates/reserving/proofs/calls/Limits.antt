-- The limits of calls, by an account's rows.
use Rattle.std.proofs.Common.{◌≡◌, ℕ, ◌<◌, Bool, false, List, [], ◌∷◌, refl, ap, ◌∙◌}
use Rattle.std.proofs.Common.{Option, subst}
use Rattle.std.specs.Prelude.{nat_lt}
use Rattle.units.specs.declared.blocks.UsedPart.{UsedPart}
use Rattle.buckets.specs.Spend.{funds, allowance}
use Rattle.rating.specs.declared.grant.Grant.{Grant}
use Rattle.ledger.specs.Pricing.{cycle_at, switch_at, validity_at, periods_at}
use Rattle.ledger.specs.Settlement.{reported, passes}
use Rattle.ledger.specs.Reservation.{held_due}
use Rattle.reserving.specs.Changes.{advanced, used_in, count_in, price_in, passes_in}
use Rattle.reserving.specs.Changes.{reserved_account}
use Rattle.reserving.specs.Prepared.{with_group_row}
use Rattle.reserving.specs.Rows.{AccountRows}
use Rattle.reserving.specs.Quotas.{IsGreatestFor}
use Rattle.reserving.specs.Results.{IsGrantIn}
use Rattle.reserving.proofs.ReservedCall.{QuotaOf, reserved_later}

-- rule: grant-units.passes-in
pub passes_in_some : (s : List ℕ) (g t : ℕ) (used_parts : List UsedPart) (a : AccountRows) →
    (used_parts ≡ [] → ⊥) →
    passes_in s g t used_parts a
    ≡ passes (used_in s g a.groups) (reported used_parts)
    (count_in g (cycle_at a.shelf g t) a.counters) (price_in s g t used_parts a).blocks
    a.next_charge
passes_in_some s g t [] a some = absurd (some refl)
passes_in_some s g t (p ∷ ps) a some = refl

pub passes_in_none : (s : List ℕ) (g t : ℕ) (used_parts : List UsedPart) (a : AccountRows) →
    used_parts ≡ [] → passes_in s g t used_parts a ≡ false
passes_in_none s g t used_parts a none = ap (λ ps. passes_in s g t ps a) none

-- what a reservation answers
-- rule: grant-units.passes-in
pub grant_in_is : (a middle after : AccountRows) (s : List ℕ) (g t : ℕ) (requested : Option ℕ)
    (wanted : ℕ) (grant : Grant) (at : Option ℕ) (validity : ℕ) (fewer : Bool) →
    QuotaOf a s g t requested wanted grant →
    0 < grant.units.0 → at ≡ switch_at a.shelf t → validity ≡ validity_at a.shelf t →
    fewer ≡ nat_lt grant.units.0 wanted →
    middle ≡ advanced t (with_group_row s g a) →
    after ≡ reserved_account s g (held_due grant) middle →
    IsGrantIn s g t requested a after grant.units.0 at validity fewer
grant_in_is a middle after s g t requested wanted grant at validity fewer q some switch valid few m
    e = record {
      some = some;
      units = ap (λ (x : Grant). x.units.0) q.grant;
      switch = switch;
      validity = valid;
      fewer = few ∙ ap (nat_lt grant.units.0) q.wanted;
      greatest =
          λ x k. subst (IsGreatestFor x (periods_at a.shelf t) (used_in s g a.groups)
          (count_in g (cycle_at a.shelf g t) a.counters) requested
          (funds g t (advanced t a).buckets) (allowance g t (advanced t a).buckets)) q.grant
          (q.greatest x k);
      rows = e ∙ ap (reserved_account s g (held_due grant)) m
          ∙ reserved_later a s g t (held_due grant)
          ∙ ap (λ (x : Grant). reserved_account s g (held_due x) (advanced t a)) q.grant;
    }
