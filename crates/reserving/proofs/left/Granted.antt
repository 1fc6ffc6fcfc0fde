-- A grant's call, from a ledger whose rows the account's are together with those left.
use Rattle.std.proofs.Common.{◌≡◌, ℕ, ◌<◌, ◌≤◌, Bool, true, false, List, refl, sym, ap, subst, ◌∙◌}
use Rattle.std.proofs.Common.{Option, None}
use Rattle.std.specs.Prelude.{nat_lt}
use Rattle.rating.specs.declared.grant.Grant.{Grant}
use Rattle.buckets.specs.declared.kind.Due.{Due}
use Rattle.reserving.specs.declared.session.SessionGroup.{SessionGroup}
use Rattle.shelves.specs.Shelves.{Shelf}
use Rattle.ledger.specs.Ledger.{Ledger}
use Rattle.ledger.specs.Pricing.{switch_at, validity_at, validity_of, tariff_at, wanted_with}
use Rattle.ledger.specs.Reservation.{held_due}
use Rattle.reserving.specs.Sessions.{is_of, is_live_in}
use Rattle.reserving.specs.Changes.{advanced, reserved_account, granted_in}
use Rattle.reserving.specs.Prepared.{with_group_row, reservation_in}
use Rattle.ledger.specs.Lists.{EachIn}
use Rattle.reserving.specs.Rows.{AccountRows, IsAccount}
use Rattle.reserving.specs.Results.{IsGrantIn, IsGrantOf}
use Rattle.reserving.specs.Left.{LeftRows, joined, IsLeft, IsBeside, IsWith}
use Rattle.reserving.proofs.rows.Reserved.{IsAccount-reserved}
use Rattle.reserving.proofs.ReservedCall.{QuotaOf, grant_is, free_later, reserved_later}
use Rattle.reserving.proofs.LeftFrames.{live, not_of_live, row_same, advanced_joined}
use Rattle.reserving.proofs.LeftMore.{with_advanced}
use Rattle.reserving.proofs.order.SameRows.{IsReordered, IsAccount-reordered, IsRowsOf-reordered}
use Rattle.reserving.proofs.order.SameRows.{AreKeysApart, keys_of}
use Rattle.reserving.proofs.left.Settled.{live_later}
use Rattle.reserving.proofs.left.Reserved.{reserved_joined}
use Rattle.reserving.proofs.LeftReadings.{quota_of_joined}

free_joined : (left : LeftRows) (a : AccountRows) (s : List ℕ) (g : ℕ) → IsLeft left a →
    EachIn (λ r. is_of s g r ≡ false) left.groups → reservation_in s g a.groups ≡ None →
    reservation_in s g (joined left a).groups ≡ None
free_joined left a s g h not_of none =
    ap (λ (r : SessionGroup). r.reservation) (row_same left a h s g not_of) ∙ none

-- a reservation that is made leaves the rows that were left
pub left_reserved : (left : LeftRows) (a : AccountRows) (s : List ℕ) (g : ℕ) (due : Due) →
    IsLeft left a → is_live_in (validity_of a.shelf) a.as_of a.sessions s ≡ true →
    reservation_in s g a.groups ≡ None → IsLeft left (reserved_account s g due a)
left_reserved left a s g due h alive none = record {
  dead = h.dead;
  over = h.over;
  apart = h.apart;
  free = h.free;
  others = h.others;
  whole = IsAccount-reordered (reserved_account s g due (joined left a))
      (joined left (reserved_account s g due a)) (reserved_joined left a s g due h alive)
      (IsAccount-reserved (joined left a) s g due
      (free_joined left a s g h (not_of_live left a a.as_of s g h alive) none) h.whole);
}

grant_reordered : (b : Shelf) (t : ℕ) (s : List ℕ) (g : ℕ) (requested : Option ℕ) (ledger : Ledger)
    (y z : AccountRows) (given : ℕ) (at : Option ℕ) (seconds : ℕ) (fewer : Bool) →
    IsReordered y z → AreKeysApart y →
    IsGrantOf b t s g requested ledger y given at seconds fewer →
    IsGrantOf b t s g requested ledger z given at seconds fewer
grant_reordered b t s g requested ledger y z given at seconds fewer r keys h = record {
  some = h.some;
  units = h.units;
  switch = h.switch;
  validity = h.validity;
  fewer = h.fewer;
  greatest = h.greatest;
  rows = IsRowsOf-reordered _ y z r keys h.rows;
}

pub grant_beside : (ledger : Ledger) (left : LeftRows) (a after : AccountRows) (s : List ℕ)
    (g t : ℕ) (requested : Option ℕ) (wanted : ℕ) (grant : Grant) (at : Option ℕ) (validity : ℕ)
    (fewer : Bool) →
    IsWith ledger left t a → a.as_of ≤ t → is_live_in (validity_of a.shelf) t a.sessions s ≡ true →
    reservation_in s g a.groups ≡ None →
    QuotaOf a s g t requested wanted grant →
    0 < grant.units.0 → at ≡ switch_at a.shelf t → validity ≡ validity_at a.shelf t →
    fewer ≡ nat_lt grant.units.0 wanted →
    after ≡ reserved_account s g (held_due grant) (advanced t a) →
    IsBeside left t after ×
    IsGrantOf a.shelf t s g requested ledger (joined left after) grant.units.0 at validity fewer
grant_beside ledger left a after s g t requested wanted grant at validity fewer h le alive
    none q some switch valid few is =
    let whole : AccountRows = joined left a in
    let later : AccountRows = advanced t a in
    let due : Due = held_due grant in
    let not_of : EachIn (λ r. is_of s g r ≡ false) left.groups =
    not_of_live left a t s g h.apart alive in
    let with_later : IsWith ledger left t later = with_advanced ledger left t a le h in
    let alive_later : is_live_in (validity_of a.shelf) t later.sessions s ≡ true =
    live_later ledger left a s t le h with_later alive in
    let free : reservation_in s g later.groups ≡ None =
    free_later (is_live_in (validity_of a.shelf) t a.sessions) s g a.groups none in
    let same : reserved_account s g due (advanced t (with_group_row s g whole))
    ≡ reserved_account s g due (joined left later) =
    reserved_later whole s g t due
    ∙ ap (reserved_account s g due) (advanced_joined t left a h.apart) in
    let moved : IsReordered (reserved_account s g due (joined left later)) (joined left after) =
    subst (λ x. IsReordered (reserved_account s g due (joined left later)) (joined left x))
    (sym is) (reserved_joined left later s g due with_later.apart alive_later) in
    let account : IsAccount (reserved_account s g due (joined left later)) =
    IsAccount-reserved (joined left later) s g due
    (free_joined left later s g with_later.apart
    (not_of_live left later t s g with_later.apart alive_later) free) with_later.apart.whole in
    let beside : IsBeside left t (reserved_account s g due later) =
    record {
      apart = left_reserved left later s g due with_later.apart alive_later free;
      cycles = h.cycles;
    } in
    let granted : IsGrantOf a.shelf t s g requested ledger
    (reserved_account s g due (advanced t (with_group_row s g whole))) grant.units.0 at
    validity fewer =
    grant_is ledger whole (advanced t (with_group_row s g whole))
    (reserved_account s g due (advanced t (with_group_row s g whole))) s g t requested wanted
    grant at validity fewer
    h.apart.whole h.rows le (live left a h.apart t s ∙ alive)
    (free_joined left a s g h.apart not_of none)
    (quota_of_joined left a s g t requested wanted grant h.apart h.cycles not_of q) some switch
    valid few refl refl in (
      subst (IsBeside left t) (sym is) beside,
      grant_reordered a.shelf t s g requested ledger
          (reserved_account s g due (joined left later)) (joined left after) grant.units.0 at
          validity fewer moved
          (keys_of (reserved_account s g due (joined left later)) account)
          (subst (λ x. IsGrantOf a.shelf t s g requested ledger x grant.units.0 at validity fewer)
          same granted),
    )

-- the quota of a grant by the rows
pub quota_in : (a after : AccountRows) (s : List ℕ) (g t : ℕ) (requested : Option ℕ) (given : ℕ)
    (at : Option ℕ) (validity : ℕ) (fewer : Bool) →
    IsGrantIn s g t requested a after given at validity fewer →
    QuotaOf a s g t requested (wanted_with (tariff_at a.shelf t g) requested)
    (granted_in s g t requested a)
quota_in a after s g t requested given at validity fewer is =
    record { wanted = refl; grant = refl; greatest = is.greatest }

-- so a grant by the rows is one of the ledger
pub granted_beside : (ledger : Ledger) (left : LeftRows) (a after : AccountRows) (s : List ℕ)
    (g t : ℕ) (requested : Option ℕ) (given : ℕ) (at : Option ℕ) (validity : ℕ) (fewer : Bool) →
    IsWith ledger left t a → a.as_of ≤ t → is_live_in (validity_of a.shelf) t a.sessions s ≡ true →
    reservation_in s g a.groups ≡ None →
    IsGrantIn s g t requested a after given at validity fewer →
    IsBeside left t after ×
    IsGrantOf a.shelf t s g requested ledger (joined left after) given at validity fewer
granted_beside ledger left a after s g t requested given at validity fewer h le alive none is =
    let grant : Grant = granted_in s g t requested a in
    let wanted : ℕ = wanted_with (tariff_at a.shelf t g) requested in
    let both : IsBeside left t after ×
    IsGrantOf a.shelf t s g requested ledger (joined left after) grant.units.0 at validity fewer =
    grant_beside ledger left a after s g t requested wanted grant at validity fewer h le alive none
    (quota_in a after s g t requested given at validity fewer is)
    (subst (λ n. 0 < n) is.units is.some) is.switch is.validity
    (is.fewer ∙ ap (λ n. nat_lt n wanted) is.units) is.rows in (
      both.0,
      subst (λ n. IsGrantOf a.shelf t s g requested ledger (joined left after) n at validity fewer)
          (sym is.units) both.1,
    )
