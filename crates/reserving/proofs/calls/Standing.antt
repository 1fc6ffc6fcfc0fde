-- What settlements, debits and reservations leave of an account: its shelf, its sessions, and which
-- groups have no reservation.
use Rattle.std.proofs.Common.{◌≡◌, ℕ, ◌≤◌, ◌<◌, List, [], ◌∷◌, Option, Some, None, Result, Ok, Err}
use Rattle.std.proofs.Common.{Bool, false, refl, sym, ap, subst, ◌∙◌}
use Rattle.std.specs.Prelude.{◌==◌}
use Rattle.units.specs.declared.blocks.UsedPart.{UsedPart}
use Rattle.shelves.specs.Shelves.{book_at}
use Rattle.reserving.specs.declared.fault.AccountFault.{AccountFault}
use Rattle.reserving.specs.declared.reserve.Granted.{Granted}
use Rattle.reserving.specs.declared.reserve.Granted.TheVariants.{Nothing, Units}
use Rattle.reserving.specs.declared.settle.Settled.{Settled}
use Rattle.ledger.specs.Pricing.{cycle_at, tariff_at, periods_at, wanted_with}
use Rattle.ledger.specs.Reservation.{held_due}
use Rattle.reserving.specs.Sessions.{session_in}
use Rattle.reserving.specs.Changes.{advanced, used_in, count_in, rest_price_in, settled_by_rows}
use Rattle.reserving.specs.Changes.{granted_in}
use Rattle.reserving.specs.Prepared.{reservation_in}
use Rattle.reserving.specs.Rows.{AccountRows}
use Rattle.reserving.specs.Results.{IsDebitIn, IsGrantIn, GivesGrantIn}
use Rattle.reserving.specs.Calls.{Settles, Debits, Reserves}
use Rattle.reserving.proofs.ChargeRows.{charge-numbered}
use Rattle.reserving.proofs.ReservedCall.{IsWithin, within_grant}
use Rattle.reserving.proofs.calls.Freed.{settled_free}
use Rattle.reserving.proofs.Advancing.{session_in-advanced}
use Rattle.reserving.proofs.calls.StillFree.{others_advanced, others_reserved, others_settled}
use Rattle.reserving.proofs.left.Granted.{quota_in}

-- ---- settlements

settled_shelf : (s : List ℕ) (g : ℕ) (used_parts : List UsedPart) (a : AccountRows) →
    (settled_by_rows s g used_parts a).shelf ≡ a.shelf
settled_shelf s g [] a = refl
settled_shelf s g (p ∷ ps) a = refl

settled_as_of : (s : List ℕ) (g : ℕ) (used_parts : List UsedPart) (a : AccountRows) →
    (settled_by_rows s g used_parts a).as_of ≡ a.as_of
settled_as_of s g [] a = refl
settled_as_of s g (p ∷ ps) a = refl

settled_sessions : (s : List ℕ) (g : ℕ) (used_parts : List UsedPart) (a : AccountRows) →
    (settled_by_rows s g used_parts a).sessions ≡ a.sessions
settled_sessions s g [] a = refl
settled_sessions s g (p ∷ ps) a = refl

-- the account after a report that is settled
pub record IsLeftSettled (s : List ℕ) (g t : ℕ) (before after : AccountRows) : Type 0 where
  pub as_of : after.as_of ≡ t
  pub shelf : after.shelf ≡ before.shelf
  pub sessions : after.sessions ≡ (advanced t before).sessions
  pub free : reservation_in s g after.groups ≡ None
  pub others : (r : List ℕ) (h : ℕ) → reservation_in r h before.groups ≡ None →
      reservation_in r h after.groups ≡ None

pub left_by_settled : (s : List ℕ) (g t : ℕ) (used_parts : List UsedPart)
    (before after : AccountRows) → after ≡ settled_by_rows s g used_parts (advanced t before) →
    IsLeftSettled s g t before after
left_by_settled s g t used_parts before after e =
    let later : AccountRows = advanced t before in
    record {
      as_of = ap (λ (x : AccountRows). x.as_of) e ∙ settled_as_of s g used_parts later;
      shelf = ap (λ (x : AccountRows). x.shelf) e ∙ settled_shelf s g used_parts later;
      sessions = ap (λ (x : AccountRows). x.sessions) e ∙ settled_sessions s g used_parts later;
      free =
          ap (λ (x : AccountRows). reservation_in s g x.groups) e
          ∙ settled_free s g used_parts later;
      others =
          λ r h none. ap (λ (x : AccountRows). reservation_in r h x.groups) e
          ∙ others_settled before r h s g t used_parts none;
    }

pub settles_shelf : (s : List ℕ) (g t : ℕ) (used_parts : List UsedPart)
    (before after : AccountRows) (result : Result Settled AccountFault) →
    Settles s g used_parts t before after result → after.shelf ≡ before.shelf
settles_shelf s g t used_parts before after (Ok x) says =
    (left_by_settled s g t used_parts before after says.rows).shelf
settles_shelf s g t used_parts before after (Err fault) says =
    ap (λ (x : AccountRows). x.shelf) says.err

-- ---- debits

-- the account after a debit that is charged
pub record IsLeftDebited (t : ℕ) (before after : AccountRows) : Type 0 where
  pub as_of : after.as_of ≡ t
  pub shelf : after.shelf ≡ before.shelf
  pub number : before.next_charge ≤ 4294967295
  pub new : (r : List ℕ) → session_in r before.sessions ≡ None →
      session_in r after.sessions ≡ None

pub left_by_debited : (s : List ℕ) (g units t : ℕ) (before after : AccountRows) (x : Settled) →
    IsDebitIn s g units t before after x → IsLeftDebited t before after
left_by_debited s g units t before after x is = record {
  as_of = ap (λ (y : AccountRows). y.as_of) is.rows;
  shelf = ap (λ (y : AccountRows). y.shelf) is.rows;
  number =
      charge-numbered (used_in s g before.groups) units
      (count_in g (cycle_at before.shelf g t) before.counters)
      (rest_price_in g units t before).blocks before.next_charge is.within;
  new =
      λ r none. ap (λ (y : AccountRows). session_in r y.sessions) is.rows
      ∙ session_in-advanced r t before none;
}

pub debits_shelf : (s : List ℕ) (g units t : ℕ) (before after : AccountRows)
    (result : Result (Option Settled) AccountFault) → Debits s g units t before after result →
    after.shelf ≡ before.shelf
debits_shelf s g units t before after (Ok (Some x)) says =
    (left_by_debited s g units t before after x says.debit).shelf
debits_shelf s g units t before after (Ok None) says =
    ap (λ (x : AccountRows). x.shelf) says.debit.1
debits_shelf s g units t before after (Err fault) says =
    ap (λ (x : AccountRows). x.shelf) says.err

-- ---- reservations

-- the account after units are reserved, or none are
pub record IsLeftReserved (s : List ℕ) (g t : ℕ) (before after : AccountRows) : Type 0 where
  pub as_of : after.as_of ≡ t
  pub shelf : after.shelf ≡ before.shelf
  pub sessions : after.sessions ≡ (advanced t before).sessions
  pub others : (h : ℕ) → (h == g) ≡ false → reservation_in s h before.groups ≡ None →
      reservation_in s h after.groups ≡ None

pub left_by_reserved : (s : List ℕ) (g t : ℕ) (requested : Option ℕ) (before after : AccountRows)
    (granted : Granted) → GivesGrantIn s g t requested before after granted →
    IsLeftReserved s g t before after
left_by_reserved s g t requested before after Nothing is = record {
  as_of = ap (λ (x : AccountRows). x.as_of) is.1;
  shelf = ap (λ (x : AccountRows). x.shelf) is.1;
  sessions = ap (λ (x : AccountRows). x.sessions) is.1;
  others =
      λ h n none. ap (λ (x : AccountRows). reservation_in s h x.groups) is.1
      ∙ others_advanced before s h t none;
}
left_by_reserved s g t requested before after (Units units switch validity fewer) is = record {
  as_of = ap (λ (x : AccountRows). x.as_of) is.rows;
  shelf = ap (λ (x : AccountRows). x.shelf) is.rows;
  sessions = ap (λ (x : AccountRows). x.sessions) is.rows;
  others =
      λ h n none. ap (λ (x : AccountRows). reservation_in s h x.groups) is.rows
      ∙ others_reserved before s h g t (held_due (granted_in s g t requested before)) n none;
}

pub reserves_shelf : (s : List ℕ) (g t : ℕ) (requested : Option ℕ) (before after : AccountRows)
    (result : Result Granted AccountFault) → Reserves s g requested t before after result →
    after.shelf ≡ before.shelf
reserves_shelf s g t requested before after (Ok granted) says =
    (left_by_reserved s g t requested before after granted says.granted).shelf
reserves_shelf s g t requested before after (Err fault) says =
    ap (λ (x : AccountRows). x.shelf) says.err

-- what is granted is some, of a group with a tariff, and no more than its greatest grant
pub granted_within : (s : List ℕ) (g t : ℕ) (requested : Option ℕ) (before after : AccountRows)
    (given : ℕ) (at : Option ℕ) (validity : ℕ) (fewer : Bool) →
    IsGrantIn s g t requested before after given at validity fewer →
    IsWithin (tariff_at before.shelf t g) given
granted_within s g t requested before after given at validity fewer is =
    subst (IsWithin (tariff_at before.shelf t g)) (sym is.units)
    (within_grant (book_at before.shelf t) (used_in s g before.groups) g requested
    (periods_at before.shelf t) _ _ _ (wanted_with (tariff_at before.shelf t g) requested)
    (granted_in s g t requested before)
    (quota_in before after s g t requested given at validity fewer is)
    (subst (λ n. 0 < n) is.units is.some))
