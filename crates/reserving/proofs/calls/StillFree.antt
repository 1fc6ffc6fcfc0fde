-- A settlement makes no reservation, and a grant one of its own group alone.
use Rattle.std.proofs.Common.{◌≡◌, ℕ, ◌+◌, Bool, true, false, List, map, refl, sym, ap, ◌∙◌, Option}
use Rattle.std.proofs.Common.{Some, None, [], ◌∷◌}
use Rattle.std.specs.Prelude.{if◌then◌else◌, ◌==◌, option_map, unwrap_or}
use Rattle.units.specs.declared.blocks.UsedPart.{UsedPart}
use Rattle.buckets.specs.declared.kind.Due.{Due}
use Rattle.buckets.specs.Holding.{holds_of}
use Rattle.ledger.specs.Pricing.{terms_at}
use Rattle.ledger.specs.Settlement.{reported}
use Rattle.reserving.specs.declared.session.SessionGroup.{SessionGroup}
use Rattle.reserving.specs.Keyed.{put}
use Rattle.ledger.specs.Ledger.{is_same}
use Rattle.reserving.specs.Sessions.{is_of, group_in}
use Rattle.reserving.specs.Rows.{AccountRows}
use Rattle.reserving.specs.Changes.{advanced, ended_group, new_group}
use Rattle.reserving.specs.Changes.{used_in, settled_by_rows, reserved_account}
use Rattle.reserving.specs.Prepared.{reservation_in}
use Rattle.reserving.specs.Sessions.{group_before}
use Rattle.reserving.proofs.Lists.{find-map, find-put, find-put_other}
use Rattle.reserving.proofs.Keys.{is_key, key_session, key_group, other_row, is_key-sym}
use Rattle.reserving.proofs.Keys.{second_true, not_true}
use Rattle.reserving.proofs.ReservedCall.{free_later}

ended_row : (t : Bool) (r : SessionGroup) → r.reservation ≡ None →
    (if t then record r { reservation = None } else r).reservation ≡ None
ended_row true r h = refl
ended_row false r h = h

-- the end of a reservation
pub still_ended : (s : List ℕ) (g : ℕ) (s' : List ℕ) (g' : ℕ) (rows : List SessionGroup) →
    reservation_in s g rows ≡ None → reservation_in s g (map (ended_group s' g') rows) ≡ None
still_ended s g s' g' rows h =
    ap (λ o. (unwrap_or o (new_group s g)).reservation)
    (find-map (is_of s g) (ended_group s' g') rows keep) ∙ by_row (group_in s g rows) h
  where
    keep : (r : SessionGroup) → is_of s g (ended_group s' g' r) ≡ is_of s g r
    keep r = elim (is_of s' g' r) as
        (λ l. is_of s g (if l then record r { reservation = None } else r) ≡ is_of s g r)
        [ true ↦ refl | false ↦ refl ]

    by_row : (o : Option SessionGroup) → (unwrap_or o (new_group s g)).reservation ≡ None →
        (unwrap_or (option_map (ended_group s' g') o) (new_group s g)).reservation ≡ None
    by_row None e = refl
    by_row (Some r) e = ended_row (is_of s' g' r) r e

-- a row that is put: another row's reservation stays
pub still_other : (s : List ℕ) (g : ℕ) (x : SessionGroup) (rows : List SessionGroup) →
    is_of s g x ≡ false → reservation_in s g rows ≡ None →
    reservation_in s g (put group_before (is_of x.session x.group) x rows) ≡ None
still_other s g x rows n h =
    ap (λ o. (unwrap_or o (new_group s g)).reservation)
    (find-put_other group_before (is_of x.session x.group) (is_of s g) x rows n
    (other_row x.session x.group s g n)) ∙ h

still_own : (s : List ℕ) (g : ℕ) (x : SessionGroup) (rows : List SessionGroup) →
    is_of s g x ≡ true → x.reservation ≡ None →
    reservation_in s g (put group_before (is_of x.session x.group) x rows) ≡ None
still_own s g x rows own none =
    (λ i. reservation_in s g
    (put group_before (is_of (key_session x.session x.group s g own i)
    (key_group x.session x.group s g own i)) x rows))
    ∙ ap (λ o. (unwrap_or o (new_group s g)).reservation)
    (find-put group_before (is_of s g) x rows own) ∙ none

-- a row without a reservation that is put
pub still_put : (s : List ℕ) (g : ℕ) (x : SessionGroup) (rows : List SessionGroup) →
    x.reservation ≡ None → reservation_in s g rows ≡ None →
    reservation_in s g (put group_before (is_of x.session x.group) x rows) ≡ None
still_put s g x rows none h = at (is_of s g x) refl
  where
    at : (b : Bool) → is_of s g x ≡ b →
        reservation_in s g (put group_before (is_of x.session x.group) x rows) ≡ None
    at true e = still_own s g x rows e none
    at false e = still_other s g x rows e h

other_key : (s : List ℕ) (g g' : ℕ) → (g == g') ≡ false → is_key s g' s g ≡ false
other_key s g g' h =
    is_key-sym s g' s g
    ∙ not_true (is_key s g s g')
    (λ e. (let no : false ≡ true = sym h ∙ second_true (is_same s s) (g == g') e in cc))

-- ---- calls

pub others_advanced : (a : AccountRows) (s : List ℕ) (g t : ℕ) →
    reservation_in s g a.groups ≡ None → reservation_in s g (advanced t a).groups ≡ None
others_advanced a s g t h = free_later _ s g a.groups h

-- a reservation of another group
pub others_reserved : (a : AccountRows) (s : List ℕ) (g g' t : ℕ) (due : Due) → (g == g') ≡ false →
    reservation_in s g a.groups ≡ None →
    reservation_in s g (reserved_account s g' due (advanced t a)).groups ≡ None
others_reserved a s g g' t due n h =
    let later : AccountRows = advanced t a in
    let x : SessionGroup =
    record {
      session = s;
      group = g';
      used = used_in s g' later.groups;
      reservation = Some (record {
        terms = terms_at a.shelf t;
        holds = holds_of g' t due later.buckets;
      });
    } in
    still_other s g x later.groups (other_key s g g' n) (others_advanced a s g t h)

-- a report of this or another group
pub others_settled : (a : AccountRows) (s : List ℕ) (g : ℕ) (s' : List ℕ) (g' t : ℕ)
    (used_parts : List UsedPart) → reservation_in s g a.groups ≡ None →
    reservation_in s g (settled_by_rows s' g' used_parts (advanced t a)).groups ≡ None
others_settled a s g s' g' t [] h =
    still_ended s g s' g' (advanced t a).groups (others_advanced a s g t h)
others_settled a s g s' g' t (p ∷ ps) h =
    let rows : List SessionGroup = (advanced t a).groups in
    let x : SessionGroup =
    record {
      session = s';
      group = g';
      used = used_in s' g' rows + reported (p ∷ ps);
      reservation = None;
    } in
    still_put s g x rows refl (others_advanced a s g t h)
