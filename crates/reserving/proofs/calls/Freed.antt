-- A settlement leaves no reservation of its session's group.
use Rattle.std.proofs.Common.{◌≡◌, ℕ, ◌+◌, map, true, false, List, refl, ap, ◌∙◌, Option, Some}
use Rattle.std.proofs.Common.{None, [], ◌∷◌}
use Rattle.std.specs.Prelude.{if◌then◌else◌, option_map, unwrap_or}
use Rattle.units.specs.declared.blocks.UsedPart.{UsedPart}
use Rattle.ledger.specs.Settlement.{reported}
use Rattle.reserving.specs.declared.session.SessionGroup.{SessionGroup}
use Rattle.reserving.specs.Sessions.{is_of, group_in}
use Rattle.reserving.specs.Changes.{ended_group, new_group, with_use, used_in, settled_by_rows}
use Rattle.reserving.specs.Prepared.{reservation_in}
use Rattle.reserving.specs.Rows.{AccountRows}
use Rattle.reserving.specs.Sessions.{group_before}
use Rattle.reserving.proofs.Lists.{find-map, find-passes, find-put}
use Rattle.ledger.proofs.Holds.{same_itself, number_itself}

pub ended_key : (s : List ℕ) (g : ℕ) (r : SessionGroup) →
    is_of s g (ended_group s g r) ≡ is_of s g r
ended_key s g r =
    elim (is_of s g r) as
    (λ l. is_of s g (if l then record r { reservation = None } else r) ≡ is_of s g r)
    [ true ↦ refl | false ↦ refl ]

pub free_ended : (s : List ℕ) (g : ℕ) (rows : List SessionGroup) →
    (unwrap_or (group_in s g (map (ended_group s g) rows)) (new_group s g)).reservation ≡ None
free_ended s g rows =
    ap (λ o. (unwrap_or o (new_group s g)).reservation)
    (find-map (is_of s g) (ended_group s g) rows (ended_key s g)) ∙ at (group_in s g rows) refl
  where
    at : (o : Option SessionGroup) → group_in s g rows ≡ o →
        (unwrap_or (option_map (ended_group s g) o) (new_group s g)).reservation ≡ None
    at None e = refl
    at (Some r) e = rw (find-passes (is_of s g) rows r e) refl

own_key : (s : List ℕ) (g : ℕ) (r : SessionGroup) → r.session ≡ s → r.group ≡ g → is_of s g r ≡ true
own_key s g r e k = rw (e, k, same_itself s, number_itself g) refl

pub free_used : (s : List ℕ) (g units : ℕ) (rows : List SessionGroup) →
    (unwrap_or (group_in s g (with_use s g units rows)) (new_group s g)).reservation ≡ None
free_used s g units rows =
    ap (λ o. (unwrap_or o (new_group s g)).reservation)
    (find-put group_before (is_of s g)
    (record { session = s; group = g; used = used_in s g rows + units; reservation = None })
    rows (own_key s g
    (record { session = s; group = g; used = used_in s g rows + units; reservation = None })
    refl refl))

-- the report has parts or none
pub settled_free : (s : List ℕ) (g : ℕ) (used_parts : List UsedPart) (a : AccountRows) →
    reservation_in s g (settled_by_rows s g used_parts a).groups ≡ None
settled_free s g [] a = free_ended s g a.groups
settled_free s g (p ∷ ps) a = free_used s g (reported (p ∷ ps)) a.groups
