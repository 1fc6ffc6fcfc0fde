-- A group's row and what is held there, of what a list has of the group; and that they give it
-- back.
use Rattle.std.proofs.Common.{◌≡◌, ℕ, Bool, true, false, List, refl, sym, ◌∙◌}
use Rattle.std.proofs.Common.{Option, Some, None}
use Rattle.std.specs.Prelude.{◌==◌, if◌then◌else◌, is_some, option_map}
use Rattle.buckets.specs.Row.{BucketRow}
use Rattle.buckets.specs.Share.{parts}
use Rattle.reserving.specs.declared.session.SessionGroup.{SessionGroup}
use Rattle.reserving.specs.declared.session.Reservation.{Reservation}
use Rattle.ledger.specs.Ledger.{is_same}
use Rattle.reserving.specs.Sessions.{is_of, group_in, holds_in, reservation_of}
use Rattle.reserving.specs.Rows.{IsInOrderOf, AreInOrderOf}
use Rattle.reserving.specs.Left.{first_of}
use Rattle.reserving.proofs.Lists.{find-passes, no_some, EachIn-found}
use Rattle.ledger.proofs.Holds.{same_from}
use Rattle.reserving.proofs.Keys.{first_true, second_true, same_number}
use Rattle.keepers.specs.Tables.{GroupRow, group_row, held_at, held_of}
use Rattle.keepers.specs.Change.{held_over}

-- ---- what is said of each

pub reserved_row : (o : Option Reservation) →
    is_some (option_map (λ (x : Reservation). x.terms) o) ≡ is_some o
reserved_row None = refl
reserved_row (Some x) = refl

pub no_terms : (o : Option Reservation) → option_map (λ (x : Reservation). x.terms) o ≡ None →
    o ≡ None
no_terms None e = refl
no_terms (Some x) e = absurd (no_some x.terms (sym e))

pub no_row : (o : Option SessionGroup) → option_map group_row o ≡ None → o ≡ None
no_row None e = refl
no_row (Some y) e = absurd (no_some (group_row y) (sym e))

-- ---- rows over others

pub row_over : (x o : Option SessionGroup) →
    first_of (option_map group_row x) (option_map group_row o) ≡ option_map group_row (first_of x o)
row_over None o = refl
row_over (Some y) o = refl

pub held_over_is : (n : ℕ) (x o : Option SessionGroup) →
    held_over n x (held_of n o) ≡ held_of n (first_of x o)
held_over_is n None o = refl
held_over_is n (Some y) o = refl

pub row_if : (t : Bool) (o : Option SessionGroup) → option_map group_row (if t then o else None) ≡
    (if t then option_map group_row o else None)
row_if true o = refl
row_if false o = refl

pub held_if : (n : ℕ) (t : Bool) (o : Option SessionGroup) → held_of n (if t then o else None) ≡
    (if t then held_of n o else 0)
held_if n true o = refl
held_if n false o = refl

-- ---- and back

-- what a list has of a group, by its row and what is held there of the buckets in their order
abbrev pub group_of : List ℕ → ℕ → List BucketRow → Option GroupRow → (ℕ → ℕ) → Option SessionGroup
group_of s g buckets None held = None
group_of s g buckets (Some r) held =
    Some (record {
      session = s;
      group = g;
      used = r.used;
      reservation = reservation_of (parts (λ b. held b.number) buckets) r.terms;
    })

same_reservation : (buckets : List BucketRow) (o : Option Reservation) →
    IsInOrderOf buckets (holds_in o) →
    o ≡ reservation_of (parts (λ b. held_at b.number (holds_in o)) buckets)
    (option_map (λ (x : Reservation). x.terms) o)
same_reservation buckets None h = refl
same_reservation buckets (Some x) h = λ i. Some (record { terms = x.terms; holds = h i })

pub group_back : (s : List ℕ) (g : ℕ) (buckets : List BucketRow) (groups : List SessionGroup) →
    AreInOrderOf buckets groups →
    group_in s g groups ≡ group_of s g buckets (option_map group_row (group_in s g groups))
    (λ n. held_of n (group_in s g groups))
group_back s g buckets groups h = at (group_in s g groups) refl
  where
    at : (o : Option SessionGroup) → group_in s g groups ≡ o →
        o ≡ group_of s g buckets (option_map group_row o) (λ n. held_of n o)
    at None e = refl
    at (Some y) e =
        let key : is_of s g y ≡ true = find-passes (is_of s g) groups y e in
        let session : y.session ≡ s =
        same_from y.session s (first_true (is_same y.session s) (y.group == g) key) in
        let group : y.group ≡ g =
        same_number y.group g (second_true (is_same y.session s) (y.group == g) key) in
        let reservation = same_reservation buckets y.reservation
        (EachIn-found (λ r. IsInOrderOf buckets (holds_in r.reservation)) (is_of s g) groups y h e)
        in
        λ i. Some (record {
          session = session i;
          group = group i;
          used = y.used;
          reservation = reservation i;
        })

-- lists of the same rows have the same of a group
pub group_same : (s : List ℕ) (g : ℕ) (buckets : List BucketRow) (xs ys : List SessionGroup) →
    AreInOrderOf buckets xs → AreInOrderOf buckets ys →
    option_map group_row (group_in s g xs) ≡ option_map group_row (group_in s g ys) →
    ((n : ℕ) → held_of n (group_in s g xs) ≡ held_of n (group_in s g ys)) →
    group_in s g xs ≡ group_in s g ys
group_same s g buckets xs ys hx hy row held =
    group_back s g buckets xs hx ∙ (λ i. group_of s g buckets (row i) (λ n. held n i))
    ∙ sym (group_back s g buckets ys hy)
