-- What a row that is found by its key says, and what is written to it.
use Rattle.std.proofs.Common.{◌≡◌, ℕ, Bool, true, false, cond, List, [], ◌∷◌, map, get_or}
use Rattle.std.proofs.Common.{set, refl, sym, ap, subst, ◌∙◌, arith, Option, Some, None}
use Rattle.std.specs.Prelude.{if◌then◌else◌, is_some, unwrap_or, option_map, position, not, ◌&&◌}
use Rattle.std.specs.List.{find, list_any, insert}
use Rattle.std.proofs.lemmas.Iterator.Adapters.{position_from-zero}
use Rattle.buckets.specs.declared.holds.HeldAmount.{HeldAmount}
use Rattle.reserving.specs.declared.session.Session.{Session}
use Rattle.reserving.specs.declared.session.SessionGroup.{SessionGroup}
use Rattle.reserving.specs.declared.session.Reservation.{Reservation}
use Rattle.reserving.specs.declared.session.Counter.{Counter}
use Rattle.reserving.specs.Keyed.{put, IsGap}
use Rattle.reserving.specs.Sessions.{is_of, group_in, is_counter, counter_in, holds_in}
use Rattle.reserving.specs.Sessions.{is_session, session_in, session_before}
use Rattle.reserving.specs.Changes.{new_group, used_in, reserved_in, terms_in, count_in}
use Rattle.reserving.specs.Changes.{ended_group}
use Rattle.reserving.specs.Prepared.{with_group, with_counter}
use Rattle.ledger.specs.Lists.{EachIn}
use Rattle.reserving.specs.Rows.{AreApart}
use Rattle.reserving.specs.Sessions.{group_before, counter_before}
use Rattle.reserving.proofs.Lists.{IsPlace, IsPlaceFrom, position_is, position_none, find-passes}
use Rattle.reserving.proofs.Lists.{some_of, no_some, any_found, put_first, put_later, none_each}
pub use Rattle.reserving.proofs.Lists.{put-same}
use Rattle.reserving.proofs.Keys.{is_key, key_session, key_group, cycle_group, cycle_cycle}
use Rattle.reserving.proofs.Keys.{own_key, own_cycle}

-- ---- the row at a place

pub placed : {A : Type 0} (b : A → A → Bool) (p : A → Bool) (x : A) (place : ℕ) (xs : List A) →
    position p xs ≡ Some place → IsPlace b p x xs place
placed b p x place xs h =
    let r : IsPlaceFrom b p x 0 place xs =
    position_is b p x 0 place xs (sym (position_from-zero p xs) ∙ h) in
    let same : r.steps ≡ place = omega (arith, r.sum) in
    subst (IsPlace b p x xs) same r.place

pub unplaced : {A : Type 0} (p : A → Bool) (xs : List A) → position p xs ≡ None → find p xs ≡ None
unplaced p [] h = refl
unplaced p (x ∷ xs) h = position_none p 0 (x ∷ xs) (sym (position_from-zero p (x ∷ xs)) ∙ h)

pub is_none_is : {A : Type 0} (o : Option A) → is_some o ≡ false → o ≡ None
is_none_is None h = refl
is_none_is (Some x) h = cc

-- ---- a session

-- where a row was found
pub session_there : (s : List ℕ) (place : ℕ) (rows : List Session) (d : Session) →
    position (is_session s) rows ≡ Some place → session_in s rows ≡ None → ⊥
session_there s place rows d h none =
    no_some (get_or rows place d)
    (sym none ∙ (placed session_before (is_session s) d place rows h).found d)

-- ---- a session's group

-- where a search through a list that was read for the rows found one
pub place_is : (s : List ℕ) (g : ℕ) {rows read : List SessionGroup} {told place : Option ℕ} →
    read ≡ rows → told ≡ position (is_of s g) read → told ≡ place →
    position (is_of s g) rows ≡ place
place_is s g r e is = ap (position (is_of s g)) (sym r) ∙ sym e ∙ is

pub found_group : (s : List ℕ) (g place : ℕ) (rows : List SessionGroup) (d : SessionGroup) →
    position (is_of s g) rows ≡ Some place → group_in s g rows ≡ Some (get_or rows place d)
found_group s g place rows d h = (placed group_before (is_of s g) d place rows h).found d

pub used_at : (s : List ℕ) (g place : ℕ) (rows : List SessionGroup) (d : SessionGroup) →
    position (is_of s g) rows ≡ Some place → (get_or rows place d).used ≡ used_in s g rows
used_at s g place rows d h =
    sym (ap (λ o. (unwrap_or o (new_group s g)).used) (found_group s g place rows d h))

pub unused : (s : List ℕ) (g : ℕ) (rows : List SessionGroup) → position (is_of s g) rows ≡ None →
    0 ≡ used_in s g rows
unused s g rows h = sym (ap (λ o. (unwrap_or o (new_group s g)).used) (unplaced (is_of s g) rows h))

pub reservation_at_place : (s : List ℕ) (g place : ℕ) (rows : List SessionGroup) (d : SessionGroup)
    → position (is_of s g) rows ≡ Some place →
    (get_or rows place d).reservation ≡ (unwrap_or (group_in s g rows) (new_group s g)).reservation
reservation_at_place s g place rows d h =
    sym (ap (λ o. (unwrap_or o (new_group s g)).reservation) (found_group s g place rows d h))

pub reserved_at : (s : List ℕ) (g place : ℕ) (rows : List SessionGroup) (d : SessionGroup) →
    position (is_of s g) rows ≡ Some place →
    holds_in (get_or rows place d).reservation ≡ reserved_in s g rows
reserved_at s g place rows d h =
    sym (ap (λ o. holds_in (unwrap_or o (new_group s g)).reservation)
    (found_group s g place rows d h))

pub periods_at_place : (s : List ℕ) (g place : ℕ) (rows : List SessionGroup) (d : SessionGroup) →
    position (is_of s g) rows ≡ Some place →
    option_map (λ (r : Reservation). r.terms) (get_or rows place d).reservation
    ≡ terms_in s g rows
periods_at_place s g place rows d h =
    sym (ap (λ o. option_map (λ (r : Reservation). r.terms)
    (unwrap_or o (new_group s g)).reservation) (found_group s g place rows d h))

pub no_periods : (s : List ℕ) (g : ℕ) (rows : List SessionGroup) →
    position (is_of s g) rows ≡ None → None ≡ terms_in s g rows
no_periods s g rows h =
    sym (ap (λ o. option_map (λ (r : Reservation). r.terms)
    (unwrap_or o (new_group s g)).reservation) (unplaced (is_of s g) rows h))

pub unreserved : (s : List ℕ) (g : ℕ) (rows : List SessionGroup) →
    position (is_of s g) rows ≡ None → [] ≡ reserved_in s g rows
unreserved s g rows h =
    sym (ap (λ o. holds_in (unwrap_or o (new_group s g)).reservation) (unplaced (is_of s g) rows h))

pub holds_at_place : (s : List ℕ) (g place : ℕ) (rows : List SessionGroup) (d : SessionGroup) →
    position (is_of s g) rows ≡ Some place →
    holds_in (get_or rows place d).reservation ≡ reserved_in s g rows
holds_at_place s g place rows d h =
    sym (ap (λ o. holds_in (unwrap_or o (new_group s g)).reservation)
    (found_group s g place rows d h))

-- a row that is found has its key
pub found_session : (s : List ℕ) (g : ℕ) (rows : List SessionGroup) (x : SessionGroup) →
    group_in s g rows ≡ Some x → x.session ≡ s
found_session s g rows x h = key_session x.session x.group s g (find-passes (is_of s g) rows x h)

key_at : (s : List ℕ) (g place : ℕ) (rows : List SessionGroup) (d : SessionGroup) →
    position (is_of s g) rows ≡ Some place → is_of s g (get_or rows place d) ≡ true
key_at s g place rows d h =
    find-passes (is_of s g) rows (get_or rows place d) (found_group s g place rows d h)

-- the row at a place, written, is the row that is put
pub put_at : (s : List ℕ) (g place : ℕ) (rows : List SessionGroup) (now : SessionGroup) (used : ℕ)
    (reservation : Option Reservation) →
    now ≡ get_or rows place now → position (is_of s g) rows ≡ Some place →
    set rows place
    (record {
      session = now.session;
      group = now.group;
      used = used;
      reservation = reservation;
    })
    ≡ put group_before (is_of s g)
    (record { session = s; group = g; used = used; reservation = reservation }) rows
put_at s g place rows now used reservation is h =
    let key : is_of s g now ≡ true = ap (is_of s g) is ∙ key_at s g place rows now h in
    let es : now.session ≡ s = key_session now.session now.group s g key in
    let eg : now.group ≡ g = key_group now.session now.group s g key in
    let x : SessionGroup =
    record { session = s; group = g; used = used; reservation = reservation } in
    (λ i. set rows place
    (record { session = es i; group = eg i; used = used; reservation = reservation }))
    ∙ sym (placed group_before (is_of s g) x place rows h).put

pub not_there : (s : List ℕ) (g : ℕ) (rows : List SessionGroup) → position (is_of s g) rows ≡ None →
    is_some (group_in s g rows) ≡ true → ⊥
not_there s g rows h e = let none : is_some (group_in s g rows) ≡ false =
    ap is_some (unplaced (is_of s g) rows h) in cc

pub found_none : (s : List ℕ) (g : ℕ) {rows read : List SessionGroup} {told : Option ℕ} →
    read ≡ rows → told ≡ position (is_of s g) read → told ≡ None →
    is_some (group_in s g rows) ≡ true → ⊥
found_none s g {rows} r e is = not_there s g rows (place_is s g r e is)

-- what was reserved in a row, where the row's reservation is taken
pub taken_is : (s : List ℕ) (g place : ℕ) (rows : List SessionGroup) (now : SessionGroup)
    (taken : Option Reservation) (holds : List HeldAmount) →
    position (is_of s g) rows ≡ Some place → now ≡ get_or rows place now →
    taken ≡ now.reservation → holds ≡ holds_in taken → holds ≡ reserved_in s g rows
taken_is s g place rows now taken holds at is t h =
    h ∙ ap holds_in (t ∙ ap (λ (x : SessionGroup). x.reservation) is)
    ∙ reserved_at s g place rows now at

-- a row is made where there is none
pub made_group : (s : List ℕ) (g place : ℕ) (rows : List SessionGroup) →
    IsGap group_before (is_of s g) rows place →
    insert rows place (new_group s g) ≡ with_group s g rows
made_group s g place rows gap =
    sym (ap (λ o. put group_before (is_of s g) (unwrap_or o (new_group s g)) rows)
    (unplaced (is_of s g) rows gap.none) ∙ gap.makes (new_group s g) (own_key s g))

pub kept_group : (s : List ℕ) (g : ℕ) (rows : List SessionGroup) (x : SessionGroup) →
    group_in s g rows ≡ Some x → rows ≡ with_group s g rows
kept_group s g rows x h =
    sym (ap (λ o. put group_before (is_of s g) (unwrap_or o (new_group s g)) rows) h
    ∙ put-same group_before (is_of s g) x rows h)

pub there_kept : (s : List ℕ) (g : ℕ) (rows : List SessionGroup) →
    is_some (position (is_of s g) rows) ≡ true → rows ≡ with_group s g rows
there_kept s g rows h = by_place (position (is_of s g) rows) refl h
  where
    by_place : (o : Option ℕ) → position (is_of s g) rows ≡ o → is_some o ≡ true →
        rows ≡ with_group s g rows
    by_place None e q = cc
    by_place (Some place) e q = kept_group s g rows _ (found_group s g place rows (new_group s g) e)

-- ---- one row alone is written

-- where those that are the same as one that passes pass alone, that one written is all gone over
module _ {A : Type 0} (before same : A → A → Bool) (p : A → Bool) (f : A → A)
    (alike : (x y : A) → p x ≡ true → same x y ≡ false → p y ≡ false) where
  abbrev written : A → A
  written r = if p r then f r else r

  others : (xs : List A) → EachIn (λ y. p y ≡ false) xs → map written xs ≡ xs
  others [] h = refl
  others (y ∷ ys) h = λ i. (if h.0 i then f y else y) ∷ others ys h.1 i

  others_of : (x : A) (xs : List A) → p x ≡ true → EachIn (λ y. same x y ≡ false) xs →
      EachIn (λ y. p y ≡ false) xs
  others_of x [] e h = tt
  others_of x (y ∷ ys) e h = (alike x y e h.0, others_of x ys e h.1)

  pub unwritten : (xs : List A) → find p xs ≡ None → map written xs ≡ xs
  unwritten xs h = others xs (none_each p xs h)

  pub written_none : (xs : List A) → position p xs ≡ None → xs ≡ map written xs
  written_none xs h = sym (unwritten xs (unplaced p xs h))

  pub written_put : (x : A) (xs : List A) → AreApart same xs → find p xs ≡ Some x →
      map written xs ≡ put before p (f x) xs
  written_put x [] apart h = absurd (no_some x h)
  written_put x (y ∷ ys) apart h = by_test (p y) refl h (λ q. written_put x ys apart.1 q)
    where
      by_test : (t : Bool) → p y ≡ t → cond t (Some y) (find p ys) ≡ Some x →
          (find p ys ≡ Some x → map written ys ≡ put before p (f x) ys) →
          map written (y ∷ ys) ≡ put before p (f x) (y ∷ ys)
      by_test true e q rest =
          let is : y ≡ x = some_of y x q in
          (λ i. (if e i then f y else y) ∷ others ys (others_of y ys e apart.0) i)
          ∙ (λ i. f (is i) ∷ ys)
          ∙ sym (put_first before p (f x) y ys true (before (f x) y && not (list_any p ys)) e refl)
      by_test false e q rest =
          (λ i. (if e i then f y else y) ∷ rest q i)
          ∙ sym (put_later before p (f x) y ys e (any_found p ys x q))

  pub written_at : (place : ℕ) (xs : List A) (now : A) → AreApart same xs →
      now ≡ get_or xs place now → position p xs ≡ Some place →
      set xs place (f now) ≡ map written xs
  written_at place xs now apart is h =
      sym ((placed before p (f now) place xs h).put)
      ∙ sym (written_put now xs apart
      ((placed before p now place xs h).found now ∙ ap Some (sym is)))

-- ---- the reservation of one row alone

alike_groups : (s : List ℕ) (g : ℕ) (x y : SessionGroup) → is_of s g x ≡ true →
    is_of x.session x.group y ≡ false → is_of s g y ≡ false
alike_groups s g x y e h =
    (λ i. is_key y.session y.group (sym (key_session x.session x.group s g e) i)
    (sym (key_group x.session x.group s g e) i)) ∙ h

module _ (s : List ℕ) (g : ℕ) where
  abbrev same_key : SessionGroup → SessionGroup → Bool
  same_key x y = is_of x.session x.group y

  abbrev unreserved_row : SessionGroup → SessionGroup
  unreserved_row r = record r { reservation = None }

  pub ended_unnamed : (rows : List SessionGroup) → group_in s g rows ≡ None →
      map (ended_group s g) rows ≡ rows
  ended_unnamed =
      unwritten group_before same_key (is_of s g) unreserved_row (alike_groups s g)

  pub ended_none : (rows : List SessionGroup) → position (is_of s g) rows ≡ None →
      rows ≡ map (ended_group s g) rows
  ended_none = written_none group_before same_key (is_of s g) unreserved_row (alike_groups s g)

  pub ended_put : (x : SessionGroup) (rows : List SessionGroup) → AreApart same_key rows →
      group_in s g rows ≡ Some x →
      map (ended_group s g) rows ≡ put group_before (is_of s g) (unreserved_row x) rows
  ended_put = written_put group_before same_key (is_of s g) unreserved_row (alike_groups s g)

  pub ended_at : (place : ℕ) (rows : List SessionGroup) (now : SessionGroup) →
      AreApart same_key rows → now ≡ get_or rows place now →
      position (is_of s g) rows ≡ Some place →
      set rows place (unreserved_row now) ≡ map (ended_group s g) rows
  ended_at = written_at group_before same_key (is_of s g) unreserved_row (alike_groups s g)

-- ---- a counter

pub found_counter : (g c place : ℕ) (rows : List Counter) (d : Counter) →
    position (is_counter g c) rows ≡ Some place → counter_in g c rows ≡ Some (get_or rows place d)
found_counter g c place rows d h = (placed counter_before (is_counter g c) d place rows h).found d

pub count_at : (g c place : ℕ) (rows : List Counter) (d : Counter) →
    position (is_counter g c) rows ≡ Some place → (get_or rows place d).blocks ≡ count_in g c rows
count_at g c place rows d h =
    sym (ap (λ o. unwrap_or (option_map (λ (r : Counter). r.blocks) o) 0)
    (found_counter g c place rows d h))

pub uncounted : (g c : ℕ) (rows : List Counter) → position (is_counter g c) rows ≡ None →
    0 ≡ count_in g c rows
uncounted g c rows h =
    sym (ap (λ o. unwrap_or (option_map (λ (r : Counter). r.blocks) o) 0)
    (unplaced (is_counter g c) rows h))

pub put_counter_at : (g c place : ℕ) (rows : List Counter) (now : Counter) (blocks : ℕ) →
    now ≡ get_or rows place now → position (is_counter g c) rows ≡ Some place →
    set rows place (record { group = now.group; cycle = now.cycle; blocks = blocks })
    ≡ put counter_before (is_counter g c) (record { group = g; cycle = c; blocks = blocks }) rows
put_counter_at g c place rows now blocks is h =
    let key : is_counter g c now ≡ true =
    ap (is_counter g c) is
    ∙ find-passes (is_counter g c) rows (get_or rows place now)
    (found_counter g c place rows now h) in
    let eg : now.group ≡ g = cycle_group now.group now.cycle g c key in
    let ec : now.cycle ≡ c = cycle_cycle now.group now.cycle g c key in
    let x : Counter = record { group = g; cycle = c; blocks = blocks } in
    (λ i. set rows place (record { group = eg i; cycle = ec i; blocks = blocks }))
    ∙ sym (placed counter_before (is_counter g c) x place rows h).put

pub counter_not_there : (g c : ℕ) (rows : List Counter) → position (is_counter g c) rows ≡ None →
    is_some (counter_in g c rows) ≡ true → ⊥
counter_not_there g c rows h e = let none : is_some (counter_in g c rows) ≡ false =
    ap is_some (unplaced (is_counter g c) rows h) in cc

pub made_counter : (g c place : ℕ) (rows : List Counter) →
    IsGap counter_before (is_counter g c) rows place →
    insert rows place (record { group = g; cycle = c; blocks = 0 }) ≡ with_counter g c rows
made_counter g c place rows gap =
    let new : Counter = record { group = g; cycle = c; blocks = 0 } in
    sym (ap (λ o. put counter_before (is_counter g c) (unwrap_or o new) rows)
    (unplaced (is_counter g c) rows gap.none) ∙ gap.makes new (own_cycle g c))

pub counter_there_kept : (g c : ℕ) (rows : List Counter) →
    is_some (position (is_counter g c) rows) ≡ true → rows ≡ with_counter g c rows
counter_there_kept g c rows h = by_place (position (is_counter g c) rows) refl h
  where
    new : Counter
    new = record { group = g; cycle = c; blocks = 0 }

    kept : (x : Counter) → counter_in g c rows ≡ Some x → rows ≡ with_counter g c rows
    kept x q =
        sym (ap (λ o. put counter_before (is_counter g c) (unwrap_or o new) rows) q
        ∙ put-same counter_before (is_counter g c) x rows q)

    by_place : (o : Option ℕ) → position (is_counter g c) rows ≡ o → is_some o ≡ true →
        rows ≡ with_counter g c rows
    by_place None e q = cc
    by_place (Some place) e q = kept (get_or rows place new) (found_counter g c place rows new e)
