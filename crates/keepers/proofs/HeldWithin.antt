-- What the rows of some groups hold is within what the rows hold among which each of them is found.
use Rattle.std.proofs.Common.{◌≡◌, ℕ, ◌+◌, ◌≤◌, Bool, true, false, cond, List, [], ◌∷◌, refl, sym}
use Rattle.std.proofs.Common.{subst, ◌∙◌, arith, Option, Some, None}
use Rattle.std.specs.Prelude.{if◌then◌else◌, not, filter}
use Rattle.std.specs.List.{find}
use Rattle.buckets.specs.Row.{BucketRow}
use Rattle.buckets.specs.Holding.{held_in}
use Rattle.reserving.specs.declared.session.SessionGroup.{SessionGroup}
use Rattle.reserving.specs.Sessions.{is_of, group_in, holds_in, held_by}
use Rattle.ledger.specs.Lists.{EachIn}
use Rattle.reserving.specs.Rows.{AreApart}
use Rattle.reserving.proofs.Keys.{is_key-sym}
use Rattle.reserving.proofs.LeftParted.{one_group}

-- what the reservation of a group that is found holds, of these sessions
abbrev pub held_found : (List ℕ → Bool) → BucketRow → Option SessionGroup → ℕ
held_found q b None = 0
held_found q b (Some r) = if q r.session then held_in (holds_in r.reservation) b else 0

abbrev without : SessionGroup → List SessionGroup → List SessionGroup
without x rows = filter (λ r. not (is_of x.session x.group r)) rows

less_held : (q : List ℕ → Bool) (p : SessionGroup → Bool) (rows : List SessionGroup)
    (b : BucketRow) →
    held_by q (filter p rows) b ≤ held_by q rows b
less_held q p [] b = omega arith
less_held q p (r ∷ rs) b = at (p r) (less_held q p rs b)
  where
    at : (t : Bool) → held_by q (filter p rs) b ≤ held_by q rs b →
        held_by q (cond t (r ∷ filter p rs) (filter p rs)) b ≤
        (if q r.session then held_in (holds_in r.reservation) b else 0) + held_by q rs b
    at true h = omega (arith, h)
    at false h = omega (arith, h)

without_held : (q : List ℕ → Bool) (b : BucketRow) (x : SessionGroup) (rows : List SessionGroup) →
    held_found q b (group_in x.session x.group rows) + held_by q (without x rows) b
    ≤ held_by q rows b
without_held q b x [] = omega arith
without_held q b x (r ∷ rs) =
    at (is_of x.session x.group r)
    (less_held q (λ y. not (is_of x.session x.group y)) rs b) (without_held q b x rs)
  where
    at : (t : Bool) → held_by q (without x rs) b ≤ held_by q rs b →
        held_found q b (group_in x.session x.group rs) + held_by q (without x rs) b
        ≤ held_by q rs b →
        held_found q b (cond t (Some r) (group_in x.session x.group rs))
        + held_by q (cond (not t) (r ∷ without x rs) (without x rs)) b ≤
        (if q r.session then held_in (holds_in r.reservation) b else 0) + held_by q rs b
    at true less rest = omega (arith, less)
    at false less rest = omega (arith, rest)

-- a filter that what is sought passes
find_kept : {A : Type 0} (q p : A → Bool) (rows : List A) → ((x : A) → q x ≡ true → p x ≡ true) →
    find q (filter p rows) ≡ find q rows
find_kept q p [] k = refl
find_kept q p (x ∷ xs) k = at (q x) (p x) refl refl (find_kept q p xs k)
  where
    at : (t u : Bool) → q x ≡ t → p x ≡ u → find q (filter p xs) ≡ find q xs →
        find q (cond u (x ∷ filter p xs) (filter p xs)) ≡ cond t (Some x) (find q xs)
    at t true e f rest = (λ i. cond (e i) (Some x) (rest i))
    at true false e f rest = absurd (not_so (sym f ∙ k x e))
      where
        not_so : false ≡ true → ⊥
        not_so e = cc
    at false false e f rest = rest

found_without : (x y : SessionGroup) (rows : List SessionGroup) →
    is_of x.session x.group y ≡ false →
    group_in y.session y.group (without x rows) ≡ group_in y.session y.group rows
found_without x y rows other =
    find_kept (is_of y.session y.group) (λ r. not (is_of x.session x.group r)) rows
    (λ r e. at r (is_of x.session x.group r) refl e)
  where
    at : (r : SessionGroup) (t : Bool) → is_of x.session x.group r ≡ t →
        is_of y.session y.group r ≡ true → not t ≡ true
    at r false f e = refl
    at r true f e =
        let same : is_of r.session r.group y ≡ true =
        is_key-sym y.session y.group r.session r.group ∙ e in
        absurd (not_so (sym other ∙ both r f same))
      where
        not_so : false ≡ true → ⊥
        not_so e = cc

        both : (r : SessionGroup) → is_of x.session x.group r ≡ true →
            is_of r.session r.group y ≡ true → is_of x.session x.group y ≡ true
        both r f same = one_group r.session r.group x y
            (is_key-sym x.session x.group r.session r.group ∙ f) same

-- each row's own is no more than what is found under its key
abbrev pub AreWithin : (List ℕ → Bool) → BucketRow → List SessionGroup → List SessionGroup → Type 0
AreWithin q b rows all =
    EachIn (λ r. held_found q b (Some r) ≤ held_found q b (group_in r.session r.group all)) rows

within_without : (q : List ℕ → Bool) (b : BucketRow) (x : SessionGroup)
    (rows all : List SessionGroup) →
    EachIn (λ y. is_of x.session x.group y ≡ false) rows → AreWithin q b rows all →
    AreWithin q b rows (without x all)
within_without q b x [] all d h = tt
within_without q b x (y ∷ ys) all d h = (
  subst (λ o. held_found q b (Some y) ≤ held_found q b o)
      (sym (found_without x y all d.0)) h.0,
  within_without q b x ys all d.1 h.1,
)

pub held_within : (q : List ℕ → Bool) (b : BucketRow) (rows all : List SessionGroup) →
    AreApart (λ x y. is_of x.session x.group y) rows → AreWithin q b rows all →
    held_by q rows b ≤ held_by q all b
held_within q b [] all d h = omega arith
held_within q b (x ∷ xs) all d h =
    omega (
      arith,
      h.0,
      without_held q b x all,
      held_within q b xs (without x all) d.1 (within_without q b x xs all d.0 h.1),
    )
