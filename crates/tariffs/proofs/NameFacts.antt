-- Names of periods: each is found at its own place.
use Rattle.std.proofs.Common.{◌≡◌, ℕ, ◌+◌, Bool, true, false, not, ◌&&◌, ◌||◌, List, [], ◌∷◌, ◌++◌}
use Rattle.std.proofs.Common.{length, Option, Some, None, slice_get, ◌-◌, ◌≤◌, IfSome, unwrap_or}
use Rattle.std.proofs.Common.{zero, suc, refl, ap, ◌⊎◌, inl, inr, arith, nat_le, add-zero, zero-add}
use Rattle.std.proofs.Common.{sym}
use Rattle.std.specs.Prelude.{if◌then◌else◌, nat_eq}
use Rattle.std.specs.List.{list_all, list_any}
use Rattle.std.specs.Char.{is_ascii_lowercase}
use Rattle.std.proofs.lemmas.Bool.{and_parts}
use Rattle.std.proofs.lemmas.Bool.Decides.{nat_tests}
use Rattle.calendar.specs.declared.week.Period.{Period}
use Rattle.tariffs.specs.Names.{same_text, is_name, period_from, period_named, AreDistinct}

pub same_itself : (text : List ℕ) → same_text text text ≡ true
same_itself [] = refl
same_itself (b ∷ text) =
    let here : nat_eq b b ≡ true = grind (arith, nat_tests) in
    rw (here, same_itself text) refl

-- an element of a list with one more is one of the list, or the last
get_push : (names : List (List ℕ)) (last : List ℕ) (place : ℕ) (name : List ℕ) →
    slice_get (names ++ last ∷ []) place ≡ Some name →
    (slice_get names place ≡ Some name) ⊎ ((place ≡ length names) × (name ≡ last))
get_push [] last zero name h = inr (refl, (cc))
get_push [] last (suc place) name h = absurd (cc)
get_push (n ∷ names) last zero name h = inl h
get_push (n ∷ names) last (suc place) name h =
    elim (get_push names last place name h)
    [ inl here ↦ inl here | inr end ↦ inr (ap suc end.0, end.1) ]

choice : (test : Bool) (here rest more : Option Period) (p : Period) →
    (rest ≡ Some p → more ≡ Some p) → (if test then here else rest) ≡ Some p →
    (if test then here else more) ≡ Some p
choice true here rest more p later h = h
choice false here rest more p later h = later h

-- what is found stays found
found_push : (from : ℕ) (names : List (List ℕ)) (last text : List ℕ) (p : Period) →
    period_from from names text ≡ Some p → period_from from (names ++ last ∷ []) text ≡ Some p
found_push from [] last text p h = absurd (cc)
found_push from (n ∷ names) last text p h =
    choice (same_text n text) (Some (record { 0 = from })) (period_from (from + 1) names text)
    (period_from (from + 1) (names ++ last ∷ []) text) p (found_push (from + 1) names last text p) h

neither : (a b : Bool) → not (a || b) ≡ true → (a ≡ false) × (not b ≡ true)
neither true b h = absurd (cc)
neither false b h = (refl, h)

-- a new name is found at the end
new_found : (from : ℕ) (names : List (List ℕ)) (last : List ℕ) →
    not (list_any (λ other. same_text other last) names) ≡ true →
    period_from from (names ++ last ∷ []) last ≡ Some (record { 0 = from + length names })
new_found from [] last new = rw (same_itself last, add-zero from) refl
new_found from (n ∷ names) last new =
    let parts = neither (same_text n last) (list_any (λ other. same_text other last) names) new in
    let e : from + 1 + length names ≡ from + suc (length names) = omega arith in
    rw (parts.0, ← e) (new_found (from + 1) names last parts.1)

is_new : (before : List (List ℕ)) (name : List ℕ) → is_name before name ≡ true →
    not (list_any (λ other. same_text other name) before) ≡ true
is_new before name h =
    (and_parts
    (nat_le 1 (length name) && nat_le (length name) 16 && list_all is_ascii_lowercase name)
    (not (list_any (λ other. same_text other name) before)) h).1

pub distinct_push : (names : List (List ℕ)) (last : List ℕ) → is_name names last ≡ true →
    AreDistinct names → AreDistinct (names ++ last ∷ [])
distinct_push names last new distinct = λ place name at.
    elim (get_push names last place name at) [
      | inl here ↦ found_push 0 names last name (record { 0 = place }) (distinct place name here)
      | inr end ↦ rw (end.0, end.1)
          (rw (zero-add (length names)) at (new_found 0 names last (is_new names last new)))
    ]

pub same_is : (a b : List ℕ) → same_text a b ≡ true → a ≡ b
same_is [] [] h = refl
same_is [] (y ∷ b) h = absurd (cc)
same_is (x ∷ a) [] h = absurd (cc)
same_is (x ∷ a) (y ∷ b) h =
    let (here, more) = and_parts (nat_eq x y) (same_text a b) h in
    let first : x ≡ y = grind (arith, nat_tests) in
    let rest : a ≡ b = same_is a b more in
    λ i. first i ∷ rest i

-- the name at the place that was found
abbrev IsBack : ℕ → List (List ℕ) → List ℕ → Period → Type 0
IsBack from names text p = (from ≤ p.0) × (slice_get names (p.0 - from) ≡ Some text)

back_either : (test : Bool) (from : ℕ) (n : List ℕ) (names : List (List ℕ)) (text : List ℕ)
    (p : Period) → same_text n text ≡ test
    → (period_from (from + 1) names text ≡ Some p → IsBack (from + 1) names text p)
    → (if test then Some (record { 0 = from }) else period_from (from + 1) names text) ≡ Some p →
    IsBack from (n ∷ names) text p
back_either true from n names text p is later h =
    let here : from ≡ p.0 = ap (λ (o : Option Period). (unwrap_or o p).0) h in
    let first : p.0 - from ≡ 0 = omega (arith, here) in
    (omega (arith, here), rw first (ap Some (same_is n text is)))
back_either false from n names text p is later h =
    let (after, found) = later h in
    let next : p.0 - from ≡ suc (p.0 - (from + 1)) = omega (arith, after) in
    (omega (arith, after), rw next found)

back_from : (from : ℕ) (names : List (List ℕ)) (text : List ℕ) (p : Period) →
    period_from from names text ≡ Some p → IsBack from names text p
back_from from [] text p h = absurd (cc)
back_from from (n ∷ names) text p h =
    back_either (same_text n text) from n names text p refl (back_from (from + 1) names text p) h

-- the period of a name has this name
pub named_back : (names : List (List ℕ)) (text : List ℕ) (r : Option Period) →
    r ≡ period_named names text → IfSome r (λ p. slice_get names p.0 ≡ Some text)
named_back names text None is = tt
named_back names text (Some p) is =
    let e : p.0 - 0 ≡ p.0 = omega arith in
    rw e at (back_from 0 names text p (sym is)).1
