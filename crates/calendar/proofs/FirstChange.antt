-- The switch is the first change of period.
use Rattle.std.proofs.Common.{◌≡◌, ℕ, zero, suc, ◌+◌, ◌-◌, ◌*◌, ◌/◌, ◌<◌, ◌≤◌, Bool, true}
use Rattle.std.proofs.Common.{false, Option, Some, None, arith, refl, ap, sym, ◌∙◌}
use Rattle.std.specs.Prelude.{find, IfSome, IfNone, if◌then◌else◌}
use Rattle.calendar.specs.Laws.{IsFirstChange, IsSwitchFirst}
use Rattle.calendar.specs.Timetable.{Timetable, IsChange, is_other, minutes_from, switch_within}
use Rattle.calendar.proofs.SwitchLemmas.{other_differs, other_is}

-- one of n minutes, from m on, that passes a test
record IsMinute (p : ℕ → Bool) (m n s : ℕ) : Type 0 where
  place : ℕ
  within : place < n
  is : s ≡ m + 60 * place
  hit : p s ≡ true

-- the first of n minutes, from m on, that passes a test
record IsFirst (p : ℕ → Bool) (m n : ℕ) (first : Option ℕ) : Type 0 where
  found : IfSome first (IsMinute p m n)
  least : IfSome first (λ s. (j : ℕ) → j < n → p (m + 60 * j) ≡ true → s ≤ m + 60 * j)
  none : IfNone first ((j : ℕ) → j < n → p (m + 60 * j) ≡ true → ⊥)

-- a place after the first one is a place of those after it
later_hit : (p : ℕ → Bool) (m n j : ℕ) → p m ≡ false → j < suc n → p (m + 60 * j) ≡ true →
    p (m + 60 + 60 * (j - 1)) ≡ true
later_hit p m n zero off lt hit =
    let e : m + 60 * 0 ≡ m = omega arith in
    absurd (let bad : false ≡ true = sym off ∙ (ap p (sym e) ∙ hit) in cc)
later_hit p m n (suc j) off lt hit =
    let e : m + 60 + 60 * (suc j - 1) ≡ m + 60 * suc j = omega arith in
    ap p e ∙ hit

not_first : (p : ℕ → Bool) (m j : ℕ) → p m ≡ false → p (m + 60 * j) ≡ true → 1 ≤ j
not_first p m zero off hit =
    let e : m + 60 * 0 ≡ m = omega arith in
    absurd (let bad : false ≡ true = sym off ∙ (ap p (sym e) ∙ hit) in cc)
not_first p m (suc j) off hit = omega arith

after : (p : ℕ → Bool) (m n : ℕ) (first : Option ℕ) → p m ≡ false → IsFirst p (m + 60) n first →
    IsFirst p m (suc n) first
after p m n None off h = record {
  found = tt;
  least = tt;
  none = λ j lt hit.
      let more : 1 ≤ j = not_first p m j off hit in
      h.none (j - 1) (omega (arith, lt, more)) (later_hit p m n j off lt hit);
}
after p m n (Some s) off h = record {
  found = record {
    place = suc h.found.place;
    within = omega (arith, h.found.within);
    is = omega (arith, h.found.is);
    hit = h.found.hit;
  };
  least = λ j lt hit.
      let more : 1 ≤ j = not_first p m j off hit in
      let least : s ≤ m + 60 + 60 * (j - 1) =
      h.least (j - 1) (omega (arith, lt, more)) (later_hit p m n j off lt hit) in
      omega (arith, least, more);
  none = tt;
}

by_first : (p : ℕ → Bool) (m n : ℕ) (test : Bool) (rest : Option ℕ) → p m ≡ test →
    IsFirst p (m + 60) n rest → IsFirst p m (suc n) (if test then Some m else rest)
by_first p m n true rest on h = record {
  found = record {
    place = 0;
    within = omega arith;
    is = omega arith;
    hit = on;
  };
  least = λ j lt hit. omega arith;
  none = tt;
}
by_first p m n false rest off h = after p m n rest off h

first_minute : (p : ℕ → Bool) (m n : ℕ) → IsFirst p m n (find p (minutes_from m n))
unfolding minutes_from
first_minute p m zero = record {
  found = tt;
  least = tt;
  none = λ j lt hit. absurd (omega (arith, lt));
}
first_minute p m (suc n) =
    by_first p m n (p m) (find p (minutes_from (m + 60) n)) refl (first_minute p (m + 60) n)

-- a change of period is one of the minutes between
change_place : (c : Timetable) (t d r : ℕ) → IsChange c t (t + d) r →
    60 * (t / 60 + 1) + 60 * (r / 60 - (t / 60 + 1)) ≡ r
change_place c t d r change = omega (arith, change.whole, change.later)

change_within : (c : Timetable) (t d r : ℕ) → IsChange c t (t + d) r →
    r / 60 - (t / 60 + 1) < (t + d - 1) / 60 - t / 60
change_within c t d r change = omega (arith, change.whole, change.later, change.before)

change_hit : (c : Timetable) (t d r : ℕ) → IsChange c t (t + d) r →
    is_other c t (60 * (t / 60 + 1) + 60 * (r / 60 - (t / 60 + 1))) ≡ true
change_hit c t d r change =
    ap (is_other c t) (change_place c t d r change) ∙ other_is c t r change.differs

first_change : (c : Timetable) (t d : ℕ) (first : Option ℕ) →
    IsFirst (is_other c t) (60 * (t / 60 + 1)) ((t + d - 1) / 60 - t / 60) first →
    IsFirstChange c t d first
first_change c t d None h = record {
  found = tt;
  least = tt;
  none = λ r change. h.none _ (change_within c t d r change) (change_hit c t d r change);
}
first_change c t d (Some s) h = record {
  found = record {
    whole = omega (arith, h.found.is);
    later = omega (arith, h.found.is);
    before = omega (arith, h.found.is, h.found.within);
    differs = other_differs c t s h.found.hit;
  };
  least = λ r change.
      omega (
        arith,
        h.least _ (change_within c t d r change) (change_hit c t d r change),
        change_place c t d r change,
      );
  none = tt;
}

-- rule: switch.switch-first
pub switch_is_first : IsSwitchFirst
unfolding switch_within
switch_is_first c t d = first_change c t d _ (first_minute (is_other c t) _ _)
