-- The end of a civil day: what a clock shows, read as a moment.
use Rattle.std.proofs.Common.{◌≡◌, ℕ, zero, suc, ◌+◌, ◌-◌, ◌<◌, ◌≤◌, ◌==◌, arith}
use Rattle.std.proofs.Common.{Bool, Some, None, true, false, nat_le, nat_lt, refl, ◌∙◌, ap}
use Rattle.std.proofs.Common.{sym, inl, inr, ◌^◌}
use Rattle.std.proofs.lemmas.Bool.Decides.{nat_tests}
use Rattle.std.specs.Prelude.{find, option_and_then}
use Rattle.std.proofs.lemmas.Bool.{cases_lt}
use Rattle.calendar.specs.Clock.{ZoneRule, IsZone, clock, next_change}
use Rattle.calendar.specs.Timetable.{numbers_from, reached, read_clock, in_time, moment_shown}
use Rattle.calendar.proofs.Stretches.{clock_stays, next_apart, next_later, lead_is}
use Rattle.calendar.proofs.Stretches.{le_yes, le_no}

-- ---- the first of some numbers that passes a test, and where none does

number_first : (p : ℕ → Bool) (m n s : ℕ) → m ≤ s → s < m + n → p s ≡ true →
    ((r : ℕ) → r < s → p r ≡ false) → find p (numbers_from m n) ≡ Some s
unfolding numbers_from
number_first p m zero s from below hit before = absurd (omega arith)
number_first p m (suc n) s from below hit before =
    elim (cases_lt m s) [
      | inl later ↦ rw (before m later)
          (number_first p (m + 1) n s (omega arith) (omega arith) hit before)
      | inr here ↦ (let is : s ≡ m = omega arith in
          let now : p m ≡ true = ap p (sym is) ∙ hit in
          rw now (ap Some (sym is)))
    ]

number_none : (p : ℕ → Bool) (m n : ℕ) → ((r : ℕ) → r < m + n → p r ≡ false) →
    find p (numbers_from m n) ≡ None
unfolding numbers_from
number_none p m zero before = refl
number_none p m (suc n) before =
    rw (before m (omega arith)) (number_none p (m + 1) n (λ r below. before r (omega arith)))

-- ---- how near the clock is

pub clock_high : (zone : ZoneRule) (t : ℕ) → IsZone zone → clock zone t ≤ t + 136_800
clock_high zone t is = let most = (lead_is zone t is).most in omega (arith, most)

pub clock_low : (zone : ZoneRule) (t : ℕ) → IsZone zone → t + 36_000 ≤ clock zone t
clock_low zone t is = let least = (lead_is zone t is).least in omega (arith, least)

-- ---- the first moment at which the clock has come so far

pub record IsFirst (zone : ZoneRule) (shown s : ℕ) : Type 0 where
  pub come : shown ≤ clock zone s
  pub before : (r : ℕ) → r < s → clock zone r < shown

reached_is : (zone : ZoneRule) (shown s : ℕ) → IsFirst zone shown s → s < 4_102_444_800 →
    reached zone shown ≡ Some s
unfolding reached
reached_is zone shown s is below =
    number_first (λ r. nat_le shown (clock zone r)) 0 4_102_444_800 s (omega arith)
    (omega (arith, below)) (le_yes shown (clock zone s) is.come)
    (λ r early. le_no shown (clock zone r) (is.before r early))

reached_none : (zone : ZoneRule) (shown : ℕ) →
    ((r : ℕ) → r < 4_102_444_800 → clock zone r < shown) → reached zone shown ≡ None
unfolding reached
reached_none zone shown before =
    number_none (λ r. nat_le shown (clock zone r)) 0 4_102_444_800
    (λ r early. le_no shown (clock zone r) (before r (omega (arith, early))))

late_none : (m : ℕ) → 4_102_444_800 ≤ m → in_time m ≡ None
late_none m h =
    let test : nat_lt m 4_102_444_800 ≡ false = grind (arith, nat_tests) in
    rw test refl

-- what the code finds for the first moment at which the clock has come so far
moment_is : (zone : ZoneRule) (shown s m : ℕ) → IsFirst zone shown s → m ≡ read_clock zone shown s →
    s ≤ m → in_time m ≡ moment_shown zone shown
moment_is zone shown s m first is order =
    elim (cases_lt s 4_102_444_800) [
      | inl below ↦ (
          let at = reached_is zone shown s first below in
          ap in_time is
          ∙ sym (ap (option_and_then (λ r. in_time (read_clock zone shown r))) at))
      | inr past ↦ (
          let at =
          reached_none zone shown (λ r early. first.before r (omega (arith, early, past))) in
          late_none m (omega (arith, past, order))
          ∙ sym (ap (option_and_then (λ r. in_time (read_clock zone shown r))) at))
    ]

-- a clock that is ahead of what is asked for already
read_here : (zone : ZoneRule) (shown s : ℕ) → clock zone s ≡ shown → s ≡ read_clock zone shown s
read_here zone shown s is =
    let test : (clock zone s == shown) ≡ true = grind (arith, nat_tests) in
    rw test refl

read_skipped : (zone : ZoneRule) (shown s m : ℕ) → shown < clock zone s →
    m ≡ s - 1 + (shown - clock zone (s - 1)) → m ≡ read_clock zone shown s
read_skipped zone shown s m past is =
    let test : (clock zone s == shown) ≡ false = grind (arith, nat_tests) in
    rw test is

-- ---- from 38 hours before what is shown, where no clock has come so far

-- up to the next change the clock goes on, and has not come so far before it should
not_before : (zone : ZoneRule) (shown start r : ℕ) → IsZone zone → start ≡ shown - 136_800 →
    shown < 2 ^ 33 → r < next_change zone start → r < start + (shown - clock zone start) →
    clock zone r < shown
not_before zone shown start r is at small below early =
    elim (cases_lt r start) [
      | inl sooner ↦ omega (arith, at, sooner, clock_high zone r is)
      | inr later ↦ (
          let on = clock_stays zone start r (omega (arith, at, small)) later below in
          omega (arith, on, early, later))
    ]

-- it comes so far before the next change
-- rule: day-end
pub read_before : (zone : ZoneRule) (shown start : ℕ) → IsZone zone → start ≡ shown - 136_800 →
    shown < 2 ^ 33 → start + (shown - clock zone start) < next_change zone start →
    in_time (start + (shown - clock zone start)) ≡ moment_shown zone shown
read_before zone shown start is at small below =
    let on =
    clock_stays zone start (start + (shown - clock zone start)) (omega (arith, at, small))
    (omega arith) below in
    let first : IsFirst zone shown (start + (shown - clock zone start)) = record {
      come = omega (arith, on);
      before = λ r early. not_before zone shown start r is at small (omega (arith, early, below))
          early;
    } in
    let high = clock_high zone start is in
    moment_is zone shown (start + (shown - clock zone start)) (start + (shown - clock zone start))
    first
    (elim (cases_lt shown (clock zone start)) [
      | inl past ↦ (
          let none : start ≡ 0 = omega (arith, high, past, at) in
          let here : start + (shown - clock zone start) ≡ start = omega (arith, past) in
          read_skipped zone shown (start + (shown - clock zone start))
          (start + (shown - clock zone start)) (omega (arith, on, past))
          (let same : clock zone (start + (shown - clock zone start) - 1) ≡ clock zone start =
          ap (clock zone) (omega (arith, here, none)) in
          omega (arith, none, here, same, past)))
      | inr within ↦ read_here zone shown (start + (shown - clock zone start))
          (omega (arith, on, within))
    ])
    (omega arith)

-- or after it
-- rule: day-end
pub read_after : (zone : ZoneRule) (shown start next : ℕ) → IsZone zone →
    start ≡ shown - 136_800 → shown < 2 ^ 33 → next ≡ next_change zone start →
    next ≤ start + (shown - clock zone start) → clock zone next ≤ shown →
    in_time (next + (shown - clock zone next)) ≡ moment_shown zone shown
read_after zone shown start next is at small change past come =
    let low = clock_low zone next is in
    let low' = clock_low zone start is in
    let later : start < next =
    omega (arith, change, next_later zone start (omega (arith, at, small))) in
    let near : next < 40_000_000_000 = omega (arith, past, at, small) in
    let far =
    next_apart zone start is (omega (arith, at, small)) (omega (arith, near, change)) in
    let same : next_change zone next ≡ next_change zone (next_change zone start) =
    ap (next_change zone) change in
    let apart : next + 604_800 ≤ next_change zone next = omega (arith, far, same, change) in
    let on =
    clock_stays zone next (next + (shown - clock zone next)) (omega (arith, near))
    (omega arith) (omega (arith, apart, low, later, at)) in
    let first : IsFirst zone shown (next + (shown - clock zone next)) = record {
      come = omega (arith, on);
      before = λ r early. elim (cases_lt r next) [
        | inl sooner ↦ not_before zone shown start r is at small (omega (arith, sooner, change))
            (omega (arith, sooner, past))
        | inr after ↦ (
            let here =
            clock_stays zone next r (omega (arith, near)) after
            (omega (arith, apart, low, later, at, early)) in
            omega (arith, here, early, after))
      ];
    } in
    moment_is zone shown (next + (shown - clock zone next)) (next + (shown - clock zone next)) first
    (read_here zone shown (next + (shown - clock zone next)) (omega (arith, on, come)))
    (omega arith)

-- or the change skips it
-- rule: day-end
pub read_gap : (zone : ZoneRule) (shown start next : ℕ) → IsZone zone →
    start ≡ shown - 136_800 → shown < 2 ^ 33 → next ≡ next_change zone start →
    next ≤ start + (shown - clock zone start) → shown < clock zone next →
    in_time (start + (shown - clock zone start)) ≡ moment_shown zone shown
read_gap zone shown start next is at small change past come =
    let later : start < next =
    omega (arith, change, next_later zone start (omega (arith, at, small))) in
    let on =
    clock_stays zone start (next - 1) (omega (arith, at, small)) (omega (arith, later))
    (omega (arith, later, change)) in
    let first : IsFirst zone shown next = record {
      come = omega (arith, come);
      before = λ r early. not_before zone shown start r is at small (omega (arith, early, change))
          (omega (arith, early, past));
    } in
    moment_is zone shown next (start + (shown - clock zone start)) first
    (read_skipped zone shown next (start + (shown - clock zone start)) come
    (omega (arith, on, past, later)))
    past

-- no moment of a command shows a day so late
pub read_never : (zone : ZoneRule) (shown : ℕ) → IsZone zone → 4_102_600_000 < shown →
    moment_shown zone shown ≡ None
read_never zone shown is far =
    let at =
    reached_none zone shown (λ r early. omega (arith, early, far, clock_high zone r is)) in
    ap (option_and_then (λ r. in_time (read_clock zone shown r))) at
