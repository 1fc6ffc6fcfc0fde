-- The lead after the last change, and days that end in a gap.
use Rattle.std.proofs.Common.{◌≡◌, ◌≢◌, ℕ, zero, suc, ◌+◌, ◌-◌, ◌<◌, ◌≤◌, ◌⊎◌, Bool}
use Rattle.std.proofs.Common.{true, false, List, [], ◌∷◌, length, get_or, refl, ap, sym, ◌∙◌, arith}
use Rattle.std.proofs.Common.{inl, inr, nat_le, nat_lt, Option, Some, None, ◌==◌}
use Rattle.std.specs.Prelude.{Contains, find, option_and_then}
use Rattle.std.proofs.lemmas.Bool.{cases_Bool, cases_lt}
use Rattle.std.proofs.lemmas.Bool.Decides.{nat_tests}
use Rattle.calendar.specs.declared.zone.ZoneChange.{ZoneChange}
use Rattle.calendar.specs.Clock.{ZoneRule, IsZone, AreApart, lead_after, lead, clock, next_change}
use Rattle.calendar.specs.Timetable.{numbers_from, midnight, reached, read_clock, in_time, day_end}
use Rattle.calendar.specs.Laws.{IsShownFirst, IsSkipped}
use Rattle.calendar.proofs.Stretches.{le_yes, le_no, tail_apart, clock_stays, next_apart}
use Rattle.calendar.proofs.Stretches.{next_later}
use Rattle.calendar.proofs.Places.{all_later}
use Rattle.calendar.proofs.DayEnds.{IsFirst, clock_high, clock_low}

here_is : (c : ZoneChange) (cs : List ZoneChange) → Contains (c ∷ cs) c
here_is c cs = (0, omega arith, refl)

there_is : (c d : ZoneChange) (cs : List ZoneChange) → Contains cs d → Contains (c ∷ cs) d
there_is c d cs (i, within, is) = (suc i, omega (arith, within), is)

-- no change of the rest has come
none_come : (now : ℕ) (cs : List ZoneChange) (t : ℕ) →
    ((d : ZoneChange) → Contains cs d → t < d.at) → lead_after now cs t ≡ now
none_come now [] t late = refl
none_come now (c ∷ cs) t late =
    let test : nat_le c.at t ≡ false = le_no c.at t (late c (here_is c cs)) in rw test refl

last_at : (now : ℕ) (cs : List ZoneChange) (t i : ℕ) (c : ZoneChange) → AreApart cs →
    i < length cs →
    get_or cs i c ≡ c → c.at ≤ t →
    ((d : ZoneChange) → Contains cs d → d.at ≤ t → d.at ≤ c.at) → lead_after now cs t ≡ c.lead
last_at now [] t i c apart within is come last = absurd (omega (arith, within))
last_at now (x ∷ cs) t zero c apart within is come last =
    let at : x.at ≡ c.at = ap (λ (y : ZoneChange). y.at) is in
    let test : nat_le x.at t ≡ true = le_yes x.at t (omega (arith, at, come)) in
    let late : (d : ZoneChange) → Contains cs d → t < d.at = λ d in_rest.
    elim (cases_lt t d.at) [
      | inl after ↦ after
      | inr before ↦ (
          let least = last d (there_is x d cs in_rest) before in
          let apart' = all_later x cs in_rest.0 d apart in_rest.1 in
          let same : (get_or cs in_rest.0 d).at ≡ d.at = ap (λ (y : ZoneChange). y.at) in_rest.2 in
          absurd (omega (arith, least, apart', same, at)))
    ] in
    rw test (none_come x.lead cs t late ∙ ap (λ (y : ZoneChange). y.lead) is)
last_at now (x ∷ cs) t (suc i) c apart within is come last =
    let apart' = all_later x cs i c apart (omega (arith, within)) in
    let same : (get_or cs i c).at ≡ c.at = ap (λ (y : ZoneChange). y.at) is in
    let test : nat_le x.at t ≡ true = le_yes x.at t (omega (arith, apart', same, come)) in
    rw test (last_at x.lead cs t i c (tail_apart x cs apart) (omega (arith, within)) is come
    (λ d in_rest. last d (there_is x d cs in_rest)))

-- rule: zone-changes.lead
pub lead_is_last : (zone : ZoneRule) (t : ℕ) (last : ZoneChange) → IsZone zone →
    Contains zone.changes last → last.at ≤ t + 31_622_400 →
    ((c : ZoneChange) → Contains zone.changes c → c.at ≤ t + 31_622_400 → c.at ≤ last.at) →
    lead zone t ≡ last.lead
lead_is_last zone t last is (i, within, same) come latest =
    last_at zone.before zone.changes (t + 31_622_400) i last is.apart within same come latest

-- ---- the end of a day, read again

-- what a search among numbers finds
pub record Found (p : ℕ → Bool) (m n s : ℕ) : Type 0 where
  pub passes : p s ≡ true
  pub below : s < m + n
  pub before : (r : ℕ) → m ≤ r → r < s → p r ≡ false

none_some : (s : ℕ) → None ≡ Some s → ⊥
none_some s h = cc

some_is : (m s : ℕ) → Some m ≡ Some s → m ≡ s
some_is m s h = cc

find_is : (p : ℕ → Bool) (m n s : ℕ) → find p (numbers_from m n) ≡ Some s → Found p m n s
unfolding numbers_from
find_is p m zero s h = absurd (none_some s h)
find_is p m (suc n) s h =
    elim (cases_Bool (p m)) [
      | inl here ↦ (
          let is : m ≡ s = some_is m s (rw here at h) in
          record {
            passes = rw (← is) here;
            below = omega (arith, is);
            before = λ r from under. absurd (omega (arith, from, under, is));
          })
      | inr other ↦ (
          let rest : Found p (m + 1) n s = find_is p (m + 1) n s (rw other at h) in
          let below = rest.below in
          record {
            passes = rest.passes;
            below = omega (arith, below);
            before = λ r from under. elim (cases_lt m r) [
              | inl later ↦ rest.before r (omega (arith, later)) under
              | inr same ↦ (let is : r ≡ m = omega (arith, from, same) in rw is other)
            ];
          })
    ]

and_then_is : (o : Option ℕ) (f : ℕ → Option ℕ) (s : ℕ) → option_and_then f o ≡ Some s →
    (n : ℕ) × (o ≡ Some n) × (f n ≡ Some s)
and_then_is None f s h = absurd (none_some s h)
and_then_is (Some n) f s h = (n, refl, h)

in_time_is : (m s : ℕ) → in_time m ≡ Some s → s ≡ m
in_time_is m s h =
    elim (cases_Bool (nat_lt m 4_102_444_800)) [
      | inl below ↦ sym (some_is m s (rw below at h))
      | inr past ↦ absurd (none_some s (rw past at h))
    ]

first_is : (zone : ZoneRule) (shown n : ℕ) → reached zone shown ≡ Some n →
    IsFirst zone shown n × (n < 4_102_444_800)
unfolding reached
first_is zone shown n h =
    let found = find_is (λ s. nat_le shown (clock zone s)) 0 4_102_444_800 n h in
    let passes = found.passes in
    let below = found.below in (
      record {
        come = grind (arith, nat_tests);
        before = λ r early. (
            let test = found.before r (omega arith) early in grind (arith, nat_tests));
      },
      omega (arith, below),
    )

-- a clock that skips what is asked for never shows it
skipped : (zone : ZoneRule) (shown n r : ℕ) → IsZone zone → IsFirst zone shown n →
    n < 4_102_444_800 → 1 ≤ n → shown < clock zone n → clock zone r ≢ shown
skipped zone shown n r is first small some past same =
    let sooner : clock zone (n - 1) < shown = first.before (n - 1) (omega (arith, some)) in
    let later = next_later zone (n - 1) (omega (arith, small)) in
    let change : next_change zone (n - 1) ≡ n = elim (cases_lt n (next_change zone (n - 1))) [
      | inl on ↦ (
          let goes =
          clock_stays zone (n - 1) n (omega (arith, small)) (omega arith) on in
          absurd (omega (arith, goes, past, sooner, some)))
      | inr at ↦ omega (arith, at, later, some)
    ] in
    let apart =
    next_apart zone (n - 1) is (omega (arith, small)) (omega (arith, change, small)) in
    let next : next_change zone (next_change zone (n - 1)) ≡ next_change zone n =
    ap (next_change zone) change in
    elim (cases_lt r n) [
      | inl early ↦ (let less = first.before r early in omega (arith, less, same))
      | inr after ↦ elim (cases_lt r (next_change zone n)) [
        | inl inside ↦ (
            let goes = clock_stays zone n r (omega (arith, small)) after inside in
            omega (arith, goes, past, same))
        | inr far ↦ omega (
          arith,
          far,
          apart,
          next,
          change,
          same,
          past,
          clock_high zone n is,
          clock_low zone r is,
        )
      ]
    ]

ends_read : (zone : ZoneRule) (t days s n : ℕ) → IsZone zone →
    clock zone 0 < midnight zone t days → IsFirst zone (midnight zone t days) n →
    n < 4_102_444_800 → s ≡ read_clock zone (midnight zone t days) n →
    IsShownFirst zone t days s ⊎ IsSkipped zone t days s
ends_read zone t days s n is late first small reads =
    elim (cases_Bool (clock zone n == midnight zone t days)) [
      | inl shown ↦ (
          let same : clock zone n ≡ midnight zone t days = grind (arith, nat_tests) in
          let at : s ≡ n = rw shown at reads in
          inl (record {
            shows = ap (clock zone) at ∙ same;
            first = λ r shows. elim (cases_lt r s) [
              | inl early ↦ (
                  let less = first.before r (omega (arith, early, at)) in
                  absurd (omega (arith, less, shows)))
              | inr after ↦ after
            ];
          }))
      | inr other ↦ (
          let differs : clock zone n ≢ midnight zone t days = λ same. grind (arith, nat_tests) in
          let come = first.come in
          let past : midnight zone t days < clock zone n = elim
          (cases_lt (midnight zone t days) (clock zone n)) [
            | inl yes' ↦ yes'
            | inr no' ↦ absurd (differs (omega (arith, come, no')))
          ] in
          let some : 1 ≤ n = elim (cases_lt 0 n) [
            | inl yes' ↦ yes'
            | inr no' ↦ (
                let none : n ≡ 0 = omega (arith, no') in
                let here : clock zone n ≡ clock zone 0 = ap (clock zone) none in
                absurd (omega (arith, here, late, past)))
          ] in
          let at : s ≡ n - 1 + (midnight zone t days - clock zone (n - 1)) = rw other at reads in
          let sooner = first.before (n - 1) (omega (arith, some)) in
          inr (record {
            never = λ r. skipped zone (midnight zone t days) n r is first small some past;
            change = n;
            before = first.before;
            past = past;
            read = omega (arith, at, sooner, some);
          }))
    ]

-- rule: day-end
pub day_end_is_read : (zone : ZoneRule) (t days s : ℕ) → IsZone zone →
    clock zone 0 < midnight zone t days → day_end zone t days ≡ Some s →
    IsShownFirst zone t days s ⊎ IsSkipped zone t days s
day_end_is_read zone t days s is late ends =
    let (n, at, read) =
    and_then_is (reached zone (midnight zone t days))
    (λ r. in_time (read_clock zone (midnight zone t days) r)) s ends in
    let first = first_is zone (midnight zone t days) n at in
    ends_read zone t days s n is late first.0 first.1
    (in_time_is (read_clock zone (midnight zone t days) n) s read)
