-- The days of a rule's changes, and that they are apart.
use Rattle.std.proofs.Common.{◌≡◌, ℕ, zero, suc, ◌+◌, ◌-◌, ◌*◌, ◌%◌, ◌≤◌, true}
use Rattle.std.proofs.Common.{false, refl, ap, ◌∙◌, arith, ℤ, pos, ◌+ℤ◌}
use Rattle.std.proofs.Common.{unsigned_abs, ◌≤ℤ◌, ◌-ℤ◌, inl, inr, ◌==◌}
use Rattle.std.specs.Prelude.{min}
use Rattle.std.proofs.lemmas.Bool.{cases_lt}
use Rattle.std.proofs.lemmas.Bool.Decides.{nat_tests}
use Rattle.jiff_core.specs.Calendar.{day_count, days_from_civil, days_in_month, days_in_year}
use Rattle.jiff_core.proofs.SignedLemmas.{signed_arith}
use Rattle.jiff_core.proofs.CalendarLemmas.{day_count-epoch, days_from_civil-day_count}
use Rattle.jiff_core.proofs.CalendarLemmas.{days_in_month_bounds, day_count-next_month}
use Rattle.jiff_core.proofs.CalendarLemmas.{day_count-next_year, day_count-later_year}
use Rattle.jiff_core.proofs.CalendarLemmas.{day_count-last_of_year, days_in_year_bounds}
use Rattle.jiff_core.proofs.CalendarLemmas.{day_count-day}
use Rattle.jiff_tz.specs.PosixRule.{weekday_of_month, sunday_number, last_weekday, nth_weekday}
use Rattle.calendar.specs.declared.summer.YearlyChange.{YearlyChange}
use Rattle.calendar.specs.Summer.{day_in}
use Rattle.calendar.specs.Summer.{IsYearly}
use Rattle.calendar.proofs.Shown.{size_is}

-- ---- the first day of a month, in days since 1968-12-31

-- 4,371,953 days are counted before 1970, so 4,371,588 before 1969
count_1969 : day_count (pos 1969) 1 1 ≡ 4_371_588
count_1969 =
    let year : days_in_year (pos 1969) ≡ 365 = refl in
    let next = day_count-next_year (pos 1969) (pos 1970) (omega (arith, signed_arith)) refl in
    omega (arith, next, year, day_count-epoch)

-- the first day of a year from 1969 on
year_late : (year : ℕ) → 1969 ≤ year → 4_371_588 ≤ day_count (pos year) 1 1
year_late year h =
    elim (cases_lt 1969 year) [
      | inl later ↦ (
          let on =
          day_count-later_year (pos 1969) (pos year) (omega (arith, signed_arith))
          (omega (arith, signed_arith, later)) in
          omega (arith, on, count_1969))
      | inr same ↦ (
          let is : year ≡ 1969 = omega (arith, h, same) in
          rw is (omega (arith, count_1969)))
    ]

-- the months of a year follow each other
pub months_later : (year month k : ℕ) → 1 ≤ month →
    day_count (pos year) month 1 + 28 * k ≤ day_count (pos year) (month + k) 1
months_later year month zero h =
    let same : month + 0 ≡ month = omega arith in rw same (omega arith)
months_later year month (suc k) h =
    let on = months_later year month k h in
    let next = day_count-next_month (pos year) (month + k) (omega (arith, h)) in
    let days = (days_in_month_bounds (pos year) (month + k)).1 in
    let same : month + suc k ≡ month + k + 1 = omega arith in
    rw same (omega (arith, on, next, days))

-- and the years
pub december : (year : ℕ) → day_count (pos year) 12 1 + 31 ≡ day_count (pos (year + 1)) 1 1
december year =
    let last = day_count-last_of_year (pos year) in
    let days = day_count-day (pos year) 12 1 31 (omega arith) (omega arith) in
    let next =
    day_count-next_year (pos year) (pos (year + 1)) (omega (arith, signed_arith))
    (omega (arith, signed_arith)) in
    omega (arith, last, days, next)

month_late : (year month : ℕ) → 1969 ≤ year → 1 ≤ month →
    4_371_588 ≤ day_count (pos year) month 1
month_late year month late some =
    let on = months_later year 1 (month - 1) (omega arith) in
    let same : 1 + (month - 1) ≡ month = omega (arith, some) in
    let at : day_count (pos year) 1 1 + 28 * (month - 1) ≤ day_count (pos year) month 1 =
    rw same at on in
    omega (arith, at, year_late year late)

-- ---- a day of a rule lies in its month

pub record IsInMonth (year month : ℕ) (z : ℤ) : Type 0 where
  pub is : pos (unsigned_abs (z +ℤ pos 366)) ≡ z +ℤ pos 366
  pub low : day_count (pos year) month 1 ≤ unsigned_abs (z +ℤ pos 366) + 4_371_587
  pub high : unsigned_abs (z +ℤ pos 366) + 4_371_588
      ≤ day_count (pos year) month 1 + days_in_month (pos year) month

last_inside : (year month weekday : ℕ) → 1969 ≤ year → 1 ≤ month →
    IsInMonth year month (last_weekday (pos year) month weekday)
last_inside year month weekday late some =
    let days = days_in_month_bounds (pos year) month in
    let last = days_from_civil-day_count (pos year) month (days_in_month (pos year) month) in
    let back =
    day_count-day (pos year) month 1 (days_in_month (pos year) month) (omega arith)
    (omega (arith, days)) in
    let start = month_late year month late some in
    let size =
    size_is (last_weekday (pos year) month weekday +ℤ pos 366)
    (omega (arith, signed_arith, days, last, back, start)) in
    record {
      is = size;
      low = omega (arith, signed_arith, days, last, back, start, size);
      high = omega (arith, signed_arith, days, last, back, start, size);
    }

nth_inside : (year month week weekday : ℕ) → 1969 ≤ year → 1 ≤ month → 1 ≤ week → week ≤ 4 →
    IsInMonth year month (nth_weekday (pos year) month week weekday)
nth_inside year month week weekday late some one four =
    let days = days_in_month_bounds (pos year) month in
    let first = days_from_civil-day_count (pos year) month 1 in
    let start = month_late year month late some in
    let size =
    size_is (nth_weekday (pos year) month week weekday +ℤ pos 366)
    (omega (arith, signed_arith, days, first, start, one, four)) in
    record {
      is = size;
      low = omega (arith, signed_arith, days, first, start, size, one, four);
      high = omega (arith, signed_arith, days, first, start, size, one, four);
    }

last_week : (c : YearlyChange) (year : ℕ) → c.week ≡ 5 →
    weekday_of_month (pos year) c.month c.week c.weekday
    ≡ last_weekday (pos year) c.month c.weekday
last_week c year is =
    let test : (c.week == 5) ≡ true = grind (arith, nat_tests) in rw test refl

other_week : (c : YearlyChange) (year : ℕ) → (c.week ≡ 5 → ⊥) →
    weekday_of_month (pos year) c.month c.week c.weekday
    ≡ nth_weekday (pos year) c.month c.week c.weekday
other_week c year is =
    let test : (c.week == 5) ≡ false = grind (arith, nat_tests) in rw test refl

pub inside : (c : YearlyChange) (year : ℕ) → IsYearly c → 1969 ≤ year →
    IsInMonth year c.month (weekday_of_month (pos year) c.month c.week c.weekday)
inside c year is late =
    elim (cases_lt c.week 5) [
      | inl below ↦ (
          let other : c.week ≡ 5 → ⊥ = λ five. omega (arith, five, below) in
          let same = other_week c year other in
          rw same (nth_inside year c.month c.week c.weekday late is.some_month is.some_week
          (omega (arith, below))))
      | inr five ↦ (
          let most = is.week in
          let same = last_week c year (omega (arith, five, most)) in
          rw same (last_inside year c.month c.weekday late is.some_month))
    ]

-- ---- as the code finds it

years_most : (k : ℕ) → day_count (pos (1969 + k)) 1 1 ≤ 4_371_588 + 366 * k
years_most zero = omega (arith, count_1969)
years_most (suc k) =
    let next =
    day_count-next_year (pos (1969 + k)) (pos (1969 + suc k)) (omega (arith, signed_arith))
    (omega (arith, signed_arith)) in
    let days = days_in_year_bounds (pos (1969 + k)) in
    omega (arith, years_most k, next, days)

year_most : (year : ℕ) → 1969 ≤ year → year ≤ 2101 → day_count (pos year) 1 1 ≤ 4_421_588
year_most year late early =
    let same : 1969 + (year - 1969) ≡ year = omega (arith, late) in
    let most : day_count (pos year) 1 1 ≤ 4_371_588 + 366 * (year - 1969) =
    rw same at (years_most (year - 1969)) in
    omega (arith, most, early)

month_most : (year month : ℕ) → 1969 ≤ year → year ≤ 2100 → 1 ≤ month → month ≤ 12 →
    day_count (pos year) month 1 ≤ 4_421_588
month_most year month late early some most =
    let on = months_later year month (12 - month) some in
    let same : month + (12 - month) ≡ 12 = omega (arith, most) in
    let at : day_count (pos year) month 1 + 28 * (12 - month) ≤ day_count (pos year) 12 1 =
    rw same at on in
    let next = year_most (year + 1) (omega (arith, late)) (omega (arith, early)) in
    omega (arith, at, december year, next)

pub day_most : (c : YearlyChange) (year : ℕ) → IsYearly c → 1969 ≤ year → year ≤ 2100 →
    day_in c year ≤ 100_000
day_most c year is late early =
    let here = inside c year is late in
    let high = here.high in
    let days = days_in_month_bounds (pos year) c.month in
    omega (arith, high, days, month_most year c.month late early is.some_month is.month)

pub day_least : (c : YearlyChange) (year : ℕ) → IsYearly c → 1969 ≤ year → 1 ≤ day_in c year
day_least c year is late =
    let here = inside c year is late in
    let low = here.low in
    omega (arith, low, month_late year c.month late is.some_month)

pub last_day : (year month : ℕ) (e : ℤ) →
    e ≡ days_from_civil (pos year) month (min 31 (days_in_month (pos year) month)) →
    e ≡ days_from_civil (pos year) month (days_in_month (pos year) month)
last_day year month e is =
    let days = days_in_month_bounds (pos year) month in
    let least : min 31 (days_in_month (pos year) month) ≡ days_in_month (pos year) month =
    omega (arith, days) in
    is ∙ ap (days_from_civil (pos year) month) least

pub first_day : (year month : ℕ) (e : ℤ) →
    e ≡ days_from_civil (pos year) month (min 1 (days_in_month (pos year) month)) →
    e ≡ days_from_civil (pos year) month 1
first_day year month e is =
    let days = days_in_month_bounds (pos year) month in
    let least : min 1 (days_in_month (pos year) month) ≡ 1 = omega (arith, days) in
    is ∙ ap (days_from_civil (pos year) month) least

-- a day of a month is late enough
pub day_late : (year month day : ℕ) (e : ℤ) → 1969 ≤ year → 1 ≤ month → 1 ≤ day →
    e ≡ days_from_civil (pos year) month day → pos 0 ≤ℤ (e +ℤ pos 366)
day_late year month day e late some one is =
    let start = month_late year month late some in
    let on = day_count-day (pos year) month 1 day (omega arith) one in
    let at = days_from_civil-day_count (pos year) month day in
    omega (arith, signed_arith, is, on, at, start, one)

-- rule: zone-changes
pub from_last : (c : YearlyChange) (year : ℕ) (e : ℤ) (a r : ℕ) → IsYearly c → 1969 ≤ year →
    c.week ≡ 5 → e ≡ days_from_civil (pos year) c.month (days_in_month (pos year) c.month) →
    pos a ≡ e +ℤ pos 366 → r ≡ (sunday_number e + 7 - c.weekday) % 7 →
    (r ≤ a) × (a - r ≡ day_in c year)
from_last c year e a r is late five e_is a_is r_is =
    let here = inside c year is late in
    let low = here.low in
    let size = here.is in
    let start = month_late year c.month late is.some_month in
    let day : weekday_of_month (pos year) c.month c.week c.weekday ≡ e -ℤ pos r =
    last_week c year five
    ∙ rw (← e_is, ← r_is) refl in (
      omega (arith, signed_arith, day, size, a_is, low, start),
      omega (arith, signed_arith, day, size, a_is, low, start),
    )

-- rule: zone-changes
pub from_first : (c : YearlyChange) (year : ℕ) (e : ℤ) (a r : ℕ) → IsYearly c → 1969 ≤ year →
    (c.week ≡ 5 → ⊥) → e ≡ days_from_civil (pos year) c.month 1 →
    pos a ≡ e +ℤ pos 366 → r ≡ (c.weekday + 7 - sunday_number e) % 7 →
    a + r + 7 * (c.week - 1) ≡ day_in c year
from_first c year e a r is late other e_is a_is r_is =
    let here = inside c year is late in
    let low = here.low in
    let size = here.is in
    let start = month_late year c.month late is.some_month in
    let day : weekday_of_month (pos year) c.month c.week c.weekday
    ≡ e +ℤ pos r +ℤ pos (7 * (c.week - 1)) =
    other_week c year other
    ∙ rw (← e_is, ← r_is) refl in
    omega (arith, signed_arith, day, size, a_is, low, start)
