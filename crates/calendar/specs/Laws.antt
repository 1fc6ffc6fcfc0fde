-- What the definitions of periods, weekdays and day ends say in other words.
-- Source: profile; the Gregorian calendar.
use Rattle.std.specs.Prelude.{◌≡◌, ◌≢◌, ℕ, ◌+◌, ◌-◌, ◌<◌, ◌≤◌, ◌⊎◌, pos, ◌+ℤ◌, Contains, Some}
use Rattle.std.specs.Prelude.{Option, IfSome, IfNone}
use Rattle.units.specs.Words.{Moment, Seconds, DayCount}
use Rattle.jiff.specs.Types.{Date}
use Rattle.jiff.specs.Words.{epoch_day, weekday_of}
use Rattle.calendar.specs.declared.week.Entry.{Entry}
use Rattle.calendar.specs.declared.zone.ZoneChange.{ZoneChange}
use Rattle.calendar.specs.declared.summer.SummerTime.{SummerTime}
use Rattle.calendar.specs.Clock.{ZoneRule, IsZone, since_1968, lead, clock, day, weekday}
use Rattle.calendar.specs.Summer.{IsSummerTime, zone_of_rule}
use Rattle.calendar.specs.Timetable.{Timetable, IsTimetable, IsEntryAt, period_at, IsChange}
use Rattle.calendar.specs.Timetable.{switch_within, midnight, day_end}

-- the period at a moment is that of any entry that holds its civil minute, wherever in the
-- list it is
-- rule: period.period-of-entry: tariff period, by its entry of the week
abbrev pub IsPeriodOfEntry : Type 0
IsPeriodOfEntry = (c : Timetable) (t : Moment) (e : Entry) → IsTimetable c → IsEntryAt c t e →
    period_at c t ≡ e.period

-- the first change of period after t and less than d seconds later; None where there is none
-- rule: switch.switch-first
pub record IsFirstChange (c : Timetable) (t : Moment) (d : Seconds) (first : Option Moment)
    : Type 0 where
  pub found : IfSome first (IsChange c t (t + d))
  pub least : IfSome first (λ s. (r : ℕ) → IsChange c t (t + d) r → s ≤ r)
  pub none : IfNone first ((r : ℕ) → IsChange c t (t + d) r → ⊥)

-- the tariff switch is the first change of period
-- rule: switch.switch-first: the switch is the first change of period; without one there is no
--   change
abbrev pub IsSwitchFirst : Type 0
IsSwitchFirst = (c : Timetable) (t : Moment) (d : Seconds) →
    IsFirstChange c t d (switch_within c t d)

-- the weekday at a moment is that of the date that the clock shows, by the Gregorian calendar
-- rule: period.weekday-of-date: the weekday at a moment is that of the date that the clock shows
abbrev pub IsWeekdayOfDate : Type 0
IsWeekdayOfDate = (zone : ZoneRule) (t : Moment) (d : Date) →
    epoch_day d +ℤ pos 1 ≡ pos (day zone t) →
    weekday_of d ≡ weekday zone t

-- the lead at a moment is that after the last change at or before it
-- rule: zone-changes.lead
abbrev pub IsLeadOfLast : Type 0
IsLeadOfLast = (zone : ZoneRule) (t : Moment) (last : ZoneChange) → IsZone zone →
    Contains zone.changes last → last.at ≤ since_1968 t →
    ((c : ZoneChange) → Contains zone.changes c → c.at ≤ since_1968 t → c.at ≤ last.at) →
    lead zone t ≡ last.lead

-- the changes of a rule make a zone: they are in order, each at least a week after the one before
-- rule: zone-changes.zone-of-rule: the changes are in order, a week apart and more
abbrev pub IsZoneOfRule : Type 0
IsZoneOfRule = (rule : SummerTime) → IsSummerTime rule → IsZone (zone_of_rule rule)

-- where some moment shows the 00:00 after a day, the day ends at the first that does
-- rule: day-end
pub record IsShownFirst (zone : ZoneRule) (t : Moment) (days : DayCount) (s : Moment) : Type 0 where
  pub shows : clock zone s ≡ midnight zone t days
  pub first : (r : ℕ) → clock zone r ≡ midnight zone t days → s ≤ r

-- where none does, a change skips it, and it is read with the lead before that change
-- rule: day-end
pub record IsSkipped (zone : ZoneRule) (t : Moment) (days : DayCount) (s : Moment) : Type 0 where
  pub never : (r : ℕ) → clock zone r ≢ midnight zone t days
  pub change : ℕ
  pub before : (r : ℕ) → r < change → clock zone r < midnight zone t days
  pub past : midnight zone t days < clock zone change
  pub read : s + lead zone (change - 1) ≡ midnight zone t days

-- the end of a day that ends after the first moment of all
-- rule: day-end
abbrev pub IsDayEndRead : Type 0
IsDayEndRead = (zone : ZoneRule) (t : Moment) (days : DayCount) (s : Moment) → IsZone zone →
    clock zone 0 < midnight zone t days →
    day_end zone t days ≡ Some s → IsShownFirst zone t days s ⊎ IsSkipped zone t days s
