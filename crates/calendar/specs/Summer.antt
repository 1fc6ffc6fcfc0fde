-- Summer time by a rule: which changes a clock has in each year.
-- Source: POSIX, Base Definitions 8.3 (TZ, Mm.w.d/time); RFC 9636 section 3.3.
use Rattle.std.specs.Prelude.{◌≡◌, ℕ, zero, suc, ◌+◌, ◌-◌, ◌*◌, ◌%◌, ◌<◌, ◌≤◌, ◌⊎◌, ◌++◌, List, []}
use Rattle.std.specs.Prelude.{◌∷◌, pos, ◌+ℤ◌, unsigned_abs, nat_lt, if◌then◌else◌, Bool}
use Rattle.jiff_tz.specs.PosixRule.{weekday_of_month}
use Rattle.calendar.specs.declared.zone.ZoneChange.{ZoneChange}
use Rattle.calendar.specs.declared.summer.YearlyChange.{YearlyChange}
use Rattle.calendar.specs.declared.summer.SummerTime.{SummerTime}
use Rattle.calendar.specs.Clock.{ZoneRule, IsLead}

-- the number of a change's day in a year, in days since 1968-12-31
-- rule: zone-changes: the changes of a civil year
abbrev pub day_in : YearlyChange → ℕ → ℕ
day_in c year = unsigned_abs (weekday_of_month (pos year) c.month c.week c.weekday +ℤ pos 366)

-- the moment of a change in a year, in seconds since 1968-12-31 00:00 UTC: so many seconds after
-- 00:00 of its day, on the clock that holds before the change, whose lead is this
-- rule: zone-changes
abbrev pub moment_in : YearlyChange → ℕ → ℕ → ℕ
moment_in c before year = day_in c year * 86400 + c.seconds + 86400 - before

-- the change to summer time and that back, in a year
abbrev pub beginning_in : SummerTime → ℕ → ZoneChange
beginning_in rule year =
    record { at = moment_in rule.begins rule.standard year; lead = rule.summer }

abbrev pub end_in : SummerTime → ℕ → ZoneChange
end_in rule year = record { at = moment_in rule.ends rule.summer year; lead = rule.standard }

-- summer time begins and ends within one civil year
abbrev pub is_northern : SummerTime → Bool
is_northern rule = nat_lt rule.begins.month rule.ends.month

-- both changes of a year, in the order of their months
-- rule: zone-changes
abbrev pub changes_in : SummerTime → ℕ → List ZoneChange
changes_in rule year =
    if is_northern rule then beginning_in rule year ∷ end_in rule year ∷ []
    else end_in rule year ∷ beginning_in rule year ∷ []

-- the changes of n years, from one on
unfoldable pub changes_from : SummerTime → ℕ → ℕ → List ZoneChange
changes_from rule year zero = []
changes_from rule year (suc n) = changes_in rule year ++ changes_from rule (year + 1) n

-- the zone: its changes from 1969 on, whose second one may fall into 1970 on UTC's clock, to 2100,
-- whose first one may fall into 2099. Before the first the lead is that which the first one ends
-- rule: zone-changes
abbrev pub zone_of_rule : SummerTime → ZoneRule
zone_of_rule rule = record {
  before = if is_northern rule then rule.standard else rule.summer;
  changes = changes_from rule 1969 132;
}

-- the ranges of a yearly change: a month, the weekday from 0 for Sunday, the first to fourth of its
-- kind in the month or, by 5, the last one, and a whole minute of the day
pub record IsYearly (c : YearlyChange) : Type 0 where
  pub some_month : 1 ≤ c.month
  pub month : c.month ≤ 12
  pub some_week : 1 ≤ c.week
  pub week : c.week ≤ 5
  pub weekday : c.weekday ≤ 6
  pub seconds : c.seconds < 86400
  pub whole : c.seconds % 60 ≡ 0

-- two months are at least two apart, round the year too
abbrev pub AreMonthsApart : ℕ → ℕ → Type 0
AreMonthsApart m n = (m + 2 ≤ n) × (n ≤ m + 10)

-- the ranges of a rule: both clocks within 14 hours of UTC, summer time at most two hours ahead
pub record IsSummerTime (rule : SummerTime) : Type 0 where
  pub standard : IsLead rule.standard
  pub summer : IsLead rule.summer
  pub later : rule.standard < rule.summer
  pub most : rule.summer ≤ rule.standard + 7200
  pub begins : IsYearly rule.begins
  pub ends : IsYearly rule.ends
  pub apart : AreMonthsApart rule.begins.month rule.ends.month
      ⊎ AreMonthsApart rule.ends.month rule.begins.month
