-- Civil time: what the clock of a zone shows, reckoned from 1969-12-31 00:00 on that clock.
-- Source: profile; the Gregorian calendar. A rule's changes are made by specs/Summer.
use Rattle.std.specs.Prelude.{◌≡◌, ℕ, ℤ, ◌+◌, ◌-◌, ◌/◌, ◌%◌, ◌≤◌, pos, ◌+ℤ◌, ◌*ℤ◌, unsigned_abs}
use Rattle.std.specs.Prelude.{List, [], ◌∷◌, nat_le, if◌then◌else◌}
use Rattle.units.specs.Words.{Moment}
use Rattle.calendar.specs.declared.zone.ZoneChange.{ZoneChange}

-- a zone: the lead of its clock before its first change, and its changes in the order of time, each
-- with its moment and the lead from then on. The lead is 86,400 seconds and those by which the
-- clock is ahead of UTC: what it shows at 1970-01-01 00:00 UTC, in seconds since 1969-12-31 00:00
pub record ZoneRule : Type 0 where
  pub before : ℕ
  pub changes : List ZoneChange

-- the zone whose clock always has this lead
abbrev pub always : ℕ → ZoneRule
always lead = record { before = lead; changes = [] }

-- the lead of a clock that is so many minutes ahead of UTC
abbrev pub lead_of : ℤ → ℕ
lead_of minutes = unsigned_abs (pos 86400 +ℤ minutes *ℤ pos 60)

-- the zone whose clock is always this many minutes ahead of UTC
abbrev pub minutes_ahead : ℤ → ZoneRule
minutes_ahead minutes = always (lead_of minutes)

-- changes are reckoned in seconds since 1968-12-31 00:00 UTC, 366 days before 1970: none of a year
-- from 1969 on is earlier
abbrev pub since_1968 : Moment → ℕ
since_1968 t = t + 31_622_400

-- the lead after the last change at or before a moment
abbrev pub lead_after : ℕ → List ZoneChange → Moment → ℕ
lead_after now [] t = now
lead_after now (c ∷ cs) t = if nat_le c.at t then lead_after c.lead cs t else now

-- the moment of the first change after a moment; without one a number past all moments
abbrev pub next_after : List ZoneChange → ℕ → ℕ
next_after [] t = 60_000_000_000
next_after (c ∷ cs) t = if nat_le c.at t then next_after cs t else c.at

-- the lead of the zone's clock at a moment: all else asks this
-- rule: zone-changes.lead: the offset after the last change at or before a moment
abbrev pub lead : ZoneRule → Moment → ℕ
lead zone t = lead_after zone.before zone.changes (since_1968 t)

-- up to which moment this lead holds
abbrev pub next_change : ZoneRule → Moment → Moment
next_change zone t = next_after zone.changes (since_1968 t) - 31_622_400

-- a clock at most 14 hours from UTC, by whole minutes
pub record IsLead (lead : ℕ) : Type 0 where
  pub least : 36_000 ≤ lead
  pub most : lead ≤ 136_800
  pub whole : lead % 60 ≡ 0

-- each change is at a whole minute, to such a lead
abbrev pub AreChanges : List ZoneChange → Type 0
AreChanges [] = Unit {0}
AreChanges (c ∷ cs) = (c.at % 60 ≡ 0) × IsLead c.lead × AreChanges cs

-- each change is at least a week after the one before
abbrev pub AreApart : List ZoneChange → Type 0
AreApart [] = Unit {0}
AreApart (c ∷ []) = Unit {0}
AreApart (c ∷ next ∷ cs) = (c.at + 604_800 ≤ next.at) × AreApart (next ∷ cs)

-- what the type of a zone keeps
-- rule: zone-changes.zone-of-rule
pub record IsZone (zone : ZoneRule) : Type 0 where
  pub before : IsLead zone.before
  pub changes : AreChanges zone.changes
  pub apart : AreApart zone.changes

-- the seconds from 1969-12-31 00:00 to what the zone's clock shows at a moment
-- rule: zone-changes.lead
abbrev pub clock : ZoneRule → Moment → ℕ
clock zone t = t + lead zone t

-- what a clock shows, in seconds since 1969-12-31 00:00: the day since then, the weekday from 0 for
-- Monday (1969-12-31 was a Wednesday), and the minute of the day
abbrev pub shown_day : ℕ → ℕ
shown_day shown = shown / 86400

abbrev pub shown_weekday : ℕ → ℕ
shown_weekday shown = (shown_day shown + 2) % 7

abbrev pub shown_minute : ℕ → ℕ
shown_minute shown = shown % 86400 / 60

-- the civil day at a moment: days since 1969-12-31
abbrev pub day : ZoneRule → Moment → ℕ
day zone t = shown_day (clock zone t)

-- the weekday at a moment
abbrev pub weekday : ZoneRule → Moment → ℕ
weekday zone t = shown_weekday (clock zone t)

-- the minute of the civil day at a moment
abbrev pub minute : ZoneRule → Moment → ℕ
minute zone t = shown_minute (clock zone t)
