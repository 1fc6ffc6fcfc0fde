-- What tariff books say of a rating group at a moment: its tariff, the cycle of its counter, the
-- tariff switch within the validity, the periods of a grant, and what a report costs.
-- Source: RFC 8506 sections 8.19, 8.20, 8.27 and 8.33; TS 32.296, rating function.
use Rattle.std.specs.Prelude.{◌-◌, ◌==◌, Bool, if◌then◌else◌, List, [], ◌∷◌, Option, Some, None}
use Rattle.std.specs.Prelude.{find, min, sum_by, unwrap_or}
use Rattle.std.specs.Option.{option_eq}
use Rattle.units.specs.Words.{Moment, Seconds, Micros, UnitCount, BlockCount, Place, GroupId}
use Rattle.units.specs.Words.{CycleNumber, latest_moment}
use Rattle.calendar.specs.Clock.{ZoneRule}
use Rattle.calendar.specs.Timetable.{Timetable, period_at, switch_within, validity_from, cycle_of}
use Rattle.calendar.specs.declared.week.Period.{Period}
use Rattle.tariffs.specs.Books.{Book}
use Rattle.shelves.specs.Shelves.{Shelf, book_at, number_at}
use Rattle.ledger.specs.declared.terms.Terms.{Terms}
use Rattle.ledger.specs.Ledger.{Ledger, counter}
use Rattle.tariffs.specs.Tariffs.{GroupTariff}
use Rattle.tariffs.specs.GroupPrices.{GroupPrices, prices_in}
use Rattle.tariffs.specs.declared.group_prices.Side.TheVariants.{Before, After}
use Rattle.units.specs.declared.blocks.TariffChangeUsage.{TariffChangeUsage}
use Rattle.units.specs.declared.blocks.TariffChangeUsage.TheVariants.{UnitBeforeTariffChange}
use Rattle.units.specs.declared.blocks.TariffChangeUsage.TheVariants.{UnitAfterTariffChange}
use Rattle.units.specs.declared.blocks.TariffChangeUsage.TheVariants.{UnitIndeterminate}
use Rattle.units.specs.contracts.blocks.TariffChangeUsagePartialEq.TheImpl.{ghosts as usage}
use Rattle.units.specs.declared.blocks.UsedPart.{UsedPart}
use Rattle.rating.specs.declared.grant.Grant.{Grant}
use Rattle.rating.specs.declared.grant.Periods.{Periods}
use Rattle.rating.specs.declared.report.Part.{Part}
use Rattle.rating.specs.declared.report.Rated.{Rated}
use Rattle.rating.specs.Rated.{part_of, rated_report}
use Rattle.rating.specs.Granted.{grant_of}

-- the tariff of a rating group; none for a group that the book doesn't have
abbrev pub tariff_of : Book → GroupId → Option GroupTariff
tariff_of b g = find (λ t. t.group == g) b.tariffs

abbrev pub cycle_with : ZoneRule → Option GroupTariff → Moment → CycleNumber
cycle_with zone None t = 0
cycle_with zone (Some x) t = cycle_of zone x.cycle t

-- the cycle of a group's counter at a moment
-- rule: counters.cycle-at: the cycle of a counter
abbrev pub cycle_at : Shelf → GroupId → Moment → CycleNumber
cycle_at s g t = cycle_with (book_at s t).calendar.zone (tariff_of (book_at s t) g) t

-- the tariff of a rating group at a moment
abbrev pub tariff_at : Shelf → Moment → GroupId → Option GroupTariff
tariff_at s t g = tariff_of (book_at s t) g

-- where a group's counter is, in the cycle at a moment
abbrev pub place_at : Shelf → Moment → GroupId → Ledger → Place
place_at s t g ledger = counter (cycle_at s g) g (cycle_at s g t) ledger

-- ---- the validity of a grant

-- the validity of a grant that is made at a moment
abbrev pub validity_of : Shelf → Moment → Seconds
validity_of s t = (book_at s t).validity

-- the book's validity; moments reach 43,200 seconds past the last one of commands, so that no
-- command's is cut
abbrev pub reach : Book → Moment → Seconds
reach b t = min b.validity (latest_moment - t)

-- the tariff switch within the validity (Tariff-Time-Change)
-- rule: switch.switch-by: tariff switch of a grant
abbrev pub switch_by : Book → Moment → Option Moment
switch_by b t = switch_within b.calendar t (reach b t)

-- the granted Validity-Time: cut at the next change of period after the switch
abbrev pub validity_by : Book → Moment → Seconds
validity_by b t = validity_from b.calendar t (reach b t)

abbrev pub period_after : Timetable → Moment → Option Moment → Period
period_after c t None = period_at c t
period_after c t (Some s) = period_at c s

-- the periods of a grant: at its moment, and at its switch
abbrev pub periods_by : Book → Moment → Periods
periods_by b t =
    record { before = period_at b.calendar t; after = period_after b.calendar t (switch_by b t) }

-- the same by the book at the moment: one that begins later is no switch and cuts nothing
-- rule: switch.switch-by
abbrev pub switch_at : Shelf → Moment → Option Moment
switch_at s t = switch_by (book_at s t) t

-- rule: validity
abbrev pub validity_at : Shelf → Moment → Seconds
validity_at s t = validity_by (book_at s t) t

abbrev pub periods_at : Shelf → Moment → Periods
periods_at s t = periods_by (book_at s t) t

-- the terms of a grant: the number of its book, and its periods
-- rule: grant-terms.terms-at: the terms of a grant
-- rule: report-book: the book and the periods of a report's parts
-- rule: report-period: the period of each part, with a grant and without
abbrev pub terms_at : Shelf → Moment → Terms
terms_at s t = record { book = number_at s t; periods = periods_at s t }

-- ---- reports

-- one period for all parts of a report
abbrev pub one_period : Period → Periods
one_period p = record { before = p; after = p }

-- what prices a report without a grant: the book at the moment, and the period at it
-- rule: report-book, report-period
abbrev pub terms_now : Shelf → Moment → Terms
terms_now s t =
    record { book = number_at s t; periods = one_period (period_at (book_at s t).calendar t) }

-- two values of Tariff-Change-Usage, or their absences, are the same
abbrev pub is_change : Option TariffChangeUsage → Option TariffChangeUsage → Bool
is_change = option_eq usage.eq

-- the units of the parts with this Tariff-Change-Usage
abbrev pub units_of : Option TariffChangeUsage → List UsedPart → UnitCount
units_of change parts = sum_by (λ p. if is_change p.change change then p.units.0 else 0) parts

abbrev pub four_parts : UnitCount → UnitCount → UnitCount → UnitCount → List Part
four_parts untagged before indeterminate after =
    part_of Before untagged ∷ part_of Before before ∷ part_of Before indeterminate
    ∷ part_of After after ∷ []

-- a report's parts as they are rated: those without a Tariff-Change-Usage, before the switch, and
-- on both sides of it by the period at the grant; then those after the switch by the period there
-- rule: report-order: the order of a report's parts
abbrev pub rated_parts : List UsedPart → List Part
rated_parts parts =
    four_parts (units_of None parts) (units_of (Some UnitBeforeTariffChange) parts)
    (units_of (Some UnitIndeterminate) parts) (units_of (Some UnitAfterTariffChange) parts)

-- the prices of a tariff in the periods of a grant
abbrev pub prices_by : GroupTariff → Periods → GroupPrices
prices_by t periods = prices_in t periods.before.0 periods.after.0

-- what a report costs after a use so far, from a place of the counter on, where its first blocks
-- are covered; a group without a tariff costs nothing
abbrev pub rated_with : Option GroupTariff → Periods → UnitCount → Place → BlockCount →
    List UsedPart → Rated
rated_with None periods used place covered parts =
    record { amount = record { 0 = 0 }; blocks = 0; covered = record { 0 = 0 } }
rated_with (Some t) periods used place covered parts =
    rated_report (prices_by t periods) used place covered (rated_parts parts)

-- ---- grants

-- the units that are wanted: what is requested, or the group's slice, and never more than the
-- greatest grant
-- rule: wanted: wanted units
abbrev pub wanted_units : GroupTariff → Option UnitCount → UnitCount
wanted_units t requested = min (unwrap_or requested t.slice) t.max_grant

abbrev pub wanted_with : Option GroupTariff → Option UnitCount → UnitCount
wanted_with None requested = 0
wanted_with (Some t) requested = wanted_units t requested

-- the greatest grant that an allowance and the funds cover; of a group without a tariff nothing is
-- granted
abbrev pub grant_with : Option GroupTariff → Periods → UnitCount → Place → Option UnitCount →
    Micros → BlockCount → Grant
grant_with None periods used place requested funds allowance = record {
  allowed = record { 0 = 0 };
  blocks = record { 0 = 0 };
  units = record { 0 = 0 };
  amount = record { 0 = 0 };
}
grant_with (Some t) periods used place requested funds allowance =
    grant_of (prices_by t periods) used place (wanted_units t requested) funds allowance
