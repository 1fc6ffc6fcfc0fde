-- The rating groups of a book's document.
-- Source: RFC 8506 sections 8.16, 8.29 and 8.34 for what the keys say; the keys: profile.
use Rattle.std.specs.Prelude.{ℕ, ◌/◌, ◌==◌, ◌&&◌, not, List, [], Option, Some, None, Result, Ok}
use Rattle.std.specs.Prelude.{Err, nat_le, if◌then◌else◌, codes}
use Rattle.std.specs.List.{list_any}
use Rattle.units.specs.Words.{UnitCount, greatest_number, most_seconds, most_granted}
use Rattle.toml.specs.Data.{Data, Members}
use Rattle.calendar.specs.declared.cycle.Cycle.{Cycle}
use Rattle.calendar.specs.declared.cycle.Cycle.TheVariants as cycles
use Rattle.identifiers.specs.Texts.{is_redirect_address}
use Rattle.units.specs.declared.blocks.UnitKind.{UnitKind}
use Rattle.units.specs.declared.blocks.UnitKind.TheVariants.{Time, TotalOctets, ServiceSpecific}
use Rattle.tariffs.specs.declared.fault.BookFault.{BookFault}
use Rattle.tariffs.specs.declared.fault.BookFault.TheVariants.{OutOfRange}
use Rattle.tariffs.specs.Faults.{◌>>=◌, or_fault, where_holds}
use Rattle.tariffs.specs.Fields.{text_of, number_in, filled_array_of, table_at, collected}
use Rattle.tariffs.specs.declared.final_action.FinalAction.{FinalAction}
use Rattle.tariffs.specs.declared.final_action.FinalAction.TheVariants.{Terminate, Redirect}
use Rattle.tariffs.specs.Names.{same_text}
use Rattle.tariffs.specs.Tariffs.{GroupTariff}
use Rattle.tariffs.specs.PriceFields.{prices_of}

-- `id`: that of no group before
unfoldable pub id_of : List GroupTariff → Members → Result ℕ BookFault
id_of before t = do
  id ← number_in (codes "id") 0 greatest_number t
  where_holds (not (list_any (λ other. other.group == id) before)) OutOfRange id

-- the kinds of units by their words
abbrev pub unit_named : List ℕ → Option UnitKind
unit_named text =
    if same_text text (codes "time") then Some Time
    else (if same_text text (codes "octets") then Some TotalOctets
    else (if same_text text (codes "events") then Some ServiceSpecific else None))

-- `unit`
unfoldable pub unit_of : Members → Result UnitKind BookFault
unit_of t = do
  text ← text_of (codes "unit") t
  or_fault OutOfRange (unit_named text)

-- the most units of a grant: CC-Time has 32 bits
abbrev pub most_units : UnitKind → UnitCount
most_units Time = most_seconds
most_units TotalOctets = most_granted
most_units ServiceSpecific = most_granted

-- `max_grant`: not below the slice, and less than 10^9 whole blocks
unfoldable pub max_grant_of : UnitKind → ℕ → ℕ → Members → Result ℕ BookFault
max_grant_of unit block slice t = do
  most ← number_in (codes "max_grant") 1 most_granted t
  where_holds
      (nat_le most (most_units unit) && nat_le slice most && nat_le (most / block) 999_999_999)
      OutOfRange most

-- the cycles by their words
abbrev pub cycle_named : List ℕ → Option Cycle
cycle_named text =
    if same_text text (codes "none") then Some cycles.None
    else (if same_text text (codes "day") then Some cycles.Day
    else (if same_text text (codes "month") then Some cycles.Month else None))

-- `cycle`
unfoldable pub cycle_of : Members → Result Cycle BookFault
cycle_of t = do
  text ← text_of (codes "cycle") t
  or_fault OutOfRange (cycle_named text)

-- `redirect`
unfoldable pub redirect_of : Members → Result FinalAction BookFault
redirect_of t = do
  text ← text_of (codes "redirect") t
  where_holds (is_redirect_address text) OutOfRange (Redirect text)

-- `final`, and `redirect` for a redirect
unfoldable pub final_action_of : Members → Result FinalAction BookFault
final_action_of t = do
  text ← text_of (codes "final") t
  if same_text text (codes "terminate") then Ok Terminate
      else (if same_text text (codes "redirect") then redirect_of t else Err OutOfRange)

-- an entry of `group`, after those before it
unfoldable pub group_of : List (List ℕ) → List GroupTariff → Data → Result GroupTariff BookFault
group_of names before d = do
  t ← table_at d
  id ← id_of before t
  unit ← unit_of t
  block ← number_in (codes "block") 1 most_granted t
  slice ← number_in (codes "slice") 1 most_granted t
  max_grant ← max_grant_of unit block slice t
  cycle ← cycle_of t
  final_action ← final_action_of t
  prices ← prices_of names t
  Ok (record {
    group = id;
    unit = unit;
    block = block;
    slice = slice;
    max_grant = max_grant;
    cycle = cycle;
    final_action = final_action;
    prices = prices;
  })

-- `group`: 1 to 64 of them
unfoldable pub groups_of : List (List ℕ) → Members → Result (List GroupTariff) BookFault
groups_of names t = do
  ds ← filled_array_of (codes "group") 64 t
  collected (group_of names) [] ds
