-- How a request asks for units and reports those used. Each fault inside is one of the whole
-- member.
use Rattle.std.specs.Prelude.{◌&&◌, List, [], Bool, not, Option, Some, None, is_none, Result, Ok}
use Rattle.std.specs.Prelude.{nat_le, option_and_then, unwrap_or}
use Rattle.std.specs.List.{list_any}
use Rattle.std.specs.Option.{option_eq}
use Rattle.serde_json.specs.Data.{Data, Items, no_items, item}
use Rattle.serde_json.specs.Events.{items_len}
use Rattle.serde_json.specs.Find.{get, as_number, as_u64, as_object}
use Rattle.units.specs.declared.blocks.UnitKind.{UnitKind}
use Rattle.units.specs.declared.blocks.UnitKind.TheVariants.{ServiceSpecific}
use Rattle.commands.specs.declared.avp.Avp.TheVariants as avp
use Rattle.commands.specs.declared.service.Requested.{Requested}
use Rattle.commands.specs.declared.service.Requested.TheVariants.{Slice, Units}
use Rattle.units.specs.declared.blocks.TariffChangeUsage.{TariffChangeUsage}
use Rattle.units.specs.declared.blocks.UsedPart.{UsedPart}
use Rattle.commands.specs.Names.{name_of, tariff_change_usage}
use Rattle.commands.specs.Used.{Used}
use Rattle.commands.specs.Reports.{same_usage, usage_numbered}
use Rattle.json_fields.specs.declared.fault.WireFault.{WireFault}
use Rattle.json_fields.specs.declared.fault.WireFault.TheVariants.{Invalid}
use Rattle.json_fields.specs.Gives.{◌>>=◌, or_fault, where_holds, read_each}
use Rattle.json_fields.specs.Fields.{member_at, array_of}
use Rattle.json_fields.specs.Unit.{kind_told, units_at}

-- with no unit member the rating group's slice is wanted
unfoldable pub wanted_in : Option UnitKind → Data → Result Requested WireFault
wanted_in None d = Ok Slice
wanted_in (Some kind) d = do
  n ← units_at (Invalid avp.RequestedUnit) 1 kind d
  Ok (Units (record { kind = kind; units = n }))

-- what a Requested-Service-Unit wants: units of one kind, and no money
unfoldable pub requested_of : Data → Result Requested WireFault
requested_of d = do
  m ← or_fault (Invalid avp.RequestedUnit) (as_object d)
  free ← where_holds (is_none (get (name_of avp.Money) d)) (Invalid avp.RequestedUnit) d
  wanted_in (kind_told d) d

-- a Requested-Service-Unit that has to be there
unfoldable pub required_at : Data → Result Requested WireFault
required_at d = do
  v ← member_at avp.RequestedUnit d
  requested_of v

-- ---- what was used

-- Tariff-Change-Usage (RFC 8506 section 8.27)
abbrev pub usage_when : Option Data → Result (Option TariffChangeUsage) WireFault
usage_when None = Ok None
usage_when (Some v) = do
  n ← or_fault (Invalid avp.UsedUnit) (option_and_then as_u64 (as_number v))
  u ← or_fault (Invalid avp.UsedUnit) (usage_numbered n)
  Ok (Some u)

unfoldable pub usage_at : Data → Result (Option TariffChangeUsage) WireFault
usage_at d = usage_when (get tariff_change_usage d)

-- a part with this tag, or one without where this is none, is there
abbrev pub tag_is_taken : List UsedPart → Option TariffChangeUsage → Bool
tag_is_taken parts tag = list_any (λ (p : UsedPart). option_eq same_usage p.change tag) parts

-- a part in units of this kind, behind those before it
unfoldable pub part_at : UnitKind → List UsedPart → Data → Result UsedPart WireFault
part_at kind done d = do
  m ← or_fault (Invalid avp.UsedUnit) (as_object d)
  n ← units_at (Invalid avp.UsedUnit) 0 kind d
  tag ← usage_at d
  free ← where_holds (not (tag_is_taken done tag)) (Invalid avp.UsedUnit) tag
  Ok (record { units = record { 0 = n }; change = tag })

-- all parts have the unit member of the first
unfoldable pub kind_of_first : Items → UnitKind
kind_of_first no_items = ServiceSpecific
kind_of_first (item d ds) = unwrap_or (kind_told d) ServiceSpecific

abbrev pub parts_from : UnitKind → Items → Result (List UsedPart) WireFault
parts_from kind ds = read_each (part_at kind) [] ds

-- what a Used-Service-Unit reports
unfoldable pub used_of : Data → Result Used WireFault
used_of d = do
  ds ← array_of avp.UsedUnit d
  few ← where_holds (nat_le 1 (items_len ds) && nat_le (items_len ds) 4) (Invalid avp.UsedUnit) ds
  parts ← parts_from (kind_of_first ds) ds
  Ok (record { kind = kind_of_first ds; parts = parts })
