-- The unit members of an object: CC-Time, CC-Total-Octets and CC-Service-Specific-Units.
use Rattle.std.specs.Prelude.{ℕ, ◌&&◌, List, codes, Bool, is_some, is_none, Option, Some, None}
use Rattle.std.specs.Prelude.{Result, if◌then◌else◌}
use Rattle.serde_json.specs.Data.{Data}
use Rattle.serde_json.specs.Find.{get}
use Rattle.units.specs.declared.blocks.UnitKind.{UnitKind}
use Rattle.units.specs.declared.blocks.UnitKind.TheVariants.{Time, TotalOctets, ServiceSpecific}
use Rattle.commands.specs.Quantities.{most_units}
use Rattle.json_fields.specs.declared.fault.WireFault.{WireFault}
use Rattle.json_fields.specs.Gives.{◌>>=◌, or_fault, where_holds}
use Rattle.json_fields.specs.Fields.{whole_in}

-- RFC 8506 sections 8.21, 8.23 and 8.26
abbrev pub name_of_unit : UnitKind → List ℕ
name_of_unit Time = codes "CC-Time"
name_of_unit TotalOctets = codes "CC-Total-Octets"
name_of_unit ServiceSpecific = codes "CC-Service-Specific-Units"

abbrev pub has_unit : UnitKind → Data → Bool
has_unit kind d = is_some (get (name_of_unit kind) d)

abbrev pub lacks_unit : UnitKind → Data → Bool
lacks_unit kind d = is_none (get (name_of_unit kind) d)

-- the first unit member that is there
unfoldable pub kind_told : Data → Option UnitKind
kind_told d =
    if has_unit Time d then Some Time
    else (if has_unit TotalOctets d then Some TotalOctets
    else (if has_unit ServiceSpecific d then Some ServiceSpecific else None))

-- neither of the other two is there
abbrev pub lacks_others : UnitKind → Data → Bool
lacks_others Time d = lacks_unit TotalOctets d && lacks_unit ServiceSpecific d
lacks_others TotalOctets d = lacks_unit Time d && lacks_unit ServiceSpecific d
lacks_others ServiceSpecific d = lacks_unit Time d && lacks_unit TotalOctets d

-- the units of this kind, alone, from so many on; each fault is this one, of the member that holds
-- them
unfoldable pub units_at : WireFault → ℕ → UnitKind → Data → Result ℕ WireFault
units_at fault low kind d = do
  v ← or_fault fault (get (name_of_unit kind) d)
  n ← whole_in fault low (most_units kind) v
  where_holds (lacks_others kind d) fault n
