-- How many units of a kind a request or a grant can speak of.
use Rattle.std.specs.Prelude.{◌&&◌, Bool, nat_le}
use Rattle.units.specs.Words.{UnitCount, most_seconds, most_used}
use Rattle.units.specs.declared.blocks.UnitKind.{UnitKind}
use Rattle.units.specs.declared.blocks.UnitKind.TheVariants.{Time, TotalOctets, ServiceSpecific}

-- CC-Time is an Unsigned32 (RFC 8506 section 8.21); octets and events end at 10^18 (profile)
abbrev pub most_units : UnitKind → UnitCount
most_units Time = most_seconds
most_units TotalOctets = most_used
most_units ServiceSpecific = most_used

-- what can be asked for and granted: at least one unit
abbrev pub is_quantity : UnitKind → UnitCount → Bool
is_quantity kind units = nat_le 1 units && nat_le units (most_units kind)
