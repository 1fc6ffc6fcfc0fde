-- The services of a session's request, by where it is in its session.
use Rattle.std.specs.Prelude.{ℕ, ◌&&◌, ◌==◌, List, [], Bool, true, not, Option, Some, None, is_some}
use Rattle.std.specs.Prelude.{is_none, Result, Ok, Err, nat_le}
use Rattle.std.specs.List.{list_any}
use Rattle.units.specs.Words.{GroupId, greatest_number}
use Rattle.serde_json.specs.Data.{Data, Items, no_items, item}
use Rattle.serde_json.specs.Events.{items_len}
use Rattle.serde_json.specs.Find.{get, as_object}
use Rattle.commands.specs.declared.avp.Avp.TheVariants as avp
use Rattle.commands.specs.declared.service.Requested.{Requested}
use Rattle.commands.specs.declared.service.Service.{Service}
use Rattle.commands.specs.Names.{name_of}
use Rattle.commands.specs.Used.{Used}
use Rattle.json_fields.specs.declared.fault.WireFault.{WireFault}
use Rattle.json_fields.specs.declared.fault.WireFault.TheVariants.{Missing, Invalid}
use Rattle.json_fields.specs.Gives.{◌>>=◌, where_holds, read_each}
use Rattle.json_fields.specs.Fields.{number_at, array_of}
use Rattle.wire_requests.specs.declared.phase.Phase.{Phase}
use Rattle.wire_requests.specs.declared.phase.Phase.TheVariants.{Initial, Update, Termination}
use Rattle.wire_requests.specs.Reports.{requested_of, required_at, used_of}

abbrev pub asked_when : Option Data → Result (Option Requested) WireFault
asked_when None = Ok None
asked_when (Some v) = requested_of v >>= λ r. Ok (Some r)

-- an initial request has to ask, an update may, a termination must not
unfoldable pub requested_at : Phase → Data → Result (Option Requested) WireFault
requested_at Initial d = required_at d >>= λ r. Ok (Some r)
requested_at Update d = asked_when (get (name_of avp.RequestedUnit) d)
requested_at Termination d =
    where_holds (is_none (get (name_of avp.RequestedUnit) d)) (Invalid avp.RequestedUnit) None

abbrev pub reported_when : Option Data → Result (Option Used) WireFault
reported_when None = Ok None
reported_when (Some v) = used_of v >>= λ u. Ok (Some u)

-- an initial request must not report, the others may
unfoldable pub used_at : Phase → Data → Result (Option Used) WireFault
used_at Initial d = where_holds (is_none (get (name_of avp.UsedUnit) d)) (Invalid avp.UsedUnit) None
used_at Update d = reported_when (get (name_of avp.UsedUnit) d)
used_at Termination d = reported_when (get (name_of avp.UsedUnit) d)

-- a service of this rating group is there
abbrev pub group_is_taken : List Service → GroupId → Bool
group_is_taken services group = list_any (λ (s : Service). s.group == group) services

-- a service, behind those of other groups
unfoldable pub service_at : Phase → List Service → Data → Result Service WireFault
service_at phase done d = do
  g ← number_at avp.RatingGroup 0 greatest_number d
  free ← where_holds (not (group_is_taken done g)) (Invalid avp.RatingGroup) g
  r ← requested_at phase d
  u ← used_at phase d
  Ok (record { group = g; requested = r; used = u })

abbrev pub are_objects : Items → Bool
are_objects no_items = true
are_objects (item d ds) = is_some (as_object d) && are_objects ds

abbrev pub services_from : Phase → Items → Result (List Service) WireFault
services_from phase ds = read_each (service_at phase) [] ds

abbrev pub fewest : Phase → ℕ
fewest Initial = 1
fewest Update = 1
fewest Termination = 0

-- at most 16 objects, one service after another
unfoldable pub services_of : Phase → Data → Result (List Service) WireFault
services_of phase d = do
  ds ← array_of avp.Services d
  few ← where_holds (nat_le (fewest phase) (items_len ds) && nat_le (items_len ds) 16)
      (Invalid avp.Services) ds
  objects ← where_holds (are_objects ds) (Invalid avp.Services) ds
  services_from phase ds

abbrev pub services_when : Phase → Option Data → Result (List Service) WireFault
services_when Initial None = Err (Missing avp.Services)
services_when Update None = Err (Missing avp.Services)
services_when Termination None = Ok []
services_when phase (Some v) = services_of phase v

-- a termination may come without services
unfoldable pub services_at : Phase → Data → Result (List Service) WireFault
services_at phase d = services_when phase (get (name_of avp.Services) d)
