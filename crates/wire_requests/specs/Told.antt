-- What a fault of a request says: a member is missing only where an object that can hold it has
-- none of that name, and invalid only where one has it.
use Rattle.std.specs.Prelude.{◌≡◌, ℕ, ◌&&◌, List, [], ◌∷◌, Bool, true, Option, Some, None, is_some}
use Rattle.std.specs.Prelude.{is_none, Result, Ok, Err, nat_eq, option_and_then, if◌then◌else◌, ⊤}
use Rattle.std.specs.List.{list_any}
use Rattle.std.specs.Option.{option_eq}
use Rattle.serde_json.specs.Data.{Data, Items}
use Rattle.serde_json.specs.Find.{get, as_number, as_u64, as_array}
use Rattle.commands.specs.declared.avp.Avp.{Avp}
use Rattle.commands.specs.declared.avp.Avp.TheVariants as avp
use Rattle.commands.specs.Names.{name_of}
use Rattle.json_fields.specs.declared.fault.WireFault.{WireFault}
use Rattle.json_fields.specs.declared.fault.WireFault.TheVariants.{NotRequest, Missing, Invalid}
use Rattle.json_fields.specs.declared.fault.WireFault.TheVariants.{Memory}
use Rattle.json_fields.specs.Gives.{item_list}
use Rattle.wire_requests.specs.Reading.{request_in}

-- ---- where the members of a request are

abbrev pub values : Option Data → List Data
values None = []
values (Some v) = v ∷ []

-- the elements of the array of services
abbrev pub elements : Option Data → List Data
elements None = []
elements (Some v) = elements_of (as_array v)
  where
    elements_of : Option Items → List Data
    elements_of None = []
    elements_of (Some ds) = item_list ds

abbrev pub services_told : Data → List Data
services_told d = elements (get (name_of avp.Services) d)

-- the CC-Money of the request's Requested-Service-Unit, and the Unit-Value of that
abbrev pub money_told : Data → Option Data
money_told d = option_and_then (get (name_of avp.Money)) (get (name_of avp.RequestedUnit) d)

abbrev pub amount_told : Data → Option Data
amount_told d = option_and_then (get (name_of avp.UnitValue)) (money_told d)

-- the member of this name is this number
abbrev pub is_number : Avp → ℕ → Data → Bool
is_number a n d = option_eq nat_eq
    (option_and_then (λ v. option_and_then as_u64 (as_number v)) (get (name_of a) d)) (Some n)

-- an EVENT_REQUEST (4) that asks for REFUND_ACCOUNT (1)
abbrev pub asks_refund : Data → Bool
asks_refund d = is_number avp.RequestType 4 d && is_number avp.RequestedAction 1 d

-- the objects that can hold a member: the request itself, or the values in it
-- rule: request-faults: missing is reported only if an object that can hold the member has none,
--   invalid only if one has it
abbrev pub holders : Avp → Data → List Data
holders avp.SubscriptionIdType d = values (get (name_of avp.SubscriptionId) d)
holders avp.SubscriptionIdData d = values (get (name_of avp.SubscriptionId) d)
holders avp.RatingGroup d = services_told d
holders avp.RequestedUnit d = if asks_refund d then d ∷ [] else services_told d
holders avp.UsedUnit d = services_told d
holders avp.Money d = values (get (name_of avp.RequestedUnit) d)
holders avp.UnitValue d = values (money_told d)
holders avp.CurrencyCode d = values (money_told d)
holders avp.ValueDigits d = values (amount_told d)
holders avp.Exponent d = values (amount_told d)
holders a d = d ∷ []

-- ---- what is reported of them

-- of an object neither lack of memory nor another document is reported
-- rule: request-faults
abbrev pub IsRequestFaultTold : Data → WireFault → Type 0
IsRequestFaultTold d (Missing a) = list_any (λ h. is_none (get (name_of a) h)) (holders a d) ≡ true
IsRequestFaultTold d (Invalid a) = list_any (λ h. is_some (get (name_of a) h)) (holders a d) ≡ true
IsRequestFaultTold d NotRequest = ⊥
IsRequestFaultTold d Memory = ⊥

abbrev pub TellsOf : {A : Type 0} → Data → Result A WireFault → Type 0
TellsOf d (Ok x) = ⊤
TellsOf d (Err fault) = IsRequestFaultTold d fault

-- the fault of a request is reported of a member that is missing or there
-- rule: request-faults
abbrev pub FaultsAreTold : Type 0
FaultsAreTold = (d : Data) → TellsOf d (request_in d)
