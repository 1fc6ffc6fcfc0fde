-- How a request is spelled where it is kept: compact JSON, with the members in the byte order of
-- their names.
use Rattle.std.specs.Prelude.{ℕ, List, [], ◌∷◌, Option, Some, None, option_map}
use Rattle.identifiers.specs.Words.{AccountName}
use Rattle.serde_json.specs.Data.{Data, string, array, object, Items, no_items, item}
use Rattle.serde_json.specs.Data.{no_members, member}
use Rattle.serde_json.specs.Written.{compact_text}
use Rattle.units.specs.declared.blocks.UnitKind.{UnitKind}
use Rattle.commands.specs.declared.avp.Avp.TheVariants as avp
use Rattle.commands.specs.Names.{name_of, tariff_change_usage}
use Rattle.commands.specs.Used.{Used}
use Rattle.commands.specs.Reports.{usage_number}
use Rattle.commands.specs.Refunds.{Refunded}
use Rattle.commands.specs.Codes.{kind_number, kind_of_ask, action_number}
use Rattle.units.specs.declared.blocks.UsedPart.{UsedPart}
use Rattle.commands.specs.declared.service.Requested.{Requested}
use Rattle.commands.specs.declared.service.Requested.TheVariants.{Slice, Units}
use Rattle.commands.specs.declared.service.Service.{Service}
use Rattle.commands.specs.declared.request.Event.{Event}
use Rattle.commands.specs.declared.request.Ask.{Ask}
use Rattle.commands.specs.declared.request.Ask.TheVariants as ask
use Rattle.commands.specs.declared.request.Request.{Request}
use Rattle.json_fields.specs.Spelling.{whole, perhaps, with_members, money_data}
use Rattle.json_fields.specs.Unit.{name_of_unit}

-- an empty object asks for the slice
abbrev pub requested_data : Requested → Data
requested_data Slice = object no_members
requested_data (Units quantity) =
    object (member (name_of_unit quantity.kind) (whole quantity.units) no_members)

abbrev pub tag_of : UsedPart → Option ℕ
tag_of p = option_map usage_number p.change

unfoldable pub part_data : UnitKind → UsedPart → Data
part_data kind p = object
    (member (name_of_unit kind) (whole p.units.0)
    (perhaps tariff_change_usage (option_map whole (tag_of p)) no_members))

abbrev pub part_items : UnitKind → List UsedPart → Items
part_items kind [] = no_items
part_items kind (p ∷ ps) = item (part_data kind p) (part_items kind ps)

abbrev pub used_data : Used → Data
used_data u = array (part_items u.kind u.parts)

unfoldable pub service_data : Service → Data
service_data s = object
    (member (name_of avp.RatingGroup) (whole s.group)
    (perhaps (name_of avp.RequestedUnit) (option_map requested_data s.requested)
    (perhaps (name_of avp.UsedUnit) (option_map used_data s.used) no_members)))

abbrev pub service_items : List Service → Items
service_items [] = no_items
service_items (s ∷ ss) = item (service_data s) (service_items ss)

-- an event has one service, which asks
abbrev pub event_data : Event → Data
event_data e = service_data (record { group = e.group; requested = Some e.requested; used = None })

unfoldable pub refund_data : Refunded → Data
refund_data r = object (member (name_of avp.Money) (money_data r.micros r.currency) no_members)

-- what is between the type and the Session-Id, each member by its name; the Requested-Action 1
-- is REFUND_ACCOUNT
abbrev pub ask_named : Ask → List (List ℕ × Data)
ask_named (ask.Initial ss) = (name_of avp.Services, array (service_items ss)) ∷ []
ask_named (ask.Update ss) = (name_of avp.Services, array (service_items ss)) ∷ []
ask_named (ask.Termination ss) = (name_of avp.Services, array (service_items ss)) ∷ []
ask_named (ask.Event e) =
    (name_of avp.Services, array (item (event_data e) no_items))
    ∷ (name_of avp.RequestedAction, whole (action_number e.action)) ∷ []
ask_named (ask.Refund r) =
    (name_of avp.RequestedAction, whole 1) ∷ (name_of avp.RequestedUnit, refund_data r) ∷ []

unfoldable pub subscription_data : AccountName → Data
subscription_data account = object
    (member (name_of avp.SubscriptionIdData) (string account)
    (member (name_of avp.SubscriptionIdType) (whole 0) no_members))

unfoldable pub request_data : Request → Data
request_data r = object
    (member (name_of avp.RequestNumber) (whole r.number)
    (member (name_of avp.RequestType) (whole (kind_number (kind_of_ask r.ask)))
    (with_members (ask_named r.ask)
    (member (name_of avp.SessionId) (string r.session)
    (member (name_of avp.SubscriptionId) (subscription_data r.account) no_members)))))

-- the text of a request
unfoldable pub request_text : Request → List ℕ
request_text r = compact_text (request_data r)
