-- The fields of a request, read in their order: the first fault is the one reported.
use Rattle.std.specs.Prelude.{ℕ, ◌==◌, List, Option, Some, None, is_none, Result, Ok, if◌then◌else◌}
use Rattle.units.specs.Words.{greatest_number}
use Rattle.identifiers.specs.Words.{SessionName, AccountName}
use Rattle.serde_json.specs.Data.{Data, Items, no_items, item}
use Rattle.serde_json.specs.Find.{get, as_object}
use Rattle.identifiers.specs.Texts.{is_session_id, is_account_number}
use Rattle.commands.specs.declared.avp.Avp.TheVariants as avp
use Rattle.commands.specs.declared.request.RequestKind.{RequestKind}
use Rattle.commands.specs.declared.request.RequestKind.TheVariants as kind
use Rattle.commands.specs.declared.request.EventAction.{EventAction}
use Rattle.commands.specs.declared.request.Event.{Event}
use Rattle.commands.specs.declared.request.Ask.{Ask}
use Rattle.commands.specs.declared.request.Ask.TheVariants as ask
use Rattle.commands.specs.declared.request.Request.{Request}
use Rattle.commands.specs.Names.{name_of}
use Rattle.commands.specs.Codes.{kind_numbered, action_numbered}
use Rattle.json_fields.specs.declared.fault.WireFault.{WireFault}
use Rattle.json_fields.specs.declared.fault.WireFault.TheVariants.{Invalid}
use Rattle.json_fields.specs.Gives.{◌>>=◌, or_fault, where_holds}
use Rattle.json_fields.specs.Fields.{document_at, member_at, number_at, text_at, object_at}
use Rattle.json_fields.specs.Fields.{array_of}
use Rattle.wire_requests.specs.declared.phase.Phase.TheVariants.{Initial, Update, Termination}
use Rattle.wire_requests.specs.Reports.{required_at}
use Rattle.wire_requests.specs.Phases.{services_at}
use Rattle.wire_requests.specs.Refunds.{refund_at}

-- Session-Id
unfoldable pub session_at : Data → Result SessionName WireFault
session_at d = do
  s ← text_at avp.SessionId d
  where_holds (is_session_id s) (Invalid avp.SessionId) s

-- CC-Request-Type (RFC 8506 section 8.3)
unfoldable pub kind_at : Data → Result RequestKind WireFault
kind_at d = do
  n ← number_at avp.RequestType 1 4 d
  or_fault (Invalid avp.RequestType) (kind_numbered n)

-- the account is an E.164 number (Subscription-Id, RFC 8506 section 8.46)
unfoldable pub account_at : Data → Result AccountName WireFault
account_at d = do
  s ← object_at avp.SubscriptionId d
  t ← number_at avp.SubscriptionIdType 0 0 s
  n ← text_at avp.SubscriptionIdData s
  where_holds (is_account_number n) (Invalid avp.SubscriptionIdData) n

-- ---- events

abbrev pub only_item : Items → Option Data
only_item no_items = None
only_item (item d no_items) = Some d
only_item (item d (item e ds)) = None

-- the one service of an event: it asks for units and reports none
unfoldable pub event_of : EventAction → Data → Result Event WireFault
event_of action v = do
  ds ← array_of avp.Services v
  d ← or_fault (Invalid avp.Services) (only_item ds)
  m ← or_fault (Invalid avp.Services) (as_object d)
  g ← number_at avp.RatingGroup 0 greatest_number d
  r ← required_at d
  u ← where_holds (is_none (get (name_of avp.UsedUnit) d)) (Invalid avp.UsedUnit) g
  Ok (record { action = action; group = g; requested = r })

unfoldable pub event_at : EventAction → Data → Result Ask WireFault
event_at action d = do
  v ← member_at avp.Services d
  e ← event_of action v
  Ok (ask.Event e)

-- Requested-Action (RFC 8506 section 8.41); 1 is REFUND_ACCOUNT
unfoldable pub action_at : ℕ → Data → Result Ask WireFault
action_at n d =
    if n == 1 then (refund_at d >>= λ r. Ok (ask.Refund r))
    else (or_fault (Invalid avp.RequestedAction) (action_numbered n)
    >>= λ action. event_at action d)

unfoldable pub ask_at : RequestKind → Data → Result Ask WireFault
ask_at kind.Initial d = services_at Initial d >>= λ ss. Ok (ask.Initial ss)
ask_at kind.Update d = services_at Update d >>= λ ss. Ok (ask.Update ss)
ask_at kind.Termination d = services_at Termination d >>= λ ss. Ok (ask.Termination ss)
ask_at kind.Event d = do
  n ← number_at avp.RequestedAction 0 3 d
  action_at n d

-- ---- the request

-- the request that an object is, or the first fault
-- rule: used-parts: the parts of a report
-- rule: request-fields
unfoldable pub request_in : Data → Result Request WireFault
request_in d = do
  session ← session_at d
  kind ← kind_at d
  number ← number_at avp.RequestNumber 0 greatest_number d
  account ← account_at d
  ask ← ask_at kind d
  Ok (record { session = session; number = number; account = account; ask = ask })

-- the request that the bytes are, or the first fault
-- rule: request-fields: a request by the table of fields, or its first fault
unfoldable pub request_of : List ℕ → Result Request WireFault
request_of bytes = do
  d ← document_at bytes
  request_in d
