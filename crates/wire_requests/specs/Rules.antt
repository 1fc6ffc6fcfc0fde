-- What the types of a request's parts keep: each value of the program keeps it.
use Rattle.std.specs.Prelude.{◌≡◌, ℕ, ◌≤◌, List, true, Ok, IfSome, ⊤}
use Rattle.std.specs.List.{AllByRecursion}
use Rattle.units.specs.Words.{greatest_number}
use Rattle.identifiers.specs.Texts.{is_session_id, is_account_number}
use Rattle.commands.specs.Quantities.{is_quantity}
use Rattle.commands.specs.Used.{Used}
use Rattle.commands.specs.Reports.{is_report}
use Rattle.commands.specs.Services.{are_initial, are_update, are_termination}
use Rattle.commands.specs.Refunds.{is_refund}
use Rattle.commands.specs.declared.service.Requested.{Requested}
use Rattle.commands.specs.declared.service.Requested.TheVariants.{Slice, Units}
use Rattle.commands.specs.declared.service.Service.{Service}
use Rattle.commands.specs.declared.request.Event.{Event}
use Rattle.commands.specs.declared.request.Ask.{Ask}
use Rattle.commands.specs.declared.request.Ask.TheVariants as ask
use Rattle.commands.specs.declared.request.Request.{Request}
use Rattle.serde_json.specs.Data.{Data}
use Rattle.json_fields.specs.Order.{AreInByteOrder}
use Rattle.wire_requests.specs.Reading.{request_of}

abbrev pub IsRequested : Requested → Type 0
IsRequested Slice = ⊤
IsRequested (Units quantity) = is_quantity quantity.kind quantity.units ≡ true

abbrev pub IsUsed : Used → Type 0
IsUsed u = is_report u.kind u.parts ≡ true

pub record IsService (s : Service) : Type 0 where
  pub group : s.group ≤ greatest_number
  pub requested : IfSome s.requested IsRequested
  pub used : IfSome s.used IsUsed

pub record IsEvent (e : Event) : Type 0 where
  pub group : e.group ≤ greatest_number
  pub requested : IsRequested e.requested

abbrev pub IsAsk : Ask → Type 0
IsAsk (ask.Initial ss) = (are_initial ss ≡ true) × AllByRecursion IsService ss
IsAsk (ask.Update ss) = (are_update ss ≡ true) × AllByRecursion IsService ss
IsAsk (ask.Termination ss) = (are_termination ss ≡ true) × AllByRecursion IsService ss
IsAsk (ask.Event e) = IsEvent e
IsAsk (ask.Refund r) = is_refund r.micros r.currency ≡ true

pub record IsRequest (r : Request) : Type 0 where
  pub session : is_session_id r.session ≡ true
  pub number : r.number ≤ greatest_number
  pub account : is_account_number r.account ≡ true
  pub ask : IsAsk r.ask

-- what is written is read again
-- rule: request-written: a written request is read again
abbrev pub RequestsReadAgain : (Request → List ℕ) → Type 0
RequestsReadAgain text = (r : Request) → IsRequest r → request_of (text r) ≡ Ok r

-- what is written has its members in byte order
-- rule: request-written.in-byte-order
abbrev pub RequestsAreInOrder : (Request → Data) → Type 0
RequestsAreInOrder spelled = (r : Request) → IsRequest r → AreInByteOrder (spelled r)
