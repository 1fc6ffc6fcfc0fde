-- What a request says, member by member, whatever their order.
use Rattle.std.specs.Prelude.{◌≡◌, ℕ, ℤ, pos, List, [], ◌∷◌, Option, Some, None, Ok}
use Rattle.std.specs.Prelude.{option_and_then, true, ⊤, ◌⊎◌}
use Rattle.units.specs.Words.{Micros, UnitCount}
use Rattle.identifiers.specs.Words.{AccountName}
use Rattle.serde_json.specs.Data.{Data, Items, no_items, item}
use Rattle.serde_json.specs.Find.{get, as_number, as_u64, as_i64, as_str, as_array}
use Rattle.units.specs.declared.blocks.UnitKind.{UnitKind}
use Rattle.units.specs.declared.blocks.UsedPart.{UsedPart}
use Rattle.units.specs.declared.blocks.TariffChangeUsage.{TariffChangeUsage}
use Rattle.commands.specs.declared.avp.Avp.{Avp}
use Rattle.commands.specs.declared.avp.Avp.TheVariants as avp
use Rattle.commands.specs.declared.request.Ask.{Ask}
use Rattle.commands.specs.declared.request.Ask.TheVariants as ask
use Rattle.commands.specs.declared.request.Event.{Event}
use Rattle.commands.specs.declared.request.Request.{Request}
use Rattle.commands.specs.declared.service.Requested.{Requested}
use Rattle.commands.specs.declared.service.Requested.TheVariants.{Slice, Units}
use Rattle.commands.specs.declared.service.Service.{Service}
use Rattle.commands.specs.Used.{Used}
use Rattle.commands.specs.Reports.{usage_number}
use Rattle.commands.specs.Refunds.{Refunded}
use Rattle.commands.specs.Names.{name_of, tariff_change_usage}
use Rattle.commands.specs.Codes.{kind_number, kind_of_ask, action_number}
use Rattle.json_fields.specs.Unit.{name_of_unit, kind_told, lacks_others}
use Rattle.wire_requests.specs.Refunds.{micros_told}
use Rattle.wire_requests.specs.Reading.{request_in}

-- the member of this name is this text
pub record SaysText (a : Avp) (text : List ℕ) (d : Data) : Type 0 where
  pub value : Data
  pub stands : get (name_of a) d ≡ Some value
  pub is : as_str value ≡ Some text

-- the member of this name is this number
pub record SaysNumber (a : Avp) (n : ℕ) (d : Data) : Type 0 where
  pub value : Data
  pub stands : get (name_of a) d ≡ Some value
  pub is : option_and_then as_u64 (as_number value) ≡ Some n

-- the Subscription-Id names this account, of type END_USER_E164
pub record SaysAccount (account : AccountName) (d : Data) : Type 0 where
  pub value : Data
  pub stands : get (name_of avp.SubscriptionId) d ≡ Some value
  pub e164 : SaysNumber avp.SubscriptionIdType 0 value
  pub number : SaysText avp.SubscriptionIdData account value

-- the session, the type, the number and the account of a request
pub record SaysHead (r : Request) (d : Data) : Type 0 where
  pub session : SaysText avp.SessionId r.session d
  pub kind : SaysNumber avp.RequestType (kind_number (kind_of_ask r.ask)) d
  pub number : SaysNumber avp.RequestNumber r.number d
  pub account : SaysAccount r.account d

-- ---- what is asked for

-- this many units of a kind, and of no other
pub record SaysUnits (kind : UnitKind) (units : UnitCount) (d : Data) : Type 0 where
  pub value : Data
  pub stands : get (name_of_unit kind) d ≡ Some value
  pub is : option_and_then as_u64 (as_number value) ≡ Some units
  pub alone : lacks_others kind d ≡ true

-- a value that is there says this
pub record SaysValue {A : Type 0} (Says : A → Data → Type 0)
    (x : A) (told : Option Data) : Type 0 where
  pub value : Data
  pub stands : told ≡ Some value
  pub says : Says x value

-- a value that is there says this; none says nothing
abbrev pub SaysPerhaps : {A : Type 0} → (A → Data → Type 0) → Option A → Option Data → Type 0
SaysPerhaps Says None told = told ≡ None
SaysPerhaps Says (Some x) told = SaysValue Says x told

-- the items of an array say these, one each and in their order
abbrev pub SaysItems : {A : Type 0} → (A → Data → Type 0) → List A → Items → Type 0
SaysItems Says [] no_items = ⊤
SaysItems Says [] (item d ds) = ⊥
SaysItems Says (x ∷ xs) no_items = ⊥
SaysItems Says (x ∷ xs) (item d ds) = Says x d × SaysItems Says xs ds

-- an array says these
pub record SaysArray {A : Type 0} (Says : A → Data → Type 0)
    (xs : List A) (value : Data) : Type 0 where
  pub items : Items
  pub array : as_array value ≡ Some items
  pub says : SaysItems Says xs items

-- a Requested-Service-Unit: without a unit member it asks for the group's slice
abbrev pub SaysRequested : Requested → Data → Type 0
SaysRequested Slice value = kind_told value ≡ None
SaysRequested (Units q) value = SaysUnits q.kind q.units value

abbrev pub SaysChange : TariffChangeUsage → Data → Type 0
SaysChange change value = option_and_then as_u64 (as_number value) ≡ Some (usage_number change)

-- a part of a report: its units, and its Tariff-Change-Usage where it has one
pub record SaysPart (kind : UnitKind) (p : UsedPart) (value : Data) : Type 0 where
  pub units : SaysUnits kind p.units.0 value
  pub change : SaysPerhaps SaysChange p.change (get tariff_change_usage value)

abbrev pub SaysUsed : Used → Data → Type 0
SaysUsed u value = SaysArray (SaysPart u.kind) u.parts value

-- a service: its rating group, what it asks for and what it reports
pub record SaysService (s : Service) (value : Data) : Type 0 where
  pub group : SaysNumber avp.RatingGroup s.group value
  pub requested : SaysPerhaps SaysRequested s.requested (get (name_of avp.RequestedUnit) value)
  pub used : SaysPerhaps SaysUsed s.used (get (name_of avp.UsedUnit) value)

abbrev pub SaysServices : List Service → Data → Type 0
SaysServices services d = SaysValue (SaysArray SaysService) services (get (name_of avp.Services) d)

-- an event: what is to be done, and its one service
pub record SaysEvent (e : Event) (d : Data) : Type 0 where
  pub action : SaysNumber avp.RequestedAction (action_number e.action) d
  pub service : SaysServices
      (record { group = e.group; requested = Some e.requested; used = None } ∷ []) d

-- an exponent; without one it is 0
abbrev pub SaysExponent : ℤ → Option Data → Type 0
SaysExponent exponent None = exponent ≡ pos 0
SaysExponent exponent (Some value) = option_and_then as_i64 (as_number value) ≡ Some exponent

-- an amount: its digits times 10 to its exponent, in micro-units
pub record SaysAmount (micros : Micros) (value : Data) : Type 0 where
  pub digits : ℕ
  pub exponent : ℤ
  pub told : SaysNumber avp.ValueDigits digits value
  pub scaled : SaysExponent exponent (get (name_of avp.Exponent) value)
  pub is : micros ≡ micros_told digits exponent

-- money: its amount and its currency
pub record SaysMoney (r : Refunded) (value : Data) : Type 0 where
  pub amount : SaysValue SaysAmount r.micros (get (name_of avp.UnitValue) value)
  pub currency : SaysNumber avp.CurrencyCode r.currency value

-- a refund (REFUND_ACCOUNT is 1): the CC-Money of its Requested-Service-Unit
pub record SaysRefund (r : Refunded) (d : Data) : Type 0 where
  pub action : SaysNumber avp.RequestedAction 1 d
  pub money : SaysValue
      (λ (x : Refunded) value. SaysValue SaysMoney x (get (name_of avp.Money) value))
      r (get (name_of avp.RequestedUnit) d)

-- what a request asks, by its type; a termination may come without services
abbrev pub SaysAsk : Ask → Data → Type 0
SaysAsk (ask.Initial services) d = SaysServices services d
SaysAsk (ask.Update services) d = SaysServices services d
SaysAsk (ask.Termination []) d = (get (name_of avp.Services) d ≡ None) ⊎ SaysServices [] d
SaysAsk (ask.Termination (s ∷ ss)) d = SaysServices (s ∷ ss) d
SaysAsk (ask.Event event) d = SaysEvent event d
SaysAsk (ask.Refund refund) d = SaysRefund refund d

-- ---- the request

-- rule: request-fields.free
pub record SaysRequest (r : Request) (d : Data) : Type 0 where
  pub head : SaysHead r d
  pub asked : SaysAsk r.ask d

-- what is read is said
-- rule: request-fields.reads-what-is-said: what a request says is in its text
abbrev pub ReadsWhatIsSaid : Type 0
ReadsWhatIsSaid = (d : Data) (r : Request) → request_in d ≡ Ok r → SaysRequest r d
