-- What a request must not have beside what it says: with this, and only so, what is said is read.
use Rattle.std.specs.Prelude.{◌≡◌, ◌&&◌, negsuc, pos, int_le, true, None, Ok, is_some, IfSome}
use Rattle.std.specs.Prelude.{option_and_then}
use Rattle.std.specs.List.{AllByRecursion}
use Rattle.serde_json.specs.Data.{Data}
use Rattle.serde_json.specs.Find.{get, as_number, as_i64, as_object}
use Rattle.commands.specs.declared.avp.Avp.TheVariants as avp
use Rattle.commands.specs.declared.request.Ask.{Ask}
use Rattle.commands.specs.declared.request.Ask.TheVariants as ask
use Rattle.commands.specs.declared.request.Request.{Request}
use Rattle.commands.specs.Names.{name_of}
use Rattle.wire_requests.specs.Reading.{request_in}
use Rattle.wire_requests.specs.Rules.{IsRequest}
use Rattle.wire_requests.specs.Said.{SaysRequest}
use Rattle.wire_requests.specs.Told.{services_told, amount_told}

-- a Requested-Service-Unit is an object, and has no CC-Money beside its units
pub record IsOfUnits (value : Data) : Type 0 where
  pub object : is_some (as_object value) ≡ true
  pub moneyless : get (name_of avp.Money) value ≡ None

-- a service that asks, asks for units
abbrev pub AsksForUnits : Data → Type 0
AsksForUnits service = IfSome (get (name_of avp.RequestedUnit) service) IsOfUnits

-- an Exponent that is a number is one from -6 to 0
abbrev pub IsScale : Data → Type 0
IsScale value = IfSome (option_and_then as_i64 (as_number value))
    (λ z. (int_le (negsuc 5) z && int_le z (pos 0)) ≡ true)

-- nothing is in the way of what is asked: the services ask for units, and the money of a refund
-- is said in steps from a millionth to 1
-- rule: request-fields.free: what a text says is read, if nothing forbids it, and only then
abbrev pub IsFree : Ask → Data → Type 0
IsFree (ask.Refund refund) d =
    IfSome (option_and_then (get (name_of avp.Exponent)) (amount_told d)) IsScale
IsFree a d = AllByRecursion AsksForUnits (services_told d)

-- what is said is read, where nothing is in its way
-- rule: request-fields.free
abbrev pub ReadsAllThatIsSaid : Type 0
ReadsAllThatIsSaid = (r : Request) (d : Data) → IsRequest r → SaysRequest r d → IsFree r.ask d →
    request_in d ≡ Ok r

-- and what is read has nothing in its way
-- rule: request-fields.free
abbrev pub ReadsOnlyWhatIsFree : Type 0
ReadsOnlyWhatIsFree = (r : Request) (d : Data) → request_in d ≡ Ok r → IsFree r.ask d
