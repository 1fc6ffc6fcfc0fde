-- What is said of a request is read.
use Rattle.std.proofs.Common.{◌≡◌, ℕ, zero, suc, ◌≤◌, lit≤, List, [], ◌∷◌, ◌++◌, length, true}
use Rattle.std.proofs.Common.{false, ◌&&◌, Option, Some, None, IfSome, is_some, is_none, Ok, refl}
use Rattle.std.proofs.Common.{sym, ap, subst, ◌∙◌, arith, append_assoc, append-nil, leb-true}
use Rattle.std.proofs.Common.{le-leb, nat_le, inl, inr}
use Rattle.std.specs.Prelude.{ℤ, pos, negsuc, int_le, option_and_then}
use Rattle.std.specs.List.{AllByRecursion, list_all}
use Rattle.std.proofs.lemmas.Bool.{and_parts}
use Rattle.serde_json.specs.Data.{Data, null, boolean, number, string, array, object, Items}
use Rattle.serde_json.specs.Data.{no_items, item, Members}
use Rattle.serde_json.specs.Events.{items_len}
use Rattle.serde_json.specs.Find.{get, as_array, as_object}
use Rattle.texts.specs.Steps.{each}
use Rattle.units.specs.declared.blocks.UnitKind.{UnitKind}
use Rattle.units.specs.declared.blocks.UnitKind.TheVariants as unit
use Rattle.units.specs.declared.blocks.TariffChangeUsage.{TariffChangeUsage}
use Rattle.units.specs.declared.blocks.UsedPart.{UsedPart}
use Rattle.identifiers.specs.Texts.{is_session_id, is_account_number}
use Rattle.commands.specs.declared.avp.Avp.{Avp}
use Rattle.commands.specs.declared.avp.Avp.TheVariants as avp
use Rattle.commands.specs.declared.request.RequestKind.{RequestKind}
use Rattle.commands.specs.declared.request.RequestKind.TheVariants as kind
use Rattle.commands.specs.declared.request.Event.{Event}
use Rattle.commands.specs.declared.request.Ask.{Ask}
use Rattle.commands.specs.declared.request.Ask.TheVariants as ask
use Rattle.commands.specs.declared.service.Requested.{Requested}
use Rattle.commands.specs.declared.service.Requested.TheVariants.{Slice, Units}
use Rattle.commands.specs.declared.service.Service.{Service}
use Rattle.commands.specs.Names.{name_of, tariff_change_usage}
use Rattle.commands.specs.Codes.{kind_number, kind_of_ask, action_number}
use Rattle.commands.specs.Quantities.{most_units}
use Rattle.commands.specs.Refunds.{Refunded}
use Rattle.commands.specs.Reports.{same_usage, tags_differ}
use Rattle.commands.specs.Services.{groups_differ, are_initial, are_update, are_termination}
use Rattle.commands.specs.Used.{Used}
use Rattle.commands.proofs.Inverses.{are_tables}
use Rattle.std.specs.Option.{option_eq}
use Rattle.std.specs.Prelude.{◌==◌}
use Rattle.json_fields.specs.declared.fault.WireFault.{WireFault}
use Rattle.json_fields.specs.declared.fault.WireFault.TheVariants.{Invalid}
use Rattle.json_fields.specs.Gives.{read_each, item_list}
use Rattle.json_fields.specs.Fields.{member_at, number_at, text_at, object_at, array_of}
use Rattle.json_fields.specs.Unit.{name_of_unit, lacks_unit, kind_told, units_at}
use Rattle.wire_requests.specs.declared.phase.Phase.{Phase}
use Rattle.wire_requests.specs.declared.phase.Phase.TheVariants.{Initial, Update, Termination}
use Rattle.wire_requests.specs.Reports.{wanted_in, requested_of, required_at, usage_when, usage_at}
use Rattle.wire_requests.specs.Reports.{tag_is_taken, part_at, kind_of_first, used_of}
use Rattle.wire_requests.specs.Phases.{requested_at, used_at}
use Rattle.wire_requests.specs.Phases.{group_is_taken, service_at, are_objects, fewest, services_of}
use Rattle.wire_requests.specs.Phases.{services_at}
use Rattle.wire_requests.specs.Refunds.{exponent_when, exponent_at, micros_told, money_at}
use Rattle.wire_requests.specs.Refunds.{refund_at}
use Rattle.wire_requests.specs.Reading.{session_at, kind_at, account_at, event_of}
use Rattle.wire_requests.specs.Reading.{event_at, action_at, ask_at, request_in}
use Rattle.wire_requests.specs.Rules.{IsRequested, IsUsed, IsService, IsEvent, IsAsk}
use Rattle.wire_requests.specs.Said.{SaysText, SaysNumber, SaysAccount, SaysUnits, SaysValue}
use Rattle.wire_requests.specs.Said.{SaysPerhaps, SaysItems, SaysArray, SaysRequested, SaysChange}
use Rattle.wire_requests.specs.Said.{SaysPart, SaysUsed, SaysService, SaysServices, SaysEvent}
use Rattle.wire_requests.specs.Said.{SaysExponent, SaysAmount, SaysRefund, SaysAsk}
use Rattle.wire_requests.specs.Told.{elements, services_told, amount_told}
use Rattle.wire_requests.specs.Free.{IsOfUnits, AsksForUnits, IsScale, IsFree, ReadsAllThatIsSaid}
use Rattle.wire_requests.proofs.Kept.{fits}
use Rattle.wire_requests.proofs.Micros.{at_least}
use Rattle.wire_requests.proofs.SaidServices.{absent}
use Rattle.wire_requests.proofs.RequestsAgain.{differ_front, and_three, and_four, report_parts}
use Rattle.wire_requests.proofs.RequestsAgain.{quantity_low, quantity_high, all_fit, told_by}
use Rattle.wire_requests.proofs.RequestsAgain.{action_small, refund_parts}

-- ---- members

pub text_read : (a : Avp) (d : Data) (s : List ℕ) → SaysText a s d → text_at a d ≡ Ok s
unfolding text_at member_at
text_read a d s says = rw (says.stands, says.is) refl

pub number_read : (a : Avp) (low high : ℕ) (d : Data) (n : ℕ) → SaysNumber a n d → low ≤ n →
    n ≤ high → number_at a low high d ≡ Ok n
unfolding number_at member_at
number_read a low high d n says l h =
    rw (says.stands, says.is, le-leb low n l, le-leb n high h) refl

-- what has a member is an object
pub is_object : (k : List ℕ) (d v : Data) → get k d ≡ Some v →
    (ms : Members) × (as_object d ≡ Some ms)
is_object k null v h = absurd (cc)
is_object k (boolean b) v h = absurd (cc)
is_object k (number n) v h = absurd (cc)
is_object k (string s) v h = absurd (cc)
is_object k (array ds) v h = absurd (cc)
is_object k (object ms) v h = (ms, refl)

object_read : (a : Avp) (d v : Data) → get (name_of a) d ≡ Some v → (k : List ℕ) (w : Data) →
    get k v ≡ Some w → object_at a d ≡ Ok v
unfolding object_at member_at
object_read a d v stands k w inner = rw (stands, (is_object k v w inner).1) refl

session_read : (d : Data) (s : List ℕ) → SaysText avp.SessionId s d → is_session_id s ≡ true →
    session_at d ≡ Ok s
unfolding session_at
session_read d s says is = rw (text_read avp.SessionId d s says, is) refl

account_read : (d : Data) (n : List ℕ) → SaysAccount n d → is_account_number n ≡ true →
    account_at d ≡ Ok n
unfolding account_at
account_read d n says is = rw (
  object_read avp.SubscriptionId d says.value says.stands (name_of avp.SubscriptionIdType)
      says.e164.value says.e164.stands,
  number_read avp.SubscriptionIdType 0 0 says.value 0 says.e164 (omega arith) (omega arith),
  text_read avp.SubscriptionIdData says.value n says.number,
  is,
) refl

kind_some : (k : RequestKind) → 1 ≤ kind_number k
kind_some kind.Initial = lit≤ tt
kind_some kind.Update = lit≤ tt
kind_some kind.Termination = lit≤ tt
kind_some kind.Event = lit≤ tt

kind_small : (k : RequestKind) → kind_number k ≤ 4
kind_small kind.Initial = lit≤ tt
kind_small kind.Update = lit≤ tt
kind_small kind.Termination = lit≤ tt
kind_small kind.Event = lit≤ tt

kind_read : (d : Data) (k : RequestKind) → SaysNumber avp.RequestType (kind_number k) d →
    kind_at d ≡ Ok k
unfolding kind_at
kind_read d k says = rw (
  number_read avp.RequestType 1 4 d (kind_number k) says (kind_some k) (kind_small k),
  are_tables.kinds.there k,
) refl

-- ---- units

units_read : (fault : WireFault) (low : ℕ) (kind : UnitKind) (d : Data) (n : ℕ) →
    SaysUnits kind n d → low ≤ n → n ≤ most_units kind → units_at fault low kind d ≡ Ok n
unfolding units_at
units_read fault low kind d n says l h =
    rw (says.stands, says.is, le-leb low n l, le-leb n (most_units kind) h, says.alone) refl

kind_is_told : (kind : UnitKind) (n : ℕ) (d : Data) → SaysUnits kind n d → kind_told d ≡ Some kind
unfolding kind_told
kind_is_told unit.Time n d says = rw says.stands refl
kind_is_told unit.TotalOctets n d says =
    let lacks = and_parts (lacks_unit unit.Time d) (lacks_unit unit.ServiceSpecific d) says.alone in
    rw (absent (get (name_of_unit unit.Time) d) lacks.0, says.stands) refl
kind_is_told unit.ServiceSpecific n d says =
    let lacks = and_parts (lacks_unit unit.Time d) (lacks_unit unit.TotalOctets d) says.alone in
    rw (
      absent (get (name_of_unit unit.Time) d) lacks.0,
      absent (get (name_of_unit unit.TotalOctets) d) lacks.1,
      says.stands,
    ) refl

there : {A : Type 0} (o : Option A) → is_some o ≡ true → (x : A) × (o ≡ Some x)
there None h = absurd (cc)
there (Some x) h = (x, refl)

requested_read : (r : Requested) (v : Data) → IsRequested r → SaysRequested r v → IsOfUnits v →
    requested_of v ≡ Ok r
unfolding requested_of wanted_in
requested_read Slice v is says free =
    rw ((there (as_object v) free.object).1, free.moneyless, says) refl
requested_read (Units q) v is says free = rw (
  (there (as_object v) free.object).1,
  free.moneyless,
  kind_is_told q.kind q.units v says,
  units_read (Invalid avp.RequestedUnit) 1 q.kind v q.units says (quantity_low q is)
      (quantity_high q is),
) refl

-- a service that asks for these units asks for units
abbrev IsFreeOf : Option Data → Type 0
IsFreeOf told = IfSome told IsOfUnits

required_read : (r : Requested) (d : Data) → IsRequested r →
    SaysValue SaysRequested r (get (name_of avp.RequestedUnit) d) → AsksForUnits d →
    required_at d ≡ Ok r
unfolding required_at member_at
required_read r d is says free =
    rw (says.stands) (requested_read r says.value is says.says (subst IsFreeOf says.stands free))

-- ---- reports

change_read : (o : Option TariffChangeUsage) (told : Option Data) → SaysPerhaps SaysChange o told →
    usage_when told ≡ Ok o
change_read None told says = rw says refl
change_read (Some u) told says = rw (says.stands, says.says, are_tables.usages.there u) refl

part_read : (kind : UnitKind) (done : List UsedPart) (p : UsedPart) (d : Data) →
    SaysPart kind p d → p.units.0 ≤ most_units kind → tag_is_taken done p.change ≡ false →
    part_at kind done d ≡ Ok p
unfolding part_at usage_at
part_read kind done p d says few free = rw (
  (is_object (name_of_unit kind) d says.units.value says.units.stands).1,
  units_read (Invalid avp.UsedUnit) 0 kind d p.units.0 says.units (omega arith) few,
  change_read p.change (get tariff_change_usage d) says.change,
  free,
) refl

parts_read : (kind : UnitKind) (done ps : List UsedPart) (ds : Items) →
    SaysItems (SaysPart kind) ps ds →
    list_all (λ (p : UsedPart). nat_le p.units.0 (most_units kind)) ps ≡ true →
    tags_differ (done ++ ps) ≡ true → read_each (part_at kind) done ds ≡ Ok (done ++ ps)
unfolding each
parts_read kind done [] no_items says h d = ap Ok (sym (append-nil done))
parts_read kind done [] (item v ds) says h d = absurd says
parts_read kind done (p ∷ ps) no_items says h d = absurd says
parts_read kind done (p ∷ ps) (item v ds) says h d =
    let q = and_parts (nat_le p.units.0 (most_units kind))
    (list_all (λ (x : UsedPart). nat_le x.units.0 (most_units kind)) ps) h in
    let free =
    differ_front (λ (x y : UsedPart). option_eq same_usage x.change y.change) done ps p d in
    let next : tags_differ ((done ++ p ∷ []) ++ ps) ≡ true = rw (append_assoc done (p ∷ []) ps) d in
    rw (part_read kind done p v says.0 (leb-true p.units.0 (most_units kind) q.0) free)
    (parts_read kind (done ++ p ∷ []) ps ds says.1 q.1 next
    ∙ ap Ok (append_assoc done (p ∷ []) ps))

as_many : {A : Type 0} (Says : A → Data → Type 0) (xs : List A) (ds : Items) →
    SaysItems Says xs ds → items_len ds ≡ length xs
as_many Says [] no_items says = refl
as_many Says [] (item d ds) says = absurd says
as_many Says (x ∷ xs) no_items says = absurd says
as_many Says (x ∷ xs) (item d ds) says = ap suc (as_many Says xs ds says.1)

first_read : (kind : UnitKind) (ps : List UsedPart) (ds : Items) → 1 ≤ length ps →
    SaysItems (SaysPart kind) ps ds → kind_of_first ds ≡ kind
unfolding kind_of_first
first_read kind [] ds some says = absurd (omega arith)
first_read kind (p ∷ ps) no_items some says = absurd says
first_read kind (p ∷ ps) (item d ds) some says =
    rw (kind_is_told kind p.units.0 d says.0.units) refl

used_read : (u : Used) (v : Data) → IsUsed u → SaysUsed u v → used_of v ≡ Ok u
unfolding used_of array_of
used_read u v is says =
    let r = report_parts u.kind u.parts is in
    rw (
      says.array,
      as_many (SaysPart u.kind) u.parts says.items says.says,
      r.low,
      r.high,
      first_read u.kind u.parts says.items (leb-true 1 (length u.parts) r.low) says.says,
      parts_read u.kind [] u.parts says.items says.says r.most r.differ,
    ) refl

-- ---- services

no : {X : Type 0} → false ≡ true → X
no e = absurd (cc)

asked_read : (phase : Phase) (o : Option Requested) (u : Option Used) (g : ℕ) (d : Data) →
    IfSome o IsRequested → SaysPerhaps SaysRequested o (get (name_of avp.RequestedUnit) d) →
    AsksForUnits d → fits phase (record { group = g; requested = o; used = u }) ≡ true →
    requested_at phase d ≡ Ok o
unfolding requested_at
asked_read Initial None u g d is says free f = no f
asked_read Initial (Some r) u g d is says free f = rw (required_read r d is says free) refl
asked_read Update None u g d is says free f = rw says refl
asked_read Update (Some r) u g d is says free f = rw (
  says.stands,
  requested_read r says.value is says.says (subst IsFreeOf says.stands free),
) refl
asked_read Termination None u g d is says free f = rw says refl
asked_read Termination (Some r) u g d is says free f = no f

reported_read : (phase : Phase) (o : Option Requested) (u : Option Used) (g : ℕ) (d : Data) →
    IfSome u IsUsed → SaysPerhaps SaysUsed u (get (name_of avp.UsedUnit) d) →
    fits phase (record { group = g; requested = o; used = u }) ≡ true → used_at phase d ≡ Ok u
unfolding used_at
reported_read Initial o None g d is says f = rw says refl
reported_read Initial o (Some u) g d is says f = no (and_parts (is_some o) (is_none (Some u)) f).1
reported_read Update o None g d is says f = rw says refl
reported_read Update o (Some u) g d is says f =
    rw (says.stands, used_read u says.value is says.says) refl
reported_read Termination o None g d is says f = rw says refl
reported_read Termination o (Some u) g d is says f =
    rw (says.stands, used_read u says.value is says.says) refl

service_read : (phase : Phase) (done : List Service) (s : Service) (d : Data) → IsService s →
    SaysService s d → AsksForUnits d → fits phase s ≡ true → group_is_taken done s.group ≡ false →
    service_at phase done d ≡ Ok s
unfolding service_at
service_read phase done s d is says units f free = rw (
  number_read avp.RatingGroup 0 4294967295 d s.group says.group (omega arith) is.group,
  free,
  asked_read phase s.requested s.used s.group d is.requested says.requested units f,
  reported_read phase s.requested s.used s.group d is.used says.used f,
) refl

services_read : (phase : Phase) (done ss : List Service) (ds : Items) →
    AllByRecursion IsService ss →
    SaysItems SaysService ss ds → AllByRecursion AsksForUnits (item_list ds) →
    list_all (fits phase) ss ≡ true → groups_differ (done ++ ss) ≡ true →
    read_each (service_at phase) done ds ≡ Ok (done ++ ss)
unfolding each
services_read phase done [] no_items is says units f d = ap Ok (sym (append-nil done))
services_read phase done [] (item v ds) is says units f d = absurd says
services_read phase done (s ∷ ss) no_items is says units f d = absurd says
services_read phase done (s ∷ ss) (item v ds) is says units f d =
    let q = and_parts (fits phase s) (list_all (fits phase) ss) f in
    let free = differ_front (λ (x y : Service). x.group == y.group) done ss s d in
    let next : groups_differ ((done ++ s ∷ []) ++ ss) ≡ true =
    rw (append_assoc done (s ∷ []) ss) d in
    rw (service_read phase done s v is.0 says.0 units.0 q.0 free)
    (services_read phase (done ++ s ∷ []) ss ds is.1 says.1 units.1 q.1 next
    ∙ ap Ok (append_assoc done (s ∷ []) ss))

objects_read : (ss : List Service) (ds : Items) → SaysItems SaysService ss ds →
    are_objects ds ≡ true
objects_read [] no_items says = refl
objects_read [] (item d ds) says = absurd says
objects_read (s ∷ ss) no_items says = absurd says
objects_read (s ∷ ss) (item d ds) says = rw (
  (is_object (name_of avp.RatingGroup) d says.0.group.value says.0.group.stands).1,
  objects_read ss ds says.1,
) refl

-- the elements of an array
elements_are : (v : Data) (ds : Items) → as_array v ≡ Some ds → elements (Some v) ≡ item_list ds
elements_are v ds h = rw h refl

all_read : (phase : Phase) (ss : List Service) (v : Data) → AllByRecursion IsService ss →
    SaysArray SaysService ss v → AllByRecursion AsksForUnits (elements (Some v)) →
    nat_le (fewest phase) (length ss) ≡ true → nat_le (length ss) 16 ≡ true → groups_differ ss
    ≡ true → list_all (fits phase) ss ≡ true → services_of phase v ≡ Ok ss
unfolding services_of array_of
all_read phase ss v is says units low high d f =
    let own : AllByRecursion AsksForUnits (item_list says.items) =
    subst (AllByRecursion AsksForUnits) (elements_are v says.items says.array) units in
    rw (
      says.array,
      as_many SaysService ss says.items says.says,
      low,
      high,
      objects_read ss says.items says.says,
      services_read phase [] ss says.items is says.says own f d,
    ) refl

-- the services that are there ask for units
own_units : (d v : Data) → get (name_of avp.Services) d ≡ Some v →
    AllByRecursion AsksForUnits (services_told d) → AllByRecursion AsksForUnits (elements (Some v))
own_units d v stands units =
    subst (λ (o : Option Data). AllByRecursion AsksForUnits (elements o)) stands units

initial_read : (ss : List Service) (d : Data) → are_initial ss ≡ true →
    AllByRecursion IsService ss →
    SaysServices ss d → AllByRecursion AsksForUnits (services_told d) →
    services_at Initial d ≡ Ok ss
unfolding services_at
initial_read ss d h is says units =
    let p = and_four (nat_le 1 (length ss)) (nat_le (length ss) 16) (groups_differ ss)
    (list_all (λ (s : Service). is_some s.requested && is_none s.used) ss) h in
    rw says.stands (all_read Initial ss says.value is says.says
    (own_units d says.value says.stands units) p.0 p.1 p.2 p.3)

update_read : (ss : List Service) (d : Data) → are_update ss ≡ true → AllByRecursion IsService ss →
    SaysServices ss d → AllByRecursion AsksForUnits (services_told d) →
    services_at Update d ≡ Ok ss
unfolding services_at
update_read ss d h is says units =
    let p = and_three (nat_le 1 (length ss)) (nat_le (length ss) 16) (groups_differ ss) h in
    rw says.stands (all_read Update ss says.value is says.says
    (own_units d says.value says.stands units) p.0 p.1 p.2 (all_fit ss))

ended_read : (ss : List Service) (d : Data) → are_termination ss ≡ true →
    AllByRecursion IsService ss → SaysServices ss d →
    AllByRecursion AsksForUnits (services_told d) → services_at Termination d ≡ Ok ss
unfolding services_at
ended_read ss d h is says units =
    let p = and_three (nat_le (length ss) 16) (groups_differ ss)
    (list_all (λ (s : Service). is_none s.requested) ss) h in
    rw says.stands (all_read Termination ss says.value is says.says
    (own_units d says.value says.stands units) (le-leb 0 (length ss) (omega arith)) p.0 p.1 p.2)

termination_read : (ss : List Service) (d : Data) → are_termination ss ≡ true →
    AllByRecursion IsService ss → SaysAsk (ask.Termination ss) d →
    AllByRecursion AsksForUnits (services_told d) → services_at Termination d ≡ Ok ss
unfolding services_at
termination_read [] d h is (inl none) units = rw none refl
termination_read [] d h is (inr says) units = ended_read [] d h is says units
termination_read (s ∷ ss) d h is says units = ended_read (s ∷ ss) d h is says units

-- ---- events

only_read : (s : Service) (ds : Items) → SaysItems SaysService (s ∷ []) ds →
    (d : Data) × (ds ≡ item d no_items) × SaysService s d
only_read s no_items says = absurd says
only_read s (item d no_items) says = (d, refl, says.0)
only_read s (item d (item e ds)) says = absurd says.1

event_read : (e : Event) (d : Data) → IsEvent e → SaysEvent e d →
    AllByRecursion AsksForUnits (services_told d) → event_at e.action d ≡ Ok (ask.Event e)
unfolding event_at event_of member_at array_of
event_read e d is says units =
    let v = says.service.value in
    let array = says.service.says in
    let s : Service = record { group = e.group; requested = Some e.requested; used = None } in
    let one = only_read s array.items array.says in
    let x = one.0 in
    let told : SaysService s x = one.2 in
    let only : as_array v ≡ Some (item x no_items) = array.array ∙ ap Some one.1 in
    let own : AllByRecursion AsksForUnits (x ∷ []) =
    subst (AllByRecursion AsksForUnits) (elements_are v (item x no_items) only)
    (own_units d v says.service.stands units) in
    rw (
      says.service.stands,
      only,
      (is_object (name_of avp.RatingGroup) x told.group.value told.group.stands).1,
      number_read avp.RatingGroup 0 4294967295 x e.group told.group (omega arith) is.group,
      required_read e.requested x is.requested told.requested own.0,
      told.used,
    ) refl

-- ---- refunds

exponent_read : (z : ℤ) (told : Option Data) → SaysExponent z told → IfSome told IsScale →
    exponent_when told ≡ Ok z
exponent_read z None says scale = ap Ok (sym says)
exponent_read z (Some v) says scale =
    let small : (int_le (negsuc 5) z && int_le z (pos 0)) ≡ true =
    subst (λ (o : Option ℤ). IfSome o (λ z. (int_le (negsuc 5) z && int_le z (pos 0)) ≡ true))
    says scale in
    rw (says, small) refl

no_digits : (digits micros : ℕ) (z : ℤ) → 1 ≤ micros → micros ≡ micros_told digits z → 1 ≤ digits
no_digits zero micros z some is = absurd (omega (arith, some, is))
no_digits (suc n) micros z some is = omega arith

money_read : (micros : ℕ) (v : Data) → SaysAmount micros v → 1 ≤ micros →
    micros ≤ 1000000000000000 → IfSome (get (name_of avp.Exponent) v) IsScale →
    money_at v ≡ Ok micros
unfolding money_at exponent_at
money_read micros v says some most scale =
    let few : micros_told says.digits says.exponent ≤ 1000000000000000 =
    subst (λ n. n ≤ 1000000000000000) says.is most in
    rw (
      number_read avp.ValueDigits 1 18446744073709551615 v says.digits says.told
          (no_digits says.digits micros says.exponent some says.is)
          (omega (arith, few, at_least says.digits says.exponent)),
      exponent_read says.exponent (get (name_of avp.Exponent) v) says.scaled scale,
      le-leb (micros_told says.digits says.exponent) 1000000000000000 few,
    ) (ap Ok (sym says.is))

-- the amount of a refund
amount_is : (d q m u : Data) → get (name_of avp.RequestedUnit) d ≡ Some q →
    get (name_of avp.Money) q ≡ Some m → get (name_of avp.UnitValue) m ≡ Some u →
    amount_told d ≡ Some u
amount_is d q m u a b c = rw (a, b, c) refl

refund_read : (r : Refunded) (d : Data) → IsAsk (ask.Refund r) → SaysRefund r d →
    IsFree (ask.Refund r) d → refund_at d ≡ Ok r
unfolding refund_at
refund_read r d is says free =
    let p = refund_parts r.micros r.currency is in
    let q = says.money.value in
    let m = says.money.says.value in
    let money = says.money.says.says in
    let u = money.amount.value in
    let scale : IfSome (get (name_of avp.Exponent) u) IsScale = subst
    (λ (o : Option Data). IfSome (option_and_then (get (name_of avp.Exponent)) o) IsScale)
    (amount_is d q m u says.money.stands says.money.says.stands money.amount.stands) free in
    rw (
      object_read avp.RequestedUnit d q says.money.stands (name_of avp.Money) m
          says.money.says.stands,
      object_read avp.Money q m says.money.says.stands (name_of avp.UnitValue) u
          money.amount.stands,
      object_read avp.UnitValue m u money.amount.stands (name_of avp.ValueDigits)
          money.amount.says.told.value money.amount.says.told.stands,
      money_read r.micros u money.amount.says p.some p.most scale,
      number_read avp.CurrencyCode 0 999 m r.currency money.currency (omega arith) p.currency,
    ) refl

-- ---- what is asked

ask_read : (a : Ask) (d : Data) → IsAsk a → SaysAsk a d → IsFree a d →
    ask_at (kind_of_ask a) d ≡ Ok a
unfolding ask_at action_at
ask_read (ask.Initial ss) d is says free = rw (initial_read ss d is.0 is.1 says free) refl
ask_read (ask.Update ss) d is says free = rw (update_read ss d is.0 is.1 says free) refl
ask_read (ask.Termination ss) d is says free =
    rw (termination_read ss d is.0 is.1 says free) refl
ask_read (ask.Event e) d is says free =
    let n = number_read avp.RequestedAction 0 3 d (action_number e.action) says.action (omega arith)
    (action_small e.action) in
    rw n (told_by e.action d ∙ event_read e d is says free)
ask_read (ask.Refund r) d is says free = rw (
  number_read avp.RequestedAction 0 3 d 1 says.action (omega arith) (omega arith),
  refund_read r d is says free,
) refl

-- rule: request-fields.free
pub request_read : ReadsAllThatIsSaid
unfolding request_in
request_read r d is says free = rw (
  session_read d r.session says.head.session is.session,
  kind_read d (kind_of_ask r.ask) says.head.kind,
  number_read avp.RequestNumber 0 4294967295 d r.number says.head.number (omega arith) is.number,
  account_read d r.account says.head.account is.account,
  ask_read r.ask d is.ask says.asked free,
) refl
