-- A request that is read has nothing in its way.
use Rattle.std.proofs.Common.{◌≡◌, ℕ, ◌==◌, ◌&&◌, List, [], ◌∷◌, ◌++◌, true, refl, sym}
use Rattle.std.proofs.Common.{ap, subst, Option, Some, None, is_some, is_none, IfSome}
use Rattle.std.proofs.Common.{Ok}
use Rattle.std.specs.Prelude.{not, nat_le, ℤ, pos, negsuc, int_le, option_and_then}
use Rattle.std.specs.List.{AllByRecursion}
use Rattle.serde_json.specs.Data.{Data, Items, no_items, item}
use Rattle.serde_json.specs.Events.{items_len}
use Rattle.serde_json.specs.Find.{get, as_number, as_i64, as_array, as_object}
use Rattle.texts.specs.Steps.{each}
use Rattle.json_fields.proofs.Kept.{same_value, bind_ok, where_ok}
use Rattle.commands.specs.declared.avp.Avp.TheVariants as avp
use Rattle.commands.specs.declared.request.Ask.{Ask}
use Rattle.commands.specs.declared.request.Ask.TheVariants as ask
use Rattle.commands.specs.declared.request.Event.{Event}
use Rattle.commands.specs.declared.request.EventAction.{EventAction}
use Rattle.commands.specs.declared.request.Request.{Request}
use Rattle.commands.specs.declared.request.RequestKind.{RequestKind}
use Rattle.commands.specs.declared.request.RequestKind.TheVariants as kind
use Rattle.commands.specs.declared.service.Requested.{Requested}
use Rattle.commands.specs.declared.service.Service.{Service}
use Rattle.commands.specs.Codes.{action_numbered}
use Rattle.commands.specs.Names.{name_of}
use Rattle.commands.specs.Refunds.{Refunded}
use Rattle.json_fields.specs.declared.fault.WireFault.TheVariants.{Missing, Invalid}
use Rattle.json_fields.specs.Gives.{◌>>=◌, or_fault, where_holds, read_each, item_list}
use Rattle.json_fields.specs.Fields.{member_at, number_at, object_at, array_of}
use Rattle.wire_requests.specs.declared.phase.Phase.{Phase}
use Rattle.wire_requests.specs.declared.phase.Phase.TheVariants.{Initial, Update, Termination}
use Rattle.wire_requests.specs.Free.{IsFree, IsOfUnits, AsksForUnits, IsScale}
use Rattle.wire_requests.specs.Phases.{requested_at, asked_when, service_at, are_objects}
use Rattle.wire_requests.specs.Phases.{group_is_taken, fewest, services_of, services_when}
use Rattle.wire_requests.specs.Phases.{services_at}
use Rattle.wire_requests.specs.Reading.{session_at, kind_at, account_at, only_item, event_of}
use Rattle.wire_requests.specs.Reading.{event_at, action_at, ask_at, request_in}
use Rattle.wire_requests.specs.Refunds.{exponent_when, exponent_at, money_at, refund_at}
use Rattle.wire_requests.specs.Reports.{requested_of, required_at}
use Rattle.wire_requests.specs.Told.{elements, services_told, amount_told}
use Rattle.wire_requests.proofs.Said.{or_found, either}
use Rattle.wire_requests.proofs.SaidServices.{object_stands}

-- ---- what a service asks

some_same : {A : Type 0} (x y : A) → Some x ≡ Some y → x ≡ y
some_same x y h = cc

none_of : {A : Type 0} (o : Option A) → is_none o ≡ true → o ≡ None
none_of None h = refl
none_of (Some x) h = absurd (cc)

units_asked : (v : Data) (r : Requested) → requested_of v ≡ Ok r → IsOfUnits v
unfolding requested_of
units_asked v r h =
    let m = bind_ok (or_fault (Invalid avp.RequestedUnit) (as_object v)) _ r h in
    let free = bind_ok (where_holds (is_none (get (name_of avp.Money) v))
    (Invalid avp.RequestedUnit) v) _ r m.2 in
    let none = where_ok (is_none (get (name_of avp.Money) v)) (Invalid avp.RequestedUnit) v free.0
    free.1 in
    record {
      object = ap is_some (or_found (Invalid avp.RequestedUnit) (as_object v) m.0 m.1);
      moneyless = none_of (get (name_of avp.Money) v) none.0;
    }

stands_free : (d v : Data) → get (name_of avp.RequestedUnit) d ≡ Some v → IsOfUnits v →
    AsksForUnits d
stands_free d v stands is = subst (λ (o : Option Data). IfSome o IsOfUnits) (sym stands) is

required_free : (d : Data) (r : Requested) → required_at d ≡ Ok r → AsksForUnits d
unfolding required_at member_at
required_free d r h =
    let v = bind_ok (member_at avp.RequestedUnit d) _ r h in
    stands_free d v.0 (or_found (Missing avp.RequestedUnit) (get (name_of avp.RequestedUnit) d) v.0
    v.1) (units_asked v.0 r v.2)

perhaps_free : (o : Option Data) (r : Option Requested) → asked_when o ≡ Ok r → IfSome o IsOfUnits
perhaps_free None r h = tt
perhaps_free (Some v) r h = let x = bind_ok (requested_of v) _ r h in units_asked v x.0 x.1

requested_free : (phase : Phase) (d : Data) (r : Option Requested) → requested_at phase d ≡ Ok r →
    AsksForUnits d
unfolding requested_at
requested_free Initial d r h = let x = bind_ok (required_at d) _ r h in required_free d x.0 x.1
requested_free Update d r h = perhaps_free (get (name_of avp.RequestedUnit) d) r h
requested_free Termination d r h =
    let none = where_ok (is_none (get (name_of avp.RequestedUnit) d)) (Invalid avp.RequestedUnit)
    None r h in
    subst (λ (o : Option Data). IfSome o IsOfUnits)
    (sym (none_of (get (name_of avp.RequestedUnit) d) none.0)) tt

service_free : (phase : Phase) (done : List Service) (d : Data) (s : Service) →
    service_at phase done d ≡ Ok s → AsksForUnits d
unfolding service_at
service_free phase done d s h =
    let g = bind_ok (number_at avp.RatingGroup 0 4294967295 d) _ s h in
    let free = bind_ok (where_holds (not (group_is_taken done g.0)) (Invalid avp.RatingGroup) g.0) _
    s g.2 in
    let r = bind_ok (requested_at phase d) _ s free.2 in
    requested_free phase d r.0 r.1

-- ---- the services

services_free : (phase : Phase) (done ss : List Service) (ds : Items) →
    read_each (service_at phase) done ds ≡ Ok ss → AllByRecursion AsksForUnits (item_list ds)
unfolding each
services_free phase done ss no_items h = tt
services_free phase done ss (item d ds) h =
    let more = bind_ok (service_at phase done d >>= λ x. Ok (done ++ x ∷ [])) _ ss h in
    let s = bind_ok (service_at phase done d) _ more.0 more.1 in
    (service_free phase done d s.0 s.1, services_free phase more.0 ss ds more.2)

-- the elements of an array
elements_are : (v : Data) (ds : Items) → as_array v ≡ Some ds → elements (Some v) ≡ item_list ds
elements_are v ds h = rw h refl

elements_free : (v : Data) (ds : Items) → array_of avp.Services v ≡ Ok ds →
    AllByRecursion AsksForUnits (item_list ds) → AllByRecursion AsksForUnits (elements (Some v))
unfolding array_of
elements_free v ds h free = subst (AllByRecursion AsksForUnits)
    (sym (elements_are v ds (or_found (Invalid avp.Services) (as_array v) ds h))) free

all_free : (phase : Phase) (v : Data) (ss : List Service) → services_of phase v ≡ Ok ss →
    AllByRecursion AsksForUnits (elements (Some v))
unfolding services_of
all_free phase v ss h =
    let ds = bind_ok (array_of avp.Services v) _ ss h in
    let few = bind_ok (where_holds (nat_le (fewest phase) (items_len ds.0)
    && nat_le (items_len ds.0) 16) (Invalid avp.Services) ds.0) _ ss ds.2 in
    let objects = bind_ok (where_holds (are_objects ds.0) (Invalid avp.Services) ds.0) _ ss few.2 in
    elements_free v ds.0 ds.1 (services_free phase [] ss ds.0 objects.2)

told_free : (phase : Phase) (o : Option Data) (ss : List Service) → services_when phase o ≡ Ok ss →
    AllByRecursion AsksForUnits (elements o)
told_free Initial None ss h = tt
told_free Update None ss h = tt
told_free Termination None ss h = tt
told_free Initial (Some v) ss h = all_free Initial v ss h
told_free Update (Some v) ss h = all_free Update v ss h
told_free Termination (Some v) ss h = all_free Termination v ss h

at_free : (phase : Phase) (d : Data) (ss : List Service) → services_at phase d ≡ Ok ss →
    AllByRecursion AsksForUnits (services_told d)
unfolding services_at
at_free phase d ss h = told_free phase (get (name_of avp.Services) d) ss h

-- ---- events

only_free : (ds : Items) (d : Data) → only_item ds ≡ Some d → AsksForUnits d →
    AllByRecursion AsksForUnits (item_list ds)
only_free no_items d h free = absurd (cc)
only_free (item x no_items) d h free = (
  subst AsksForUnits (sym (some_same x d h)) free,
  tt,
)
only_free (item x (item y ds)) d h free = absurd (cc)

event_free : (action : EventAction) (v : Data) (e : Event) → event_of action v ≡ Ok e →
    AllByRecursion AsksForUnits (elements (Some v))
unfolding event_of
event_free action v e h =
    let ds = bind_ok (array_of avp.Services v) _ e h in
    let d = bind_ok (or_fault (Invalid avp.Services) (only_item ds.0)) _ e ds.2 in
    let m = bind_ok (or_fault (Invalid avp.Services) (as_object d.0)) _ e d.2 in
    let g = bind_ok (number_at avp.RatingGroup 0 4294967295 d.0) _ e m.2 in
    let r = bind_ok (required_at d.0) _ e g.2 in
    elements_free v ds.0 ds.1 (only_free ds.0 d.0
    (or_found (Invalid avp.Services) (only_item ds.0) d.0 d.1) (required_free d.0 r.0 r.1))

event_told : (action : EventAction) (d : Data) (a : Ask) → event_at action d ≡ Ok a → IsFree a d
unfolding event_at member_at
event_told action d a h =
    let v = bind_ok (member_at avp.Services d) _ a h in
    let e = bind_ok (event_of action v.0) _ a v.2 in
    let stands = or_found (Missing avp.Services) (get (name_of avp.Services) d) v.0 v.1 in
    let free : IsFree (ask.Event e.0) d =
    subst (λ (o : Option Data). AllByRecursion AsksForUnits (elements o)) (sym stands)
    (event_free action v.0 e.0 e.1) in
    subst (λ (x : Ask). IsFree x d) (same_value (ask.Event e.0) a e.2) free

-- ---- refunds

scale_when : (o : Option Data) (z : ℤ) → exponent_when o ≡ Ok z → IfSome o IsScale
scale_when None z h = tt
scale_when (Some v) z h =
    let x = bind_ok (or_fault (Invalid avp.Exponent) (option_and_then as_i64 (as_number v))) _
    z h in
    let is = where_ok (int_le (negsuc 5) x.0 && int_le x.0 (pos 0)) (Invalid avp.Exponent) x.0 z
    x.2 in
    subst (λ (o : Option ℤ). IfSome o (λ y. (int_le (negsuc 5) y && int_le y (pos 0)) ≡ true))
    (sym (or_found (Invalid avp.Exponent) (option_and_then as_i64 (as_number v)) x.0 x.1)) is.0

money_free : (u : Data) (micros : ℕ) → money_at u ≡ Ok micros →
    IfSome (get (name_of avp.Exponent) u) IsScale
unfolding money_at exponent_at
money_free u micros h =
    let digits = bind_ok (number_at avp.ValueDigits 1 18446744073709551615 u) _ micros h in
    let z = bind_ok (exponent_at u) _ micros digits.2 in
    scale_when (get (name_of avp.Exponent) u) z.0 z.1

amount_is : (d q m u : Data) → get (name_of avp.RequestedUnit) d ≡ Some q →
    get (name_of avp.Money) q ≡ Some m → get (name_of avp.UnitValue) m ≡ Some u →
    amount_told d ≡ Some u
amount_is d q m u asked money value = rw (asked, money, value) refl

refund_free : (d : Data) (r : Refunded) → refund_at d ≡ Ok r → IsFree (ask.Refund r) d
unfolding refund_at
refund_free d r h =
    let q = bind_ok (object_at avp.RequestedUnit d) _ r h in
    let m = bind_ok (object_at avp.Money q.0) _ r q.2 in
    let u = bind_ok (object_at avp.UnitValue m.0) _ r m.2 in
    let micros = bind_ok (money_at u.0) _ r u.2 in
    subst (λ (o : Option Data). IfSome (option_and_then (get (name_of avp.Exponent)) o) IsScale)
    (sym (amount_is d q.0 m.0 u.0 (object_stands avp.RequestedUnit d q.0 q.1)
    (object_stands avp.Money q.0 m.0 m.1) (object_stands avp.UnitValue m.0 u.0 u.1)))
    (money_free u.0 micros.0 micros.1)

refund_told : (d : Data) (a : Ask) → (refund_at d >>= λ r. Ok (ask.Refund r)) ≡ Ok a → IsFree a d
refund_told d a h =
    let r = bind_ok (refund_at d) _ a h in
    subst (λ (x : Ask). IsFree x d) (same_value (ask.Refund r.0) a r.2) (refund_free d r.0 r.1)

-- ---- the request

action_free : (n : ℕ) (d : Data) (a : Ask) → action_at n d ≡ Ok a → IsFree a d
unfolding action_at
action_free n d a h = either (IsFree a d) (n == 1) _ _ a (λ is refunds. refund_told d a refunds)
    (λ asks.
    let action = bind_ok (or_fault (Invalid avp.RequestedAction) (action_numbered n)) _ a asks in
    event_told action.0 d a action.2) h

ask_free : (k : RequestKind) (d : Data) (a : Ask) → ask_at k d ≡ Ok a → IsFree a d
unfolding ask_at
ask_free kind.Initial d a h =
    let ss = bind_ok (services_at Initial d) _ a h in
    let free : IsFree (ask.Initial ss.0) d = at_free Initial d ss.0 ss.1 in
    subst (λ (x : Ask). IsFree x d) (same_value (ask.Initial ss.0) a ss.2) free
ask_free kind.Update d a h =
    let ss = bind_ok (services_at Update d) _ a h in
    let free : IsFree (ask.Update ss.0) d = at_free Update d ss.0 ss.1 in
    subst (λ (x : Ask). IsFree x d) (same_value (ask.Update ss.0) a ss.2) free
ask_free kind.Termination d a h =
    let ss = bind_ok (services_at Termination d) _ a h in
    let free : IsFree (ask.Termination ss.0) d = at_free Termination d ss.0 ss.1 in
    subst (λ (x : Ask). IsFree x d) (same_value (ask.Termination ss.0) a ss.2) free
ask_free kind.Event d a h =
    let n = bind_ok (number_at avp.RequestedAction 0 3 d) _ a h in
    action_free n.0 d a n.2

-- rule: request-fields.free
pub request_free : (r : Request) (d : Data) → request_in d ≡ Ok r → IsFree r.ask d
unfolding request_in
request_free r d h =
    let session = bind_ok (session_at d) _ r h in
    let k = bind_ok (kind_at d) _ r session.2 in
    let number = bind_ok (number_at avp.RequestNumber 0 4294967295 d) _ r k.2 in
    let account = bind_ok (account_at d) _ r number.2 in
    let asked = bind_ok (ask_at k.0 d) _ r account.2 in
    subst (λ (x : Request). IsFree x.ask d) (same_value _ r asked.2)
    (ask_free k.0 d asked.0 asked.1)
