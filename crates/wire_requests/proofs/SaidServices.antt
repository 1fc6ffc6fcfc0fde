-- What is read of a request's services, event or refund is said by its members.
use Rattle.std.proofs.Common.{◌≡◌, ℕ, List, [], ◌∷◌, ◌++◌, true, Option, Some, None}
use Rattle.std.proofs.Common.{◌&&◌, Result, Ok, refl, sym, ap, ◌∙◌, subst, nat_le, append-nil}
use Rattle.std.proofs.Common.{append_assoc, inl, inr}
use Rattle.std.specs.Prelude.{ℤ, pos, negsuc, int_le, is_none, option_and_then, ◌==◌, not}
use Rattle.serde_json.specs.Data.{Data, Items, no_items, item}
use Rattle.serde_json.specs.Events.{items_len}
use Rattle.serde_json.specs.Find.{get, as_number, as_u64, as_i64, as_array, as_object}
use Rattle.texts.specs.Steps.{each}
use Rattle.units.specs.declared.blocks.UnitKind.{UnitKind}
use Rattle.units.specs.declared.blocks.UsedPart.{UsedPart}
use Rattle.units.specs.declared.blocks.TariffChangeUsage.{TariffChangeUsage}
use Rattle.commands.specs.declared.avp.Avp.{Avp}
use Rattle.commands.specs.declared.avp.Avp.TheVariants as avp
use Rattle.commands.specs.declared.request.RequestKind.{RequestKind}
use Rattle.commands.specs.declared.request.RequestKind.TheVariants as kind
use Rattle.commands.specs.declared.request.EventAction.{EventAction}
use Rattle.commands.specs.declared.request.Event.{Event}
use Rattle.commands.specs.declared.request.Ask.{Ask}
use Rattle.commands.specs.declared.request.Ask.TheVariants as ask
use Rattle.commands.specs.declared.request.Request.{Request}
use Rattle.commands.specs.declared.service.Requested.{Requested}
use Rattle.commands.specs.declared.service.Requested.TheVariants.{Slice, Units}
use Rattle.commands.specs.declared.service.Service.{Service}
use Rattle.commands.specs.Names.{name_of, tariff_change_usage}
use Rattle.commands.specs.Codes.{action_number, action_numbered}
use Rattle.commands.specs.Quantities.{most_units}
use Rattle.commands.specs.Refunds.{Refunded}
use Rattle.commands.specs.Reports.{usage_number, usage_numbered}
use Rattle.commands.proofs.Inverses.{are_tables}
use Rattle.commands.specs.Used.{Used}
use Rattle.json_fields.specs.declared.fault.WireFault.{WireFault}
use Rattle.json_fields.specs.declared.fault.WireFault.TheVariants.{Missing, Invalid}
use Rattle.json_fields.specs.Gives.{◌>>=◌, or_fault, where_holds, read_each}
use Rattle.json_fields.specs.Fields.{member_at, whole_in, number_at, object_at, array_of}
use Rattle.json_fields.specs.Unit.{name_of_unit, kind_told, lacks_others, units_at}
use Rattle.json_fields.proofs.Kept.{same_value, bind_ok, where_ok}
use Rattle.wire_requests.specs.declared.phase.Phase.{Phase}
use Rattle.wire_requests.specs.declared.phase.Phase.TheVariants.{Initial, Update, Termination}
use Rattle.wire_requests.specs.Reports.{wanted_in, requested_of, required_at, usage_when, usage_at}
use Rattle.wire_requests.specs.Reports.{tag_is_taken, part_at, kind_of_first, parts_from, used_of}
use Rattle.wire_requests.specs.Phases.{asked_when, reported_when, requested_at, used_at}
use Rattle.wire_requests.specs.Phases.{group_is_taken, service_at, are_objects, fewest, services_of}
use Rattle.wire_requests.specs.Phases.{services_when, services_at}
use Rattle.wire_requests.specs.Refunds.{exponent_when, exponent_at, micros_told, money_at}
use Rattle.wire_requests.specs.Refunds.{refund_at}
use Rattle.wire_requests.specs.Reading.{session_at, kind_at, account_at, only_item, event_of}
use Rattle.wire_requests.specs.Reading.{event_at, action_at, ask_at, request_in}
use Rattle.wire_requests.specs.Said.{SaysNumber, SaysUnits, SaysValue, SaysPerhaps, SaysItems}
use Rattle.wire_requests.specs.Said.{SaysArray, SaysRequested, SaysChange, SaysPart, SaysUsed}
use Rattle.wire_requests.specs.Said.{SaysService, SaysExponent, SaysAmount, SaysRefund, SaysAsk}
use Rattle.wire_requests.specs.Said.{ReadsWhatIsSaid}
use Rattle.wire_requests.proofs.Said.{or_found, number_said, either, equal, head_said}

-- ---- items

-- what was read of the items, and what they say
record Made {A : Type 0} (Says : A → Data → Type 0) (done out : List A) (ds : Items) : Type 0 where
  more : List A
  is : out ≡ done ++ more
  says : SaysItems Says more ds

each_ok : {A : Type 0} (read : List A → Data → Result A WireFault) (done : List A) (d : Data)
    (ds : Items) (out : List A) → read_each read done (item d ds) ≡ Ok out →
    (x : A) × (read done d ≡ Ok x) × (read_each read (done ++ x ∷ []) ds ≡ Ok out)
unfolding each
each_ok read done d ds out h =
    let a = bind_ok (read done d >>= λ x. Ok (done ++ x ∷ [])) _ out h in
    let b = bind_ok (read done d) _ a.0 a.1 in (
      b.0,
      b.1,
      subst (λ l. read_each read l ds ≡ Ok out) (sym (same_value (done ++ b.0 ∷ []) a.0 b.2)) a.2,
    )

none_read : {A : Type 0} (read : List A → Data → Result A WireFault) (done out : List A) →
    read_each read done no_items ≡ Ok out → done ≡ out
unfolding each
none_read read done out h = same_value done out h

items_said : {A : Type 0} (read : List A → Data → Result A WireFault) (Says : A → Data → Type 0) →
    ((done : List A) (d : Data) (x : A) → read done d ≡ Ok x → Says x d) →
    (ds : Items) (done out : List A) → read_each read done ds ≡ Ok out → Made Says done out ds
items_said read Says one no_items done out h =
    record { more = []; is = sym (none_read read done out h) ∙ sym (append-nil done); says = tt }
items_said read Says one (item d ds) done out h =
    let a = each_ok read done d ds out h in
    let rest = items_said read Says one ds (done ++ a.0 ∷ []) out a.2 in
    record {
      more = a.0 ∷ rest.more;
      is = rest.is ∙ append_assoc done (a.0 ∷ []) rest.more;
      says = (one done d a.0 a.1, rest.says);
    }

all_said : {A : Type 0} (read : List A → Data → Result A WireFault) (Says : A → Data → Type 0) →
    ((done : List A) (d : Data) (x : A) → read done d ≡ Ok x → Says x d) →
    (ds : Items) (out : List A) → read_each read [] ds ≡ Ok out → SaysItems Says out ds
all_said read Says one ds out h =
    let made = items_said read Says one ds [] out h in
    subst (λ xs. SaysItems Says xs ds) (sym made.is) made.says

-- ---- units

units_said : (fault : WireFault) (low : ℕ) (kind : UnitKind) (d : Data) (n : ℕ) →
    units_at fault low kind d ≡ Ok n → SaysUnits kind n d
unfolding units_at
units_said fault low kind d n h =
    let a = bind_ok (or_fault fault (get (name_of_unit kind) d)) _ n h in
    let c = bind_ok (whole_in fault low (most_units kind) a.0) _ n a.2 in
    let b = bind_ok (or_fault fault (option_and_then as_u64 (as_number a.0))) _ c.0 c.1 in
    let within = where_ok (nat_le low b.0 && nat_le b.0 (most_units kind)) fault b.0 c.0 b.2 in
    let alone = where_ok (lacks_others kind d) fault c.0 n c.2 in
    record {
      value = a.0;
      stands = or_found fault (get (name_of_unit kind) d) a.0 a.1;
      is = or_found fault (option_and_then as_u64 (as_number a.0)) b.0 b.1
          ∙ ap Some (within.1 ∙ alone.1);
      alone = alone.0;
    }

wanted_said : (kind : Option UnitKind) (d : Data) (r : Requested) → kind_told d ≡ kind →
    wanted_in kind d ≡ Ok r → SaysRequested r d
unfolding wanted_in
wanted_said None d r is h = subst (λ (x : Requested). SaysRequested x d) (same_value Slice r h) is
wanted_said (Some kind) d r is h =
    let n = bind_ok (units_at (Invalid avp.RequestedUnit) 1 kind d) _ r h in
    subst (λ (x : Requested). SaysRequested x d)
    (same_value (Units (record { kind = kind; units = n.0 })) r n.2)
    (units_said (Invalid avp.RequestedUnit) 1 kind d n.0 n.1)

requested_said : (d : Data) (r : Requested) → requested_of d ≡ Ok r → SaysRequested r d
unfolding requested_of
requested_said d r h =
    let m = bind_ok (or_fault (Invalid avp.RequestedUnit) (as_object d)) _ r h in
    let free = bind_ok (where_holds (is_none (get (name_of avp.Money) d))
    (Invalid avp.RequestedUnit) d) _ r m.2 in
    wanted_said (kind_told d) d r refl free.2

required_said : (d : Data) (r : Requested) → required_at d ≡ Ok r →
    SaysValue SaysRequested r (get (name_of avp.RequestedUnit) d)
unfolding required_at member_at
required_said d r h =
    let v = bind_ok (member_at avp.RequestedUnit d) _ r h in
    record {
      value = v.0;
      stands = or_found (Missing avp.RequestedUnit) (get (name_of avp.RequestedUnit) d) v.0 v.1;
      says = requested_said v.0 r v.2;
    }

-- ---- reports

usage_said : (n : ℕ) (u : TariffChangeUsage) →
    or_fault (Invalid avp.UsedUnit) (usage_numbered n) ≡ Ok u → n ≡ usage_number u
usage_said n u h =
    sym (are_tables.usages.back n u (or_found (Invalid avp.UsedUnit) (usage_numbered n) u h))

change_said : (told : Option Data) (o : Option TariffChangeUsage) → usage_when told ≡ Ok o →
    SaysPerhaps SaysChange o told
change_said None o h = subst (λ (x : Option TariffChangeUsage). SaysPerhaps SaysChange x None)
    (same_value None o h) refl
change_said (Some v) o h =
    let n =
    bind_ok (or_fault (Invalid avp.UsedUnit) (option_and_then as_u64 (as_number v))) _ o h in
    let u = bind_ok (or_fault (Invalid avp.UsedUnit) (usage_numbered n.0)) _ o n.2 in
    subst (λ (x : Option TariffChangeUsage). SaysPerhaps SaysChange x (Some v))
    (same_value (Some u.0) o u.2) (record {
      value = v;
      stands = refl;
      says = or_found (Invalid avp.UsedUnit) (option_and_then as_u64 (as_number v)) n.0 n.1
          ∙ ap Some (usage_said n.0 u.0 u.1);
    })

usage_at_said : (d : Data) (o : Option TariffChangeUsage) → usage_at d ≡ Ok o →
    SaysPerhaps SaysChange o (get tariff_change_usage d)
unfolding usage_at
usage_at_said d o h = change_said (get tariff_change_usage d) o h

part_said : (kind : UnitKind) (done : List UsedPart) (d : Data) (p : UsedPart) →
    part_at kind done d ≡ Ok p → SaysPart kind p d
unfolding part_at
part_said kind done d p h =
    let a = bind_ok (or_fault (Invalid avp.UsedUnit) (as_object d)) _ p h in
    let n = bind_ok (units_at (Invalid avp.UsedUnit) 0 kind d) _ p a.2 in
    let tag = bind_ok (usage_at d) _ p n.2 in
    let free =
    bind_ok (where_holds (not (tag_is_taken done tag.0)) (Invalid avp.UsedUnit) tag.0) _ p tag.2 in
    subst (λ (q : UsedPart). SaysPart kind q d) (same_value _ p free.2) (record {
      units = units_said (Invalid avp.UsedUnit) 0 kind d n.0 n.1;
      change = usage_at_said d tag.0 tag.1;
    })

used_said : (d : Data) (u : Used) → used_of d ≡ Ok u → SaysUsed u d
unfolding used_of array_of
used_said d u h =
    let ds = bind_ok (array_of avp.UsedUnit d) _ u h in
    let few = bind_ok (where_holds (nat_le 1 (items_len ds.0) && nat_le (items_len ds.0) 4)
    (Invalid avp.UsedUnit) ds.0) _ u ds.2 in
    let parts = bind_ok (parts_from (kind_of_first ds.0) ds.0) _ u few.2 in
    subst (λ (x : Used). SaysUsed x d) (same_value _ u parts.2) (record {
      items = ds.0;
      array = or_found (Invalid avp.UsedUnit) (as_array d) ds.0 ds.1;
      says = all_said (part_at (kind_of_first ds.0)) (SaysPart (kind_of_first ds.0))
          (part_said (kind_of_first ds.0)) ds.0 parts.0 parts.1;
    })

-- ---- services

asked_said : (told : Option Data) (o : Option Requested) → asked_when told ≡ Ok o →
    SaysPerhaps SaysRequested o told
asked_said None o h =
    subst (λ (x : Option Requested). SaysPerhaps SaysRequested x None) (same_value None o h) refl
asked_said (Some v) o h =
    let r = bind_ok (requested_of v) _ o h in
    subst (λ (x : Option Requested). SaysPerhaps SaysRequested x (Some v)) (same_value (Some r.0) o
    r.2) (record { value = v; stands = refl; says = requested_said v r.0 r.1 })

pub absent : {A : Type 0} (o : Option A) → is_none o ≡ true → o ≡ None
absent None h = refl
absent (Some x) h = absurd (cc)

requested_at_said : (phase : Phase) (d : Data) (o : Option Requested) →
    requested_at phase d ≡ Ok o → SaysPerhaps SaysRequested o (get (name_of avp.RequestedUnit) d)
unfolding requested_at
requested_at_said Initial d o h =
    let r = bind_ok (required_at d) _ o h in
    subst (λ (x : Option Requested). SaysPerhaps SaysRequested x
    (get (name_of avp.RequestedUnit) d)) (same_value (Some r.0) o r.2) (required_said d r.0 r.1)
requested_at_said Update d o h = asked_said (get (name_of avp.RequestedUnit) d) o h
requested_at_said Termination d o h =
    let none =
    where_ok (is_none (get (name_of avp.RequestedUnit) d)) (Invalid avp.RequestedUnit) None o h in
    subst (λ (x : Option Requested). SaysPerhaps SaysRequested x
    (get (name_of avp.RequestedUnit) d)) none.1 (absent (get (name_of avp.RequestedUnit) d) none.0)

reported_said : (told : Option Data) (o : Option Used) → reported_when told ≡ Ok o →
    SaysPerhaps SaysUsed o told
reported_said None o h =
    subst (λ (x : Option Used). SaysPerhaps SaysUsed x None) (same_value None o h) refl
reported_said (Some v) o h =
    let u = bind_ok (used_of v) _ o h in
    subst (λ (x : Option Used). SaysPerhaps SaysUsed x (Some v)) (same_value (Some u.0) o u.2)
    (record { value = v; stands = refl; says = used_said v u.0 u.1 })

used_at_said : (phase : Phase) (d : Data) (o : Option Used) → used_at phase d ≡ Ok o →
    SaysPerhaps SaysUsed o (get (name_of avp.UsedUnit) d)
unfolding used_at
used_at_said Initial d o h =
    let none = where_ok (is_none (get (name_of avp.UsedUnit) d)) (Invalid avp.UsedUnit) None o h in
    subst (λ (x : Option Used). SaysPerhaps SaysUsed x (get (name_of avp.UsedUnit) d)) none.1
    (absent (get (name_of avp.UsedUnit) d) none.0)
used_at_said Update d o h = reported_said (get (name_of avp.UsedUnit) d) o h
used_at_said Termination d o h = reported_said (get (name_of avp.UsedUnit) d) o h

service_said : (phase : Phase) (done : List Service) (d : Data) (s : Service) →
    service_at phase done d ≡ Ok s → SaysService s d
unfolding service_at
service_said phase done d s h =
    let g = bind_ok (number_at avp.RatingGroup 0 4294967295 d) _ s h in
    let free =
    bind_ok (where_holds (not (group_is_taken done g.0)) (Invalid avp.RatingGroup) g.0) _ s g.2 in
    let r = bind_ok (requested_at phase d) _ s free.2 in
    let u = bind_ok (used_at phase d) _ s r.2 in
    subst (λ (x : Service). SaysService x d) (same_value _ s u.2) (record {
      group = number_said avp.RatingGroup 0 4294967295 d g.0 g.1;
      requested = requested_at_said phase d r.0 r.1;
      used = used_at_said phase d u.0 u.1;
    })

services_said : (phase : Phase) (v : Data) (ss : List Service) → services_of phase v ≡ Ok ss →
    SaysArray SaysService ss v
unfolding services_of array_of
services_said phase v ss h =
    let a = bind_ok (array_of avp.Services v) _ ss h in
    let few = bind_ok (where_holds (nat_le (fewest phase) (items_len a.0)
    && nat_le (items_len a.0) 16) (Invalid avp.Services) a.0) _ ss a.2 in
    let objects = bind_ok (where_holds (are_objects a.0) (Invalid avp.Services) a.0) _ ss few.2 in
    record {
      items = a.0;
      array = or_found (Invalid avp.Services) (as_array v) a.0 a.1;
      says = all_said (service_at phase) SaysService (service_said phase) a.0 ss objects.2;
    }

initial_said : (told : Option Data) (ss : List Service) → services_when Initial told ≡ Ok ss →
    SaysValue (SaysArray SaysService) ss told
initial_said None ss h = absurd (cc)
initial_said (Some v) ss h =
    record { value = v; stands = refl; says = services_said Initial v ss h }

update_said : (told : Option Data) (ss : List Service) → services_when Update told ≡ Ok ss →
    SaysValue (SaysArray SaysService) ss told
update_said None ss h = absurd (cc)
update_said (Some v) ss h = record { value = v; stands = refl; says = services_said Update v ss h }

termination_said : (d : Data) (told : Option Data) (ss : List Service) →
    get (name_of avp.Services) d ≡ told → services_when Termination told ≡ Ok ss →
    SaysAsk (ask.Termination ss) d
termination_said d None ss is h =
    subst (λ (xs : List Service). SaysAsk (ask.Termination xs) d) (same_value [] ss h) (inl is)
termination_said d (Some v) [] is h =
    inr (record { value = v; stands = is; says = services_said Termination v [] h })
termination_said d (Some v) (s ∷ ss) is h =
    record { value = v; stands = is; says = services_said Termination v (s ∷ ss) h }

-- ---- events

only_said : (ds : Items) (d : Data) → only_item ds ≡ Some d → (s : Service) → SaysService s d →
    SaysItems SaysService (s ∷ []) ds
only_said no_items d h s says = absurd (cc)
only_said (item x no_items) d h s says = (
  subst (λ (y : Data). SaysService s y)
      (sym (ap (λ (o : Option Data). elim o as (λ _. Data) [ None ↦ x | Some y ↦ y ]) h)) says,
  tt,
)
only_said (item x (item y ds)) d h s says = absurd (cc)

event_of_said : (action : EventAction) (v : Data) (e : Event) → event_of action v ≡ Ok e →
    (e.action ≡ action) × SaysArray SaysService
    (record { group = e.group; requested = Some e.requested; used = None } ∷ []) v
unfolding event_of array_of
event_of_said action v e h =
    let ds = bind_ok (array_of avp.Services v) _ e h in
    let d = bind_ok (or_fault (Invalid avp.Services) (only_item ds.0)) _ e ds.2 in
    let m = bind_ok (or_fault (Invalid avp.Services) (as_object d.0)) _ e d.2 in
    let g = bind_ok (number_at avp.RatingGroup 0 4294967295 d.0) _ e m.2 in
    let r = bind_ok (required_at d.0) _ e g.2 in
    let u = bind_ok (where_holds (is_none (get (name_of avp.UsedUnit) d.0))
    (Invalid avp.UsedUnit) g.0) _ e r.2 in
    let silent =
    where_ok (is_none (get (name_of avp.UsedUnit) d.0)) (Invalid avp.UsedUnit) g.0 u.0 u.1 in
    let own : SaysService (record { group = g.0; requested = Some r.0; used = None }) d.0 = record {
      group = number_said avp.RatingGroup 0 4294967295 d.0 g.0 g.1;
      requested = required_said d.0 r.0 r.1;
      used = absent (get (name_of avp.UsedUnit) d.0) silent.0;
    } in
    subst (λ (x : Event). (x.action ≡ action) × SaysArray SaysService (record {
      group = x.group;
      requested = Some x.requested;
      used = None;
    } ∷ []) v) (same_value _ e u.2) (
      refl,
      record {
        items = ds.0;
        array = or_found (Invalid avp.Services) (as_array v) ds.0 ds.1;
        says = only_said ds.0 d.0 (or_found (Invalid avp.Services) (only_item ds.0) d.0 d.1)
            (record { group = g.0; requested = Some r.0; used = None }) own;
      },
    )

event_said : (action : EventAction) (d : Data) (a : Ask) →
    SaysNumber avp.RequestedAction (action_number action) d → event_at action d ≡ Ok a → SaysAsk a d
unfolding event_at member_at
event_said action d a told h =
    let v = bind_ok (member_at avp.Services d) _ a h in
    let e = bind_ok (event_of action v.0) _ a v.2 in
    let says = event_of_said action v.0 e.0 e.1 in
    subst (λ (x : Ask). SaysAsk x d) (same_value (ask.Event e.0) a e.2) (record {
      action = subst (λ (x : EventAction). SaysNumber avp.RequestedAction (action_number x) d)
          (sym says.0) told;
      service = record {
        value = v.0;
        stands = or_found (Missing avp.Services) (get (name_of avp.Services) d) v.0 v.1;
        says = says.1;
      };
    })

-- ---- refunds

exponent_said : (told : Option Data) (z : ℤ) → exponent_when told ≡ Ok z → SaysExponent z told
exponent_said None z h = sym (same_value (pos 0) z h)
exponent_said (Some v) z h =
    let n =
    bind_ok (or_fault (Invalid avp.Exponent) (option_and_then as_i64 (as_number v))) _ z h in
    or_found (Invalid avp.Exponent) (option_and_then as_i64 (as_number v)) n.0 n.1
    ∙ ap Some
    (where_ok (int_le (negsuc 5) n.0 && int_le n.0 (pos 0)) (Invalid avp.Exponent) n.0 z n.2).1

amount_said : (v : Data) (micros : ℕ) → money_at v ≡ Ok micros → SaysAmount micros v
unfolding money_at exponent_at
amount_said v micros h =
    let digits = bind_ok (number_at avp.ValueDigits 1 18446744073709551615 v) _ micros h in
    let exponent = bind_ok (exponent_at v) _ micros digits.2 in
    record {
      digits = digits.0;
      exponent = exponent.0;
      told = number_said avp.ValueDigits 1 18446744073709551615 v digits.0 digits.1;
      scaled = exponent_said (get (name_of avp.Exponent) v) exponent.0 exponent.1;
      is = sym (where_ok (nat_le (micros_told digits.0 exponent.0) 1000000000000000)
          (Invalid avp.ValueDigits) (micros_told digits.0 exponent.0) micros exponent.2).1;
    }

pub object_stands : (a : Avp) (d v : Data) → object_at a d ≡ Ok v → get (name_of a) d ≡ Some v
unfolding object_at member_at
object_stands a d v h =
    let x = bind_ok (member_at a d) _ v h in
    let m = bind_ok (or_fault (Invalid a) (as_object x.0)) _ v x.2 in
    or_found (Missing a) (get (name_of a) d) x.0 x.1 ∙ ap Some (same_value x.0 v m.2)

refund_said : (d : Data) (r : Refunded) → SaysNumber avp.RequestedAction 1 d → refund_at d ≡ Ok r →
    SaysRefund r d
unfolding refund_at
refund_said d r told h =
    let q = bind_ok (object_at avp.RequestedUnit d) _ r h in
    let m = bind_ok (object_at avp.Money q.0) _ r q.2 in
    let u = bind_ok (object_at avp.UnitValue m.0) _ r m.2 in
    let micros = bind_ok (money_at u.0) _ r u.2 in
    let currency = bind_ok (number_at avp.CurrencyCode 0 999 m.0) _ r micros.2 in
    subst (λ (x : Refunded). SaysRefund x d) (same_value _ r currency.2) (record {
      action = told;
      money = record {
        value = q.0;
        stands = object_stands avp.RequestedUnit d q.0 q.1;
        says = record {
          value = m.0;
          stands = object_stands avp.Money q.0 m.0 m.1;
          says = record {
            amount = record {
              value = u.0;
              stands = object_stands avp.UnitValue m.0 u.0 u.1;
              says = amount_said u.0 micros.0 micros.1;
            };
            currency = number_said avp.CurrencyCode 0 999 m.0 currency.0 currency.1;
          };
        };
      };
    })

-- ---- what is asked

refunded_said : (d : Data) (a : Ask) → SaysNumber avp.RequestedAction 1 d →
    (refund_at d >>= λ r. Ok (ask.Refund r)) ≡ Ok a → SaysAsk a d
refunded_said d a own e =
    let r = bind_ok (refund_at d) _ a e in
    subst (λ (x : Ask). SaysAsk x d) (same_value (ask.Refund r.0) a r.2) (refund_said d r.0 own r.1)

action_said : (n : ℕ) (d : Data) (a : Ask) → SaysNumber avp.RequestedAction n d →
    action_at n d ≡ Ok a → SaysAsk a d
unfolding action_at
action_said n d a told h =
    let as_said : (m : ℕ) → m ≡ n → SaysNumber avp.RequestedAction m d =
    λ m e. subst (λ k. SaysNumber avp.RequestedAction k d) (sym e) told in
    either (SaysAsk a d) (n == 1) _ _ a (λ t e. refunded_said d a (as_said 1 (equal n 1 t)) e)
    (λ e.
    let action = bind_ok (or_fault (Invalid avp.RequestedAction) (action_numbered n)) _ a e in
    let found = or_found (Invalid avp.RequestedAction) (action_numbered n) action.0 action.1 in
    event_said action.0 d a
    (as_said (action_number action.0) (are_tables.actions.back n action.0 found)) action.2) h

ask_said : (k : RequestKind) (d : Data) (a : Ask) → ask_at k d ≡ Ok a → SaysAsk a d
unfolding ask_at services_at
ask_said kind.Initial d a h =
    let s = bind_ok (services_at Initial d) _ a h in
    subst (λ (x : Ask). SaysAsk x d) (same_value (ask.Initial s.0) a s.2)
    (initial_said (get (name_of avp.Services) d) s.0 s.1)
ask_said kind.Update d a h =
    let s = bind_ok (services_at Update d) _ a h in
    subst (λ (x : Ask). SaysAsk x d) (same_value (ask.Update s.0) a s.2)
    (update_said (get (name_of avp.Services) d) s.0 s.1)
ask_said kind.Termination d a h =
    let s = bind_ok (services_at Termination d) _ a h in
    subst (λ (x : Ask). SaysAsk x d) (same_value (ask.Termination s.0) a s.2)
    (termination_said d (get (name_of avp.Services) d) s.0 refl s.1)
ask_said kind.Event d a h =
    let n = bind_ok (number_at avp.RequestedAction 0 3 d) _ a h in
    action_said n.0 d a (number_said avp.RequestedAction 0 3 d n.0 n.1) n.2

-- rule: request-fields.reads-what-is-said
pub request_said : ReadsWhatIsSaid
unfolding request_in
request_said d r h =
    let session = bind_ok (session_at d) _ r h in
    let k = bind_ok (kind_at d) _ r session.2 in
    let number = bind_ok (number_at avp.RequestNumber 0 4294967295 d) _ r k.2 in
    let account = bind_ok (account_at d) _ r number.2 in
    let asked = bind_ok (ask_at k.0 d) _ r account.2 in
    record {
      head = head_said d r h;
      asked = subst (λ (x : Request). SaysAsk x.ask d) (same_value _ r asked.2)
          (ask_said k.0 d asked.0 asked.1);
    }
