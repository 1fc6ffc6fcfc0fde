-- What is written for a request is read as that request.
use Rattle.std.proofs.Common.{◌≡◌, ℕ, suc, ◌≤◌, ◌<◌, lit≤, negsuc, List, [], ◌∷◌, ◌++◌, length}
use Rattle.std.proofs.Common.{Bool, true, false, ◌&&◌, Option, Some, None, option_map, IfSome}
use Rattle.std.proofs.Common.{is_some, is_none, Ok, refl, sym, ap, ◌∙◌, arith, append_assoc}
use Rattle.std.proofs.Common.{append-nil, leb-true, le-leb, nat_le}
use Rattle.std.specs.Prelude.{not, ◌==◌}
use Rattle.std.specs.List.{AllByRecursion, list_all, list_any}
use Rattle.std.specs.Option.{option_eq}
use Rattle.std.specs.Str.{IsUtf8}
use Rattle.std.specs.Ordering.{nat_cmp}
use Rattle.std.specs.declared.cmp.Ordering.TheVariants.{Greater}
use Rattle.std.specs.Cmp.Lexicographic.{slice_cmp}
use Rattle.std.proofs.lemmas.Bool.{and_parts, not-true}
use Rattle.json.proofs.Printed.Utf8.{are_ascii, IsUtf8-are_ascii}
use Rattle.serde_json.specs.Data.{Data, string, array, object, no_items, item, Members, no_members}
use Rattle.serde_json.specs.Data.{member}
use Rattle.serde_json.specs.Events.{items_len}
use Rattle.serde_json.specs.Find.{get}
use Rattle.units.specs.declared.blocks.UnitKind.{UnitKind}
use Rattle.units.specs.declared.blocks.UnitKind.TheVariants as unit
use Rattle.identifiers.specs.Texts.{is_visible, is_digit, is_session_id, is_account_number}
use Rattle.commands.specs.declared.avp.Avp.TheVariants as avp
use Rattle.commands.specs.Names.{name_of, tariff_change_usage}
use Rattle.commands.specs.Quantities.{most_units, is_quantity}
use Rattle.commands.specs.Measured.{Measured}
use Rattle.commands.specs.Used.{Used}
use Rattle.commands.specs.Differ.{all_differ}
use Rattle.commands.specs.Reports.{usage_number, same_usage, tags_differ, is_report}
use Rattle.commands.specs.Services.{groups_differ, are_initial, are_update, are_termination}
use Rattle.commands.specs.Refunds.{Refunded, is_refund}
use Rattle.units.specs.declared.blocks.TariffChangeUsage.{TariffChangeUsage}
use Rattle.units.specs.declared.blocks.TariffChangeUsage.TheVariants as usage
use Rattle.units.specs.declared.blocks.UsedPart.{UsedPart}
use Rattle.commands.specs.declared.service.Requested.{Requested}
use Rattle.commands.specs.declared.service.Requested.TheVariants.{Slice, Units}
use Rattle.commands.specs.declared.service.Service.{Service}
use Rattle.commands.specs.declared.request.RequestKind.{RequestKind}
use Rattle.commands.specs.declared.request.RequestKind.TheVariants as kind
use Rattle.commands.specs.declared.request.EventAction.{EventAction}
use Rattle.commands.specs.declared.request.EventAction.TheVariants as action
use Rattle.commands.specs.declared.request.Event.{Event}
use Rattle.commands.specs.declared.request.Ask.{Ask}
use Rattle.commands.specs.declared.request.Ask.TheVariants as ask
use Rattle.commands.specs.declared.request.Request.{Request}
use Rattle.commands.specs.Codes.{kind_number, kind_of_ask, action_number}
use Rattle.commands.proofs.Amounts.{most_small}
use Rattle.texts.specs.Steps.{each}
use Rattle.json_fields.specs.declared.fault.WireFault.TheVariants.{Invalid}
use Rattle.json_fields.specs.Gives.{read_each}
use Rattle.json_fields.specs.Fields.{member_at, array_of}
use Rattle.json_fields.specs.Unit.{name_of_unit, kind_told, units_at}
use Rattle.json_fields.specs.Spelling.{whole, perhaps, value_data, money_data, with_members}
use Rattle.json_fields.proofs.Compact.{Above}
use Rattle.json_fields.proofs.Found.{get_skip, get_here, number_found, text_found, object_found}
use Rattle.json_fields.proofs.Found.{units_found}
use Rattle.json_fields.proofs.Fit.{Fit, FitItems, FitMembers, fit_whole, fit_text, fit_object}
use Rattle.json_fields.proofs.Fit.{fit_array, fit_no_items, fit_item, fit_none, fit_member}
use Rattle.json_fields.proofs.Fit.{fit_perhaps, fit_deeper, fit_money, above_perhaps}
use Rattle.json_fields.proofs.Fit.{document_again, ascii_text}
use Rattle.json_fields.proofs.Order.{members_in_order}
use Rattle.wire_requests.specs.declared.phase.Phase.{Phase}
use Rattle.wire_requests.specs.declared.phase.Phase.TheVariants.{Initial, Update, Termination}
use Rattle.wire_requests.specs.Reports.{wanted_in, requested_of, required_at, usage_at}
use Rattle.wire_requests.specs.Reports.{tag_is_taken, part_at, kind_of_first, used_of}
use Rattle.wire_requests.specs.Phases.{requested_at, used_at, group_is_taken, service_at}
use Rattle.wire_requests.specs.Phases.{are_objects, fewest, services_of, services_at}
use Rattle.wire_requests.specs.Refunds.{exponent_at, micros_told, money_at, refund_at}
use Rattle.wire_requests.specs.Reading.{session_at, kind_at, account_at, event_of, event_at}
use Rattle.wire_requests.specs.Reading.{action_at, ask_at, request_in, request_of}
use Rattle.wire_requests.specs.Spelled.{requested_data, tag_of, part_data, part_items, used_data}
use Rattle.wire_requests.specs.Spelled.{service_data, service_items, event_data, refund_data}
use Rattle.wire_requests.specs.Spelled.{ask_named, subscription_data, request_data, request_text}
use Rattle.wire_requests.specs.Rules.{IsRequested, IsUsed, IsService, IsEvent, IsAsk, IsRequest}
use Rattle.wire_requests.specs.Rules.{RequestsReadAgain, RequestsAreInOrder}
use Rattle.wire_requests.proofs.Kept.{fits}

no : {X : Type 0} → false ≡ true → X
no e = absurd (cc)

unlike : {A : Type 0} (test : A → Bool) (xs ys : List A) (y : A) →
    list_all (λ z. not (test z)) (xs ++ y ∷ ys) ≡ true → test y ≡ false
unlike test [] ys y h =
    not-true (test y) (and_parts (not (test y)) (list_all (λ z. not (test z)) ys) h).0
unlike test (x ∷ xs) ys y h =
    unlike test xs ys y (and_parts (not (test x)) (list_all (λ z. not (test z)) (xs ++ y ∷ ys)) h).1

-- an element that no other is like is unlike those before it
pub differ_front : {A : Type 0} (alike : A → A → Bool) (xs ys : List A) (y : A) →
    all_differ alike (xs ++ y ∷ ys) ≡ true → list_any (λ x. alike x y) xs ≡ false
differ_front alike [] ys y h = refl
differ_front alike (x ∷ xs) ys y h =
    let p = and_parts (list_all (λ z. not (alike x z)) (xs ++ y ∷ ys))
    (all_differ alike (xs ++ y ∷ ys)) h in
    rw (unlike (alike x) xs ys y p.0, differ_front alike xs ys y p.1) refl

-- ---- units that are wanted

pub quantity_low : (q : Measured) → is_quantity q.kind q.units ≡ true → 1 ≤ q.units
quantity_low q h =
    leb-true 1 q.units (and_parts (nat_le 1 q.units) (nat_le q.units (most_units q.kind)) h).0

pub quantity_high : (q : Measured) → is_quantity q.kind q.units ≡ true → q.units ≤ most_units q.kind
quantity_high q h = leb-true q.units (most_units q.kind)
    (and_parts (nat_le 1 q.units) (nat_le q.units (most_units q.kind)) h).1

wanted_again : (k : UnitKind) (n : ℕ) → 1 ≤ n → n ≤ most_units k →
    requested_of (requested_data (Units (record { kind = k; units = n })))
    ≡ Ok (Units (record { kind = k; units = n }))
unfolding requested_of wanted_in kind_told
wanted_again unit.Time n l h =
    rw (units_found (Invalid avp.RequestedUnit) 1 unit.Time _ n refl refl l h) refl
wanted_again unit.TotalOctets n l h =
    rw (units_found (Invalid avp.RequestedUnit) 1 unit.TotalOctets _ n refl refl l h) refl
wanted_again unit.ServiceSpecific n l h =
    rw (units_found (Invalid avp.RequestedUnit) 1 unit.ServiceSpecific _ n refl refl l h) refl

requested_again : (r : Requested) → IsRequested r → requested_of (requested_data r) ≡ Ok r
unfolding requested_of wanted_in kind_told
requested_again Slice is = refl
requested_again (Units q) is = wanted_again q.kind q.units (quantity_low q is) (quantity_high q is)

-- ---- what was used

abbrev part_members : UnitKind → ℕ → Option ℕ → Data
part_members kind n tag = object (member (name_of_unit kind) (whole n)
    (perhaps tariff_change_usage (option_map whole tag) no_members))

part_units : (kind : UnitKind) (n : ℕ) (tag : Option ℕ) → n ≤ most_units kind →
    units_at (Invalid avp.UsedUnit) 0 kind (part_members kind n tag) ≡ Ok n
part_units unit.Time n None h =
    units_found (Invalid avp.UsedUnit) 0 unit.Time _ n refl refl (omega arith) h
part_units unit.Time n (Some t) h =
    units_found (Invalid avp.UsedUnit) 0 unit.Time _ n refl refl (omega arith) h
part_units unit.TotalOctets n None h =
    units_found (Invalid avp.UsedUnit) 0 unit.TotalOctets _ n refl refl (omega arith) h
part_units unit.TotalOctets n (Some t) h =
    units_found (Invalid avp.UsedUnit) 0 unit.TotalOctets _ n refl refl (omega arith) h
part_units unit.ServiceSpecific n None h =
    units_found (Invalid avp.UsedUnit) 0 unit.ServiceSpecific _ n refl refl (omega arith) h
part_units unit.ServiceSpecific n (Some t) h =
    units_found (Invalid avp.UsedUnit) 0 unit.ServiceSpecific _ n refl refl (omega arith) h

tag_found : (kind : UnitKind) (n : ℕ) (tag : Option ℕ) →
    get tariff_change_usage (part_members kind n tag) ≡ option_map whole tag
tag_found unit.Time n None = refl
tag_found unit.Time n (Some t) = refl
tag_found unit.TotalOctets n None = refl
tag_found unit.TotalOctets n (Some t) = refl
tag_found unit.ServiceSpecific n None = refl
tag_found unit.ServiceSpecific n (Some t) = refl

usage_again : (kind : UnitKind) (n : ℕ) (tag : Option TariffChangeUsage) →
    usage_at (part_members kind n (option_map usage_number tag)) ≡ Ok tag
unfolding usage_at
usage_again kind n None = rw (tag_found kind n None) refl
usage_again kind n (Some usage.UnitBeforeTariffChange) = rw (tag_found kind n (Some 0)) refl
usage_again kind n (Some usage.UnitAfterTariffChange) = rw (tag_found kind n (Some 1)) refl
usage_again kind n (Some usage.UnitIndeterminate) = rw (tag_found kind n (Some 2)) refl

part_again : (kind : UnitKind) (done : List UsedPart) (p : UsedPart) → p.units.0 ≤ most_units kind →
    tag_is_taken done p.change ≡ false → part_at kind done (part_data kind p) ≡ Ok p
unfolding part_at part_data
part_again kind done p h free =
    rw (part_units kind p.units.0 (tag_of p) h, usage_again kind p.units.0 p.change, free) refl

parts_again : (kind : UnitKind) (done ps : List UsedPart) →
    list_all (λ (p : UsedPart). nat_le p.units.0 (most_units kind)) ps ≡ true →
    tags_differ (done ++ ps) ≡ true →
    read_each (part_at kind) done (part_items kind ps) ≡ Ok (done ++ ps)
unfolding each
parts_again kind done [] h d = ap Ok (sym (append-nil done))
parts_again kind done (p ∷ ps) h d =
    let q = and_parts (nat_le p.units.0 (most_units kind))
    (list_all (λ (x : UsedPart). nat_le x.units.0 (most_units kind)) ps) h in
    let free =
    differ_front (λ (x y : UsedPart). option_eq same_usage x.change y.change) done ps p d in
    let next : tags_differ ((done ++ p ∷ []) ++ ps) ≡ true = rw (append_assoc done (p ∷ []) ps) d in
    rw (part_again kind done p (leb-true p.units.0 (most_units kind) q.0) free)
    (parts_again kind (done ++ p ∷ []) ps q.1 next ∙ ap Ok (append_assoc done (p ∷ []) ps))

part_items-len : (kind : UnitKind) (ps : List UsedPart) → items_len (part_items kind ps) ≡ length ps
part_items-len kind [] = refl
part_items-len kind (p ∷ ps) = ap suc (part_items-len kind ps)

told_again : (kind : UnitKind) (n : ℕ) (tag : Option ℕ) →
    kind_told (part_members kind n tag) ≡ Some kind
unfolding kind_told
told_again unit.Time n None = refl
told_again unit.Time n (Some t) = refl
told_again unit.TotalOctets n None = refl
told_again unit.TotalOctets n (Some t) = refl
told_again unit.ServiceSpecific n None = refl
told_again unit.ServiceSpecific n (Some t) = refl

first_again : (kind : UnitKind) (ps : List UsedPart) → 1 ≤ length ps →
    kind_of_first (part_items kind ps) ≡ kind
unfolding kind_of_first part_data
first_again kind [] h = absurd (omega arith)
first_again kind (p ∷ ps) h = rw (told_again kind p.units.0 (tag_of p)) refl

pub record ReportParts (kind : UnitKind) (ps : List UsedPart) : Type 0 where
  pub low : nat_le 1 (length ps) ≡ true
  pub high : nat_le (length ps) 4 ≡ true
  pub most : list_all (λ (p : UsedPart). nat_le p.units.0 (most_units kind)) ps ≡ true
  pub differ : tags_differ ps ≡ true

pub and_four : (a b c d : Bool) → (a && b && c && d) ≡ true →
    (a ≡ true) × (b ≡ true) × (c ≡ true) × (d ≡ true)
and_four true true true true h = (refl, refl, refl, refl)
and_four true true true false h = no h
and_four true true false d h = no h
and_four true false c d h = no h
and_four false b c d h = no h

pub report_parts : (kind : UnitKind) (ps : List UsedPart) → is_report kind ps ≡ true →
    ReportParts kind ps
report_parts kind ps h =
    let p = and_four (nat_le 1 (length ps)) (nat_le (length ps) 4)
    (list_all (λ (x : UsedPart). nat_le x.units.0 (most_units kind)) ps) (tags_differ ps) h in
    record { low = p.0; high = p.1; most = p.2; differ = p.3 }

used_again : (u : Used) → IsUsed u → used_of (used_data u) ≡ Ok u
unfolding used_of array_of
used_again u is =
    let r = report_parts u.kind u.parts is in
    let first = first_again u.kind u.parts (leb-true 1 (length u.parts) r.low) in
    rw (
      part_items-len u.kind u.parts,
      r.low,
      r.high,
      first,
      parts_again u.kind [] u.parts r.most r.differ,
    ) refl

-- ---- services

abbrev service_members : ℕ → Option Data → Option Data → Data
service_members g requested used = object
    (member (name_of avp.RatingGroup) (whole g)
    (perhaps (name_of avp.RequestedUnit) requested
    (perhaps (name_of avp.UsedUnit) used no_members)))

requested_found : (g : ℕ) (requested used : Option Data) →
    get (name_of avp.RequestedUnit) (service_members g requested used) ≡ requested
requested_found g requested used = get_here (name_of avp.RequestedUnit) requested _ refl
    (get_skip (name_of avp.RequestedUnit) (name_of avp.UsedUnit) used no_members refl)

used_found : (g : ℕ) (requested used : Option Data) →
    get (name_of avp.UsedUnit) (service_members g requested used) ≡ used
used_found g requested used =
    get_skip (name_of avp.UsedUnit) (name_of avp.RequestedUnit) requested _ refl
    ∙ get_here (name_of avp.UsedUnit) used no_members refl refl

required_again : (g : ℕ) (r : Requested) (used : Option Data) → IsRequested r →
    required_at (service_members g (Some (requested_data r)) used) ≡ Ok r
unfolding required_at member_at
required_again g r used is = rw (requested_again r is) refl

asked_again : (phase : Phase) (g : ℕ) (o : Option Requested) (u : Option Used)
    (used : Option Data) → IfSome o IsRequested →
    fits phase (record { group = g; requested = o; used = u }) ≡ true →
    requested_at phase (service_members g (option_map requested_data o) used) ≡ Ok o
unfolding requested_at
asked_again Initial g None u used is f = no f
asked_again Initial g (Some r) u used is f = rw (required_again g r used is) refl
asked_again Update g None u used is f = rw (requested_found g None used) refl
asked_again Update g (Some r) u used is f = rw (requested_again r is) refl
asked_again Termination g None u used is f = rw (requested_found g None used) refl
asked_again Termination g (Some r) u used is f = no f

silent : (a : Bool) (o : Option Used) → (a && is_none o) ≡ true → is_none o ≡ true
silent a o h = (and_parts a (is_none o) h).1

reported_again : (phase : Phase) (g : ℕ) (o : Option Requested) (u : Option Used)
    (requested : Option Data) → IfSome u IsUsed →
    fits phase (record { group = g; requested = o; used = u }) ≡ true →
    used_at phase (service_members g requested (option_map used_data u)) ≡ Ok u
unfolding used_at
reported_again Initial g o None requested is f = rw (used_found g requested None) refl
reported_again Initial g o (Some u) requested is f = no (silent (is_some o) (Some u) f)
reported_again Update g o None requested is f = rw (used_found g requested None) refl
reported_again Update g o (Some u) requested is f =
    rw (used_found g requested (Some (used_data u)), used_again u is) refl
reported_again Termination g o None requested is f = rw (used_found g requested None) refl
reported_again Termination g o (Some u) requested is f =
    rw (used_found g requested (Some (used_data u)), used_again u is) refl

service_again : (phase : Phase) (done : List Service) (s : Service) → IsService s → fits phase s
    ≡ true → group_is_taken done s.group ≡ false → service_at phase done (service_data s) ≡ Ok s
unfolding service_at service_data
service_again phase done s is f free =
    let requested = option_map requested_data s.requested in
    let used = option_map used_data s.used in
    rw (
      number_found avp.RatingGroup 0 4294967295
          (service_members s.group requested used) s.group refl (omega arith) is.group,
      free,
      asked_again phase s.group s.requested s.used used is.requested f,
      reported_again phase s.group s.requested s.used requested is.used f,
    ) refl

services_again : (phase : Phase) (done ss : List Service) → AllByRecursion IsService ss →
    list_all (fits phase) ss ≡ true → groups_differ (done ++ ss) ≡ true →
    read_each (service_at phase) done (service_items ss) ≡ Ok (done ++ ss)
unfolding each
services_again phase done [] is f d = ap Ok (sym (append-nil done))
services_again phase done (s ∷ ss) is f d =
    let q = and_parts (fits phase s) (list_all (fits phase) ss) f in
    let free = differ_front (λ (x y : Service). x.group == y.group) done ss s d in
    let next : groups_differ ((done ++ s ∷ []) ++ ss) ≡ true =
    rw (append_assoc done (s ∷ []) ss) d in
    rw (service_again phase done s is.0 q.0 free)
    (services_again phase (done ++ s ∷ []) ss is.1 q.1 next ∙ ap Ok (append_assoc done (s ∷ []) ss))

service_items-len : (ss : List Service) → items_len (service_items ss) ≡ length ss
service_items-len [] = refl
service_items-len (s ∷ ss) = ap suc (service_items-len ss)

objects_again : (ss : List Service) → are_objects (service_items ss) ≡ true
unfolding service_data
objects_again [] = refl
objects_again (s ∷ ss) = objects_again ss

all_again : (phase : Phase) (ss : List Service) → AllByRecursion IsService ss →
    nat_le (fewest phase) (length ss) ≡ true → nat_le (length ss) 16 ≡ true → groups_differ ss
    ≡ true → list_all (fits phase) ss ≡ true → services_of phase (array (service_items ss)) ≡ Ok ss
unfolding services_of array_of
all_again phase ss is low high d f =
    rw (service_items-len ss, low, high, objects_again ss, services_again phase [] ss is f d) refl

pub all_fit : (ss : List Service) → list_all (fits Update) ss ≡ true
all_fit [] = refl
all_fit (s ∷ ss) = all_fit ss

pub and_three : (a b c : Bool) → (a && b && c) ≡ true → (a ≡ true) × (b ≡ true) × (c ≡ true)
and_three true true true h = (refl, refl, refl)
and_three true true false h = no h
and_three true false c h = no h
and_three false b c h = no h

initial_again : (ss : List Service) → are_initial ss ≡ true → AllByRecursion IsService ss →
    services_of Initial (array (service_items ss)) ≡ Ok ss
initial_again ss h is =
    let p = and_four (nat_le 1 (length ss)) (nat_le (length ss) 16) (groups_differ ss)
    (list_all (λ (s : Service). is_some s.requested && is_none s.used) ss) h in
    all_again Initial ss is p.0 p.1 p.2 p.3

update_again : (ss : List Service) → are_update ss ≡ true → AllByRecursion IsService ss →
    services_of Update (array (service_items ss)) ≡ Ok ss
update_again ss h is =
    let p = and_three (nat_le 1 (length ss)) (nat_le (length ss) 16) (groups_differ ss) h in
    all_again Update ss is p.0 p.1 p.2 (all_fit ss)

termination_again : (ss : List Service) → are_termination ss ≡ true → AllByRecursion IsService ss →
    services_of Termination (array (service_items ss)) ≡ Ok ss
termination_again ss h is =
    let p = and_three (nat_le (length ss) 16) (groups_differ ss)
    (list_all (λ (s : Service). is_none s.requested) ss) h in
    all_again Termination ss is (le-leb 0 (length ss) (omega arith)) p.0 p.1 p.2

-- ---- events and refunds

abbrev ask_data : Ask → ℕ → List ℕ → List ℕ → Data
ask_data a number session account = object
    (member (name_of avp.RequestNumber) (whole number)
    (member (name_of avp.RequestType) (whole (kind_number (kind_of_ask a)))
    (with_members (ask_named a)
    (member (name_of avp.SessionId) (string session)
    (member (name_of avp.SubscriptionId) (subscription_data account) no_members)))))

event_again : (e : Event) → IsEvent e →
    event_of e.action (array (item (event_data e) no_items)) ≡ Ok e
unfolding event_of array_of service_data
event_again e is =
    let d = service_members e.group (Some (requested_data e.requested)) None in
    rw (
      number_found avp.RatingGroup 0 4294967295 d e.group refl (omega arith) is.group,
      required_again e.group e.requested None is.requested,
    ) refl

pub told_by : (a : EventAction) (d : Data) → action_at (action_number a) d ≡ event_at a d
unfolding action_at
told_by action.DirectDebiting d = refl
told_by action.CheckBalance d = refl
told_by action.PriceEnquiry d = refl

pub action_small : (a : EventAction) → action_number a ≤ 3
action_small action.DirectDebiting = lit≤ tt
action_small action.CheckBalance = lit≤ tt
action_small action.PriceEnquiry = lit≤ tt

event_ask_again : (e : Event) (n : ℕ) (session account : List ℕ) → IsEvent e →
    ask_at kind.Event (ask_data (ask.Event e) n session account) ≡ Ok (ask.Event e)
unfolding ask_at event_at member_at
event_ask_again e n session account is =
    let d = ask_data (ask.Event e) n session account in
    rw (
      number_found avp.RequestedAction 0 3 d (action_number e.action) refl (omega arith)
          (action_small e.action),
      told_by e.action d,
      event_again e is,
    ) refl

micros_again : (n : ℕ) → micros_told n (negsuc 5) ≡ n
micros_again n = omega arith

money_again : (n : ℕ) → 1 ≤ n → n ≤ 1000000000000000 → money_at (value_data n) ≡ Ok n
unfolding money_at value_data exponent_at
money_again n l h = rw (
  number_found avp.ValueDigits 1 18446744073709551615 _ n refl l (omega arith),
  micros_again n,
  le-leb n 1000000000000000 h,
) refl

pub record RefundParts (m c : ℕ) : Type 0 where
  pub some : 1 ≤ m
  pub most : m ≤ 1000000000000000
  pub currency : c ≤ 999

pub refund_parts : (m c : ℕ) → is_refund m c ≡ true → RefundParts m c
refund_parts m c h =
    let p = and_three (nat_le 1 m) (nat_le m 1000000000000000) (nat_le c 999) h in
    record {
      some = leb-true 1 m p.0;
      most = leb-true m 1000000000000000 p.1;
      currency = leb-true c 999 p.2;
    }

refund_again : (r : Refunded) (n : ℕ) (session account : List ℕ) → is_refund r.micros r.currency
    ≡ true → refund_at (ask_data (ask.Refund r) n session account) ≡ Ok r
unfolding refund_at refund_data money_data value_data
refund_again r n session account is =
    let p = refund_parts r.micros r.currency is in
    let d = ask_data (ask.Refund r) n session account in
    let money = money_data r.micros r.currency in
    rw (
      object_found avp.RequestedUnit d _ refl,
      object_found avp.Money (refund_data r) _ refl,
      object_found avp.UnitValue money _ refl,
      money_again r.micros p.some p.most,
      number_found avp.CurrencyCode 0 999 money r.currency refl (omega arith) p.currency,
    ) refl

refund_ask_again : (r : Refunded) (n : ℕ) (session account : List ℕ) → is_refund r.micros r.currency
    ≡ true → ask_at kind.Event (ask_data (ask.Refund r) n session account) ≡ Ok (ask.Refund r)
unfolding ask_at action_at
refund_ask_again r n session account is =
    let d = ask_data (ask.Refund r) n session account in
    rw (
      number_found avp.RequestedAction 0 3 d 1 refl (omega arith) (omega arith),
      refund_again r n session account is,
    ) refl

-- ---- what a request asks

ask_again : (a : Ask) (n : ℕ) (session account : List ℕ) → IsAsk a →
    ask_at (kind_of_ask a) (ask_data a n session account) ≡ Ok a
unfolding ask_at services_at
ask_again (ask.Initial ss) n session account is = rw (initial_again ss is.0 is.1) refl
ask_again (ask.Update ss) n session account is = rw (update_again ss is.0 is.1) refl
ask_again (ask.Termination ss) n session account is = rw (termination_again ss is.0 is.1) refl
ask_again (ask.Event e) n session account is = event_ask_again e n session account is
ask_again (ask.Refund r) n session account is = refund_ask_again r n session account is

session_found : (a : Ask) (n : ℕ) (session account : List ℕ) →
    get (name_of avp.SessionId) (ask_data a n session account) ≡ Some (string session)
session_found (ask.Initial ss) n session account = refl
session_found (ask.Update ss) n session account = refl
session_found (ask.Termination ss) n session account = refl
session_found (ask.Event e) n session account = refl
session_found (ask.Refund r) n session account = refl

subscription_found : (a : Ask) (n : ℕ) (session account : List ℕ) → get (name_of avp.SubscriptionId)
    (ask_data a n session account) ≡ Some (subscription_data account)
subscription_found (ask.Initial ss) n session account = refl
subscription_found (ask.Update ss) n session account = refl
subscription_found (ask.Termination ss) n session account = refl
subscription_found (ask.Event e) n session account = refl
subscription_found (ask.Refund r) n session account = refl

pub kind_again : (k : RequestKind) (d : Data) →
    get (name_of avp.RequestType) d ≡ Some (whole (kind_number k)) → kind_at d ≡ Ok k
unfolding kind_at
kind_again kind.Initial d e =
    rw (number_found avp.RequestType 1 4 d 1 e (omega arith) (omega arith)) refl
kind_again kind.Update d e =
    rw (number_found avp.RequestType 1 4 d 2 e (omega arith) (omega arith)) refl
kind_again kind.Termination d e =
    rw (number_found avp.RequestType 1 4 d 3 e (omega arith) (omega arith)) refl
kind_again kind.Event d e =
    rw (number_found avp.RequestType 1 4 d 4 e (omega arith) (omega arith)) refl

pub session_again : (d : Data) (s : List ℕ) → get (name_of avp.SessionId) d ≡ Some (string s) →
    is_session_id s ≡ true → session_at d ≡ Ok s
unfolding session_at
session_again d s e h = rw (text_found avp.SessionId d s e, h) refl

account_again : (d : Data) (s : List ℕ) → get (name_of avp.SubscriptionId) d
    ≡ Some (subscription_data s) → is_account_number s ≡ true → account_at d ≡ Ok s
unfolding account_at subscription_data
account_again d s e h =
    let inner = subscription_data s in
    rw (
      object_found avp.SubscriptionId d _ e,
      number_found avp.SubscriptionIdType 0 0 inner 0 refl (omega arith) (omega arith),
      text_found avp.SubscriptionIdData inner s refl,
      h,
    ) refl

-- ---- how deep it is

pub visible_small : (b : ℕ) → is_visible b ≡ true → b < 128
visible_small b h = omega (arith, leb-true b 126 (and_parts (nat_le 33 b) (nat_le b 126) h).1)

pub digit_small : (b : ℕ) → is_digit b ≡ true → b < 128
digit_small b h = omega (arith, leb-true b 57 (and_parts (nat_le 48 b) (nat_le b 57) h).1)

pub session_utf8 : (s : List ℕ) → is_session_id s ≡ true → IsUtf8 s
session_utf8 s h = IsUtf8-are_ascii s (ascii_text is_visible visible_small s
    (and_three (nat_le 1 (length s)) (nat_le (length s) 128) (list_all is_visible s) h).2)

pub account_utf8 : (s : List ℕ) → is_account_number s ≡ true → IsUtf8 s
account_utf8 s h = IsUtf8-are_ascii s (ascii_text is_digit digit_small s
    (and_three (nat_le 1 (length s)) (nat_le (length s) 15) (list_all is_digit s) h).2)

pub unit_ascii : (k : UnitKind) → are_ascii (name_of_unit k) ≡ true
unit_ascii unit.Time = refl
unit_ascii unit.TotalOctets = refl
unit_ascii unit.ServiceSpecific = refl

unit_above : (k : UnitKind) → slice_cmp nat_cmp tariff_change_usage (name_of_unit k) ≡ Greater
unit_above unit.Time = refl
unit_above unit.TotalOctets = refl
unit_above unit.ServiceSpecific = refl

requested_fit : (r : Requested) → IsRequested r → Fit 1 (requested_data r)
requested_fit Slice is = fit_object 0 no_members (fit_none 0)
requested_fit (Units q) is =
    let small : q.units ≤ 18446744073709551615 =
    omega (arith, quantity_high q is, most_small q.kind) in
    fit_object 0 _ (fit_member 0 (name_of_unit q.kind) (whole q.units) no_members
    (unit_ascii q.kind) (fit_whole 0 q.units small) tt (fit_none 0))

asked_fit : (o : Option Requested) → IfSome o IsRequested →
    IfSome (option_map requested_data o) (Fit 3)
asked_fit None is = tt
asked_fit (Some r) is = fit_deeper 1 3 (requested_data r) (lit≤ tt) (requested_fit r is)

tag_fit : (o : Option TariffChangeUsage) →
    IfSome (option_map whole (option_map usage_number o)) (Fit 0)
tag_fit None = tt
tag_fit (Some usage.UnitBeforeTariffChange) = fit_whole 0 0 (lit≤ tt)
tag_fit (Some usage.UnitAfterTariffChange) = fit_whole 0 1 (lit≤ tt)
tag_fit (Some usage.UnitIndeterminate) = fit_whole 0 2 (lit≤ tt)

part_fit : (kind : UnitKind) (p : UsedPart) → p.units.0 ≤ most_units kind → Fit 1 (part_data kind p)
unfolding part_data
part_fit kind p h =
    let tag = option_map whole (tag_of p) in
    let small : p.units.0 ≤ 18446744073709551615 = omega (arith, h, most_small kind) in
    fit_object 0 _ (fit_member 0 (name_of_unit kind) (whole p.units.0)
    (perhaps tariff_change_usage tag no_members) (unit_ascii kind) (fit_whole 0 p.units.0 small)
    (above_perhaps (name_of_unit kind) tariff_change_usage tag no_members (unit_above kind) tt)
    (fit_perhaps 0 tariff_change_usage tag no_members refl (tag_fit p.change) tt (fit_none 0)))

parts_fit : (kind : UnitKind) (ps : List UsedPart) →
    list_all (λ (p : UsedPart). nat_le p.units.0 (most_units kind)) ps ≡ true →
    FitItems 1 (part_items kind ps)
parts_fit kind [] h = fit_no_items 1
parts_fit kind (p ∷ ps) h =
    let q = and_parts (nat_le p.units.0 (most_units kind))
    (list_all (λ (x : UsedPart). nat_le x.units.0 (most_units kind)) ps) h in
    fit_item 1 (part_data kind p) (part_items kind ps)
    (part_fit kind p (leb-true p.units.0 (most_units kind) q.0)) (parts_fit kind ps q.1)

used_fit : (o : Option Used) → IfSome o IsUsed → IfSome (option_map used_data o) (Fit 3)
used_fit None is = tt
used_fit (Some u) is = fit_deeper 2 3 (used_data u) (lit≤ tt) (fit_array 1
    (part_items u.kind u.parts) (parts_fit u.kind u.parts (report_parts u.kind u.parts is).most))

members_fit : (g : ℕ) (requested used : Option Data) → g ≤ 4294967295 → IfSome requested (Fit 3) →
    IfSome used (Fit 3) → Fit 4 (service_members g requested used)
members_fit g requested used h r u =
    let reported : FitMembers 3 (perhaps (name_of avp.UsedUnit) used no_members) =
    fit_perhaps 3 _ used no_members refl u tt (fit_none 3) in
    let asked : FitMembers 3 (perhaps (name_of avp.RequestedUnit) requested
    (perhaps (name_of avp.UsedUnit) used no_members)) =
    fit_perhaps 3 _ requested _ refl r
    (above_perhaps _ (name_of avp.UsedUnit) used no_members refl tt) reported in
    fit_object 3 _ (fit_member 3 _ (whole g) _ refl (fit_whole 3 g (omega arith))
    (above_perhaps _ (name_of avp.RequestedUnit) requested _ refl
    (above_perhaps _ (name_of avp.UsedUnit) used no_members refl tt)) asked)

service_fit : (s : Service) → IsService s → Fit 4 (service_data s)
unfolding service_data
service_fit s is =
    members_fit s.group (option_map requested_data s.requested) (option_map used_data s.used)
    is.group (asked_fit s.requested is.requested) (used_fit s.used is.used)

services_fit : (ss : List Service) → AllByRecursion IsService ss → FitItems 4 (service_items ss)
services_fit [] is = fit_no_items 4
services_fit (s ∷ ss) is =
    fit_item 4 (service_data s) (service_items ss) (service_fit s is.0) (services_fit ss is.1)

event_fit : (e : Event) → IsEvent e → Fit 4 (event_data e)
unfolding service_data
event_fit e is = members_fit e.group (Some (requested_data e.requested)) None is.group (fit_deeper 1
    3 (requested_data e.requested) (lit≤ tt) (requested_fit e.requested is.requested)) tt

refund_fit : (r : Refunded) → is_refund r.micros r.currency ≡ true → Fit 5 (refund_data r)
unfolding refund_data
refund_fit r is =
    let p = refund_parts r.micros r.currency is in
    let money : Fit 4 (money_data r.micros r.currency) = fit_deeper 2 4 _ (lit≤ tt)
    (fit_money 0 r.micros r.currency (omega (arith, p.most)) (omega (arith, p.currency))) in
    fit_object 4 _
    (fit_member 4 _ (money_data r.micros r.currency) no_members refl money tt (fit_none 4))

-- the members from the Session-Id on
abbrev end_members : List ℕ → List ℕ → Members
end_members session account = member (name_of avp.SessionId) (string session)
    (member (name_of avp.SubscriptionId) (subscription_data account) no_members)

subscription_fit : (account : List ℕ) → is_account_number account ≡ true →
    Fit 5 (subscription_data account)
unfolding subscription_data
subscription_fit account h =
    fit_object 4 _
    (fit_member 4 _ (string account) _ refl (fit_text 4 account (account_utf8 account h)) (
      refl,
      tt,
    ) (fit_member 4 _ (whole 0) no_members refl (fit_whole 4 0 (lit≤ tt)) tt (fit_none 4)))

end_fit : (session account : List ℕ) → is_session_id session ≡ true →
    is_account_number account ≡ true → FitMembers 5 (end_members session account)
end_fit session account s a =
    fit_member 5 _ (string session) _ refl (fit_text 5 session (session_utf8 session s))
    (refl, tt) (fit_member 5 _ (subscription_data account) no_members refl
    (subscription_fit account a) tt (fit_none 5))

list_fit : (ss : List Service) → AllByRecursion IsService ss → Fit 5 (array (service_items ss))
list_fit ss is = fit_array 4 (service_items ss) (services_fit ss is)

ask_fit : (a : Ask) (session account : List ℕ) →
    IsAsk a → FitMembers 5 (end_members session account) →
    FitMembers 5 (with_members (ask_named a) (end_members session account))
ask_fit (ask.Initial ss) session account is end =
    fit_member 5 _ (array (service_items ss)) _ refl (list_fit ss is.1) (refl, (refl, tt)) end
ask_fit (ask.Update ss) session account is end =
    fit_member 5 _ (array (service_items ss)) _ refl (list_fit ss is.1) (refl, (refl, tt)) end
ask_fit (ask.Termination ss) session account is end =
    fit_member 5 _ (array (service_items ss)) _ refl (list_fit ss is.1) (refl, (refl, tt)) end
ask_fit (ask.Event e) session account is end =
    let list : Fit 5 (array (item (event_data e) no_items)) =
    fit_array 4 _ (fit_item 4 (event_data e) no_items (event_fit e is) (fit_no_items 4)) in
    fit_member 5 _ _ _ refl list (refl, (refl, (refl, tt)))
    (fit_member 5 _ (whole (action_number e.action)) _ refl (fit_whole 5 (action_number e.action)
    (omega (arith, action_small e.action))) (refl, (refl, tt)) end)
ask_fit (ask.Refund r) session account is end =
    fit_member 5 _ (whole 1) _ refl (fit_whole 5 1 (lit≤ tt)) (refl, (refl, (refl, tt)))
    (fit_member 5 _ (refund_data r) _ refl (refund_fit r is) (refl, (refl, tt)) end)

ask_above : (k : List ℕ) (a : Ask) (session account : List ℕ)
    → slice_cmp nat_cmp (name_of avp.Services) k ≡ Greater
    → slice_cmp nat_cmp (name_of avp.RequestedAction) k ≡ Greater
    → slice_cmp nat_cmp (name_of avp.RequestedUnit) k ≡ Greater
    → slice_cmp nat_cmp (name_of avp.SessionId) k ≡ Greater
    → slice_cmp nat_cmp (name_of avp.SubscriptionId) k ≡ Greater
    → Above k (with_members (ask_named a) (end_members session account))
ask_above k (ask.Initial ss) session account m a u s d = (m, (s, (d, tt)))
ask_above k (ask.Update ss) session account m a u s d = (m, (s, (d, tt)))
ask_above k (ask.Termination ss) session account m a u s d = (m, (s, (d, tt)))
ask_above k (ask.Event e) session account m a u s d = (m, (a, (s, (d, tt))))
ask_above k (ask.Refund r) session account m a u s d = (a, (u, (s, (d, tt))))

pub kind_small : (k : RequestKind) → kind_number k ≤ 18446744073709551615
kind_small kind.Initial = lit≤ tt
kind_small kind.Update = lit≤ tt
kind_small kind.Termination = lit≤ tt
kind_small kind.Event = lit≤ tt

abbrev request_members : Request → Members
request_members r = member (name_of avp.RequestNumber) (whole r.number)
    (member (name_of avp.RequestType) (whole (kind_number (kind_of_ask r.ask)))
    (with_members (ask_named r.ask) (end_members r.session r.account)))

request_fit : (r : Request) → IsRequest r → FitMembers 5 (request_members r)
request_fit r is =
    let asked =
    ask_fit r.ask r.session r.account is.ask (end_fit r.session r.account is.session is.account) in
    let above_type =
    ask_above (name_of avp.RequestType) r.ask r.session r.account refl refl refl refl refl in
    let above_number =
    ask_above (name_of avp.RequestNumber) r.ask r.session r.account refl refl refl refl refl in
    fit_member 5 _ (whole r.number) _ refl (fit_whole 5 r.number (omega (arith, is.number)))
    (refl, above_number) (fit_member 5 _ (whole (kind_number (kind_of_ask r.ask))) _ refl (fit_whole
    5 (kind_number (kind_of_ask r.ask)) (kind_small (kind_of_ask r.ask))) above_type asked)

-- ---- the request

whole_again : (r : Request) → IsRequest r → request_in (object (request_members r)) ≡ Ok r
unfolding request_in
whole_again r is =
    let d = ask_data r.ask r.number r.session r.account in
    rw (
      session_again d r.session (session_found r.ask r.number r.session r.account) is.session,
      kind_again (kind_of_ask r.ask) d refl,
      number_found avp.RequestNumber 0 4294967295 d r.number refl (omega arith) is.number,
      account_again d r.account (subscription_found r.ask r.number r.session r.account) is.account,
      ask_again r.ask r.number r.session r.account is.ask,
    ) refl

-- rule: request-written
pub requests_again : RequestsReadAgain request_text
unfolding request_of request_text request_data
requests_again r is =
    let fit : Fit 127 (object (request_members r)) =
    fit_deeper 6 127 _ (lit≤ tt) (fit_object 5 (request_members r) (request_fit r is)) in
    rw (document_again (request_members r) fit) (whole_again r is)

-- rule: request-written.in-byte-order
pub requests_in_order : RequestsAreInOrder request_data
unfolding request_data
requests_in_order r is = members_in_order (request_members r) (request_fit r is).tidy
