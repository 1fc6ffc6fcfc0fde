-- The lists that are read keep the rules of their types.
use Rattle.std.proofs.Common.{◌≡◌, ℕ, ◌≤◌, List, [], ◌∷◌, ◌++◌, length, Bool, true, false, ◌&&◌}
use Rattle.std.proofs.Common.{Option, Some, None, is_some, is_none, Ok, refl, ◌∙◌, subst, arith}
use Rattle.std.proofs.Common.{le-leb, nat_le}
use Rattle.std.specs.Prelude.{not, ◌==◌, option_and_then}
use Rattle.std.specs.List.{list_all}
use Rattle.std.specs.Option.{option_eq}
use Rattle.std.proofs.lemmas.Bool.{and_parts, and_from, not-true}
use Rattle.serde_json.specs.Data.{Data, Items}
use Rattle.serde_json.specs.Events.{items_len}
use Rattle.serde_json.specs.Find.{get, as_object, as_number, as_u64}
use Rattle.units.specs.declared.blocks.UnitKind.{UnitKind}
use Rattle.commands.specs.declared.avp.Avp.TheVariants as avp
use Rattle.commands.specs.declared.service.Requested.{Requested}
use Rattle.units.specs.declared.blocks.UsedPart.{UsedPart}
use Rattle.commands.specs.Names.{name_of}
use Rattle.commands.specs.Used.{Used}
use Rattle.commands.specs.declared.service.Service.{Service}
use Rattle.commands.specs.Quantities.{most_units}
use Rattle.commands.specs.Reports.{same_usage, tags_differ, is_report}
use Rattle.commands.specs.Services.{groups_differ, are_initial, are_update, are_termination}
use Rattle.commands.proofs.Differing.{all-append, differ-append}
use Rattle.json_fields.specs.declared.fault.WireFault.{WireFault}
use Rattle.json_fields.specs.declared.fault.WireFault.TheVariants.{Invalid}
use Rattle.json_fields.specs.Gives.{or_fault, where_holds}
use Rattle.json_fields.specs.Fields.{array_of, number_at, whole_in}
use Rattle.json_fields.specs.Unit.{name_of_unit, units_at, lacks_others}
use Rattle.json_fields.proofs.Kept.{same_value, bind_ok, where_ok, kept, counted}
use Rattle.wire_requests.specs.declared.phase.Phase.{Phase}
use Rattle.wire_requests.specs.declared.phase.Phase.TheVariants.{Initial, Update, Termination}
use Rattle.wire_requests.specs.Reports.{required_at, tag_is_taken, usage_at, part_at, parts_from}
use Rattle.wire_requests.specs.Phases.{requested_at, used_at, group_is_taken, service_at}
use Rattle.wire_requests.specs.Phases.{are_objects, fewest, services_of, services_when, services_at}

-- ---- reports

-- units that are read are within their range
units_ok : (fault : WireFault) (low : ℕ) (kind : UnitKind) (d : Data) (n : ℕ) →
    units_at fault low kind d ≡ Ok n → nat_le n (most_units kind) ≡ true
unfolding units_at
units_ok fault low kind d n h =
    let a = bind_ok (or_fault fault (get (name_of_unit kind) d)) _ n h in
    let c = bind_ok (whole_in fault low (most_units kind) a.0) _ n a.2 in
    let b = bind_ok (or_fault fault (option_and_then as_u64 (as_number a.0))) _ c.0 c.1 in
    let within = where_ok (nat_le low b.0 && nat_le b.0 (most_units kind)) fault b.0 c.0 b.2 in
    let alone = where_ok (lacks_others kind d) fault c.0 n c.2 in
    subst (λ k. nat_le k (most_units kind) ≡ true) (within.1 ∙ alone.1)
    (and_parts (nat_le low b.0) (nat_le b.0 (most_units kind)) within.0).1

-- a part that is read has units within their range, and a tag of its own
part_ok : (kind : UnitKind) (done : List UsedPart) (d : Data) (p : UsedPart) → part_at kind done d
    ≡ Ok p → (nat_le p.units.0 (most_units kind) ≡ true) × (tag_is_taken done p.change ≡ false)
unfolding part_at
part_ok kind done d p h =
    let a = bind_ok (or_fault (Invalid avp.UsedUnit) (as_object d)) _ p h in
    let n = bind_ok (units_at (Invalid avp.UsedUnit) 0 kind d) _ p a.2 in
    let tag = bind_ok (usage_at d) _ p n.2 in
    let free =
    bind_ok (where_holds (not (tag_is_taken done tag.0)) (Invalid avp.UsedUnit) tag.0) _ p tag.2 in
    let test =
    where_ok (not (tag_is_taken done tag.0)) (Invalid avp.UsedUnit) tag.0 free.0 free.1 in
    let is = same_value _ p free.2 in (
      subst (λ (q : UsedPart). nat_le q.units.0 (most_units kind) ≡ true) is
          (units_ok (Invalid avp.UsedUnit) 0 kind d n.0 n.1),
      subst (λ (q : UsedPart). tag_is_taken done q.change ≡ false) is
          (not-true (tag_is_taken done tag.0) test.0),
    )

abbrev IsPartsSoFar : UnitKind → List UsedPart → Type 0
IsPartsSoFar kind ps = (list_all (λ (p : UsedPart). nat_le p.units.0 (most_units kind)) ps ≡ true)
    × (tags_differ ps ≡ true)

one_more_part : (kind : UnitKind) (done : List UsedPart) (d : Data) (p : UsedPart) →
    IsPartsSoFar kind done → part_at kind done d ≡ Ok p → IsPartsSoFar kind (done ++ p ∷ [])
one_more_part kind done d p h is =
    let ok = part_ok kind done d p is in (
      all-append (λ (q : UsedPart). nat_le q.units.0 (most_units kind)) done p h.0 ok.0,
      differ-append (λ (q r : UsedPart). option_eq same_usage q.change r.change) done p h.1 ok.1,
    )

-- 1 to 4 parts that are read are a report
pub report : (kind : UnitKind) (ds : Items) (ps : List UsedPart) → parts_from kind ds ≡ Ok ps →
    1 ≤ items_len ds → items_len ds ≤ 4 → is_report kind ps ≡ true
report kind ds ps h few most =
    let count = counted (part_at kind) ds [] ps h in
    let keeps =
    kept (part_at kind) (IsPartsSoFar kind) (one_more_part kind) ds [] ps (refl, refl) h in
    let low : 1 ≤ length ps = omega arith in
    let high : length ps ≤ 4 = omega arith in
    rw (le-leb 1 (length ps) low, le-leb (length ps) 4 high, keeps.0, keeps.1) refl

-- ---- services

-- whether a service of this request may ask and report
abbrev pub fits : Phase → Service → Bool
fits Initial s = is_some s.requested && is_none s.used
fits Update s = true
fits Termination s = is_none s.requested

asked_ok : (d : Data) (o : Option Requested) → requested_at Initial d ≡ Ok o → is_some o ≡ true
unfolding requested_at
asked_ok d o h =
    let r = bind_ok (required_at d) _ o h in
    subst (λ (q : Option Requested). is_some q ≡ true) (same_value _ o r.2) refl

silent_ok : (d : Data) (o : Option Used) → used_at Initial d ≡ Ok o → is_none o ≡ true
unfolding used_at
silent_ok d o h = subst (λ (q : Option Used). is_none q ≡ true)
    (where_ok (is_none (get (name_of avp.UsedUnit) d)) (Invalid avp.UsedUnit) None o h).1 refl

content_ok : (d : Data) (o : Option Requested) → requested_at Termination d ≡ Ok o →
    is_none o ≡ true
unfolding requested_at
content_ok d o h = subst (λ (q : Option Requested). is_none q ≡ true) (where_ok
    (is_none (get (name_of avp.RequestedUnit) d)) (Invalid avp.RequestedUnit) None o h).1 refl

fits_ok : (phase : Phase) (d : Data) (s : Service) → requested_at phase d ≡ Ok s.requested →
    used_at phase d ≡ Ok s.used → fits phase s ≡ true
fits_ok Initial d s r u = and_from _ _ (asked_ok d s.requested r) (silent_ok d s.used u)
fits_ok Update d s r u = refl
fits_ok Termination d s r u = content_ok d s.requested r

-- a service that is read fits its request, and has a group of its own
service_ok : (phase : Phase) (done : List Service) (d : Data) (s : Service) →
    service_at phase done d ≡ Ok s → (group_is_taken done s.group ≡ false) × (fits phase s ≡ true)
unfolding service_at
service_ok phase done d s h =
    let g = bind_ok (number_at avp.RatingGroup 0 4294967295 d) _ s h in
    let free =
    bind_ok (where_holds (not (group_is_taken done g.0)) (Invalid avp.RatingGroup) g.0) _ s g.2 in
    let test =
    where_ok (not (group_is_taken done g.0)) (Invalid avp.RatingGroup) g.0 free.0 free.1 in
    let r = bind_ok (requested_at phase d) _ s free.2 in
    let u = bind_ok (used_at phase d) _ s r.2 in
    let is = same_value _ s u.2 in (
      subst (λ (q : Service). group_is_taken done q.group ≡ false) is
          (not-true (group_is_taken done g.0) test.0),
      subst (λ (q : Service). fits phase q ≡ true) is
          (fits_ok phase d (record { group = g.0; requested = r.0; used = u.0 }) r.1 u.1),
    )

abbrev AreSoFar : Phase → List Service → Type 0
AreSoFar phase ss = (groups_differ ss ≡ true) × (list_all (fits phase) ss ≡ true)

one_more_service : (phase : Phase) (done : List Service) (d : Data) (s : Service) →
    AreSoFar phase done → service_at phase done d ≡ Ok s → AreSoFar phase (done ++ s ∷ [])
one_more_service phase done d s h is =
    let ok = service_ok phase done d s is in (
      differ-append (λ (a b : Service). a.group == b.group) done s h.0 ok.0,
      all-append (fits phase) done s h.1 ok.1,
    )

pub record AreServices (phase : Phase) (ss : List Service) : Type 0 where
  pub few : nat_le (fewest phase) (length ss) ≡ true
  pub most : nat_le (length ss) 16 ≡ true
  pub differ : groups_differ ss ≡ true
  pub fit : list_all (fits phase) ss ≡ true

services_ok : (phase : Phase) (v : Data) (ss : List Service) → services_of phase v ≡ Ok ss →
    AreServices phase ss
unfolding services_of
services_ok phase v ss h =
    let a = bind_ok (array_of avp.Services v) _ ss h in
    let few = bind_ok (where_holds (nat_le (fewest phase) (items_len a.0)
    && nat_le (items_len a.0) 16) (Invalid avp.Services) a.0) _ ss a.2 in
    let objects = bind_ok (where_holds (are_objects a.0) (Invalid avp.Services) a.0) _ ss few.2 in
    let count = where_ok (nat_le (fewest phase) (items_len a.0) && nat_le (items_len a.0) 16)
    (Invalid avp.Services) a.0 few.0 few.1 in
    let parts =
    and_parts (nat_le (fewest phase) (items_len a.0)) (nat_le (items_len a.0) 16) count.0 in
    let as_many : items_len a.0 ≡ length ss =
    omega (arith, counted (service_at phase) a.0 [] ss objects.2) in
    let keeps = kept (service_at phase) (AreSoFar phase) (one_more_service phase) a.0 [] ss
    (refl, refl) objects.2 in
    record {
      few = subst (λ n. nat_le (fewest phase) n ≡ true) as_many parts.0;
      most = subst (λ n. nat_le n 16 ≡ true) as_many parts.1;
      differ = keeps.0;
      fit = keeps.1;
    }

initial_when : (o : Option Data) (ss : List Service) → services_when Initial o ≡ Ok ss →
    are_initial ss ≡ true
initial_when None ss h = absurd (cc)
initial_when (Some v) ss h =
    let are = services_ok Initial v ss h in
    rw (are.few, are.most, are.differ, are.fit) refl

pub initial : (d : Data) (ss : List Service) → services_at Initial d ≡ Ok ss → are_initial ss ≡ true
unfolding services_at
initial d ss h = initial_when (get (name_of avp.Services) d) ss h

update_when : (o : Option Data) (ss : List Service) → services_when Update o ≡ Ok ss →
    are_update ss ≡ true
update_when None ss h = absurd (cc)
update_when (Some v) ss h =
    let are = services_ok Update v ss h in
    rw (are.few, are.most, are.differ) refl

pub update : (d : Data) (ss : List Service) → services_at Update d ≡ Ok ss → are_update ss ≡ true
unfolding services_at
update d ss h = update_when (get (name_of avp.Services) d) ss h

termination_when : (o : Option Data) (ss : List Service) → services_when Termination o ≡ Ok ss →
    are_termination ss ≡ true
termination_when None ss h =
    subst (λ (xs : List Service). are_termination xs ≡ true) (same_value [] ss h) refl
termination_when (Some v) ss h =
    let are = services_ok Termination v ss h in
    rw (are.most, are.differ, are.fit) refl

pub termination : (d : Data) (ss : List Service) → services_at Termination d ≡ Ok ss →
    are_termination ss ≡ true
unfolding services_at
termination d ss h = termination_when (get (name_of avp.Services) d) ss h
