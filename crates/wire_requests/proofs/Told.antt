-- The fault of a request is reported of a member that is missing or there.
use Rattle.std.proofs.Common.{◌≡◌, ℕ, List, [], ◌∷◌, ◌++◌, Bool, true, false, Option, Some, None}
use Rattle.std.proofs.Common.{is_some, is_none, ◌&&◌, Result, Ok, Err, refl, sym, ap, ◌∙◌}
use Rattle.std.proofs.Common.{subst, nat_le, append_assoc}
use Rattle.std.specs.Prelude.{pos, negsuc, int_le, nat_eq, option_and_then, ◌==◌, ⊤, if◌then◌else◌}
use Rattle.std.specs.Prelude.{not}
use Rattle.std.specs.List.{list_any}
use Rattle.std.proofs.lemmas.Bool.{or_right}
use Rattle.serde_json.specs.Data.{Data, Items, no_items, item}
use Rattle.serde_json.specs.Events.{items_len}
use Rattle.serde_json.specs.Find.{get, as_number, as_u64, as_i64, as_str, as_array, as_object}
use Rattle.texts.specs.Steps.{each}
use Rattle.identifiers.specs.Texts.{is_session_id, is_account_number}
use Rattle.units.specs.declared.blocks.UnitKind.{UnitKind}
use Rattle.units.specs.declared.blocks.UsedPart.{UsedPart}
use Rattle.commands.specs.declared.avp.Avp.{Avp}
use Rattle.commands.specs.declared.avp.Avp.TheVariants as avp
use Rattle.commands.specs.declared.request.RequestKind.{RequestKind}
use Rattle.commands.specs.declared.request.RequestKind.TheVariants as kind
use Rattle.commands.specs.declared.request.EventAction.{EventAction}
use Rattle.commands.specs.declared.service.Service.{Service}
use Rattle.commands.specs.Names.{name_of, tariff_change_usage}
use Rattle.commands.specs.Codes.{kind_number, kind_numbered, action_numbered}
use Rattle.commands.specs.Reports.{usage_numbered}
use Rattle.commands.specs.Quantities.{most_units}
use Rattle.json_fields.specs.declared.fault.WireFault.{WireFault}
use Rattle.json_fields.specs.declared.fault.WireFault.TheVariants.{Missing, Invalid}
use Rattle.json_fields.specs.Gives.{◌>>=◌, or_fault, where_holds, read_each, item_list}
use Rattle.json_fields.specs.Fields.{member_at, whole_in, number_at, text_at, object_at, array_of}
use Rattle.json_fields.specs.Unit.{name_of_unit, kind_told, lacks_others, units_at}
use Rattle.wire_requests.specs.declared.phase.Phase.{Phase}
use Rattle.wire_requests.specs.declared.phase.Phase.TheVariants.{Initial, Update, Termination}
use Rattle.wire_requests.specs.Reports.{wanted_in, requested_of, required_at, usage_when, usage_at}
use Rattle.wire_requests.specs.Reports.{tag_is_taken, part_at, kind_of_first, parts_from, used_of}
use Rattle.wire_requests.specs.Phases.{asked_when, reported_when, requested_at, used_at}
use Rattle.wire_requests.specs.Phases.{group_is_taken, service_at, are_objects, fewest, services_of}
use Rattle.wire_requests.specs.Phases.{services_when, services_at}
use Rattle.wire_requests.specs.Refunds.{exponent_when, exponent_at, micros_told, money_at}
use Rattle.wire_requests.specs.Refunds.{refund_at}
use Rattle.wire_requests.specs.Reading.{session_at, kind_at, account_at, only_item, event_of}
use Rattle.wire_requests.specs.Reading.{event_at, action_at, ask_at, request_in}
use Rattle.wire_requests.specs.Said.{SaysNumber}
use Rattle.wire_requests.specs.Told.{values, services_told, money_told, amount_told, is_number}
use Rattle.wire_requests.specs.Told.{asks_refund, holders, IsRequestFaultTold, TellsOf}
use Rattle.wire_requests.specs.Told.{FaultsAreTold}
use Rattle.wire_requests.proofs.Said.{or_found, text_said, number_said, kind_at_said}
use Rattle.wire_requests.proofs.SaidServices.{object_stands}

-- ---- steps

module _ (d : Data) where
  then_told : {A B : Type 0} (r : Result A WireFault) (f : A → Result B WireFault) → TellsOf d r →
      ((x : A) → r ≡ Ok x → TellsOf d (f x)) → TellsOf d (r >>= f)
  then_told (Ok x) f h next = next x refl
  then_told (Err e) f h next = h

  where_told : {A : Type 0} (b : Bool) (e : WireFault) (x : A) → IsRequestFaultTold d e →
      TellsOf d (where_holds b e x)
  where_told true e x h = tt
  where_told false e x h = h

  or_told : {A : Type 0} (e : WireFault) (o : Option A) → IsRequestFaultTold d e →
      TellsOf d (or_fault e o)
  or_told e None h = h
  or_told e (Some x) h = tt

  if_case : {A : Type 0} (b : Bool) (x y : Result A WireFault) → (b ≡ true → TellsOf d x) →
      (b ≡ false → TellsOf d y) → TellsOf d (if b then x else y)
  if_case true x y h k = h refl
  if_case false x y h k = k refl

  -- items, each of which says something of the request
  abbrev AllItems : (Data → Type 0) → Items → Type 0
  AllItems P no_items = ⊤
  AllItems P (item h ds) = P h × AllItems P ds

  any_items : (ds : Items) → AllItems (λ _. ⊤) ds
  any_items no_items = tt
  any_items (item h ds) = (tt, any_items ds)

  each_told : {A : Type 0} (read : List A → Data → Result A WireFault) (P : Data → Type 0) →
      ((done : List A) (h : Data) → P h → TellsOf d (read done h)) → (ds : Items) (done : List A) →
      AllItems P ds → TellsOf d (read_each read done ds)
  unfolding each
  each_told read P one no_items done all = tt
  each_told read P one (item h ds) done all =
      then_told (read done h >>= λ x. Ok (done ++ x ∷ [])) _ (then_told (read done h) _
      (one done h all.0) (λ x e. tt)) (λ more e. each_told read P one ds more all.1)

-- ---- members of an object that can hold them

abbrev Holds : List Data → Data → Type 0
Holds all h = (p : Data → Bool) → p h ≡ true → list_any p all ≡ true

alone : (h : Data) → Holds (h ∷ []) h
alone h p e = rw e refl

value_holds : (o : Option Data) (h : Data) → o ≡ Some h → Holds (values o) h
value_holds o h is = subst (λ (x : Option Data). Holds (values x) h) (sym is) (alone h)

middle : (pre : List Data) (h : Data) (rest : List Data) → Holds (pre ++ h ∷ rest) h
middle [] h rest p e = rw e refl
middle (x ∷ pre) h rest p e = or_right (p x) (list_any p (pre ++ h ∷ rest)) (middle pre h rest p e)

items_hold : (d : Data) (pre all : List Data) (ds : Items) → all ≡ pre ++ item_list ds →
    AllItems d (Holds all) ds
items_hold d pre all no_items is = tt
items_hold d pre all (item h ds) is = (
  subst (λ (xs : List Data). Holds xs h) (sym is) (middle pre h (item_list ds)),
  items_hold d (pre ++ h ∷ []) all ds (is ∙ sym (append_assoc pre (h ∷ []) (item_list ds))),
)

module _ (d : Data) (a : Avp) (h : Data) (hold : Holds (holders a d) h) where
  is_missing : get (name_of a) h ≡ None → IsRequestFaultTold d (Missing a)
  is_missing e = hold (λ x. is_none (get (name_of a) x)) (ap is_none e)

  is_invalid : (v : Data) → get (name_of a) h ≡ Some v → IsRequestFaultTold d (Invalid a)
  is_invalid v e = hold (λ x. is_some (get (name_of a) x)) (ap is_some e)

  found_told : (o : Option Data) → get (name_of a) h ≡ o → TellsOf d (or_fault (Missing a) o)
  found_told None e = is_missing e
  found_told (Some v) e = tt

  member_told : TellsOf d (member_at a h)
  unfolding member_at
  member_told = found_told (get (name_of a) h) refl

  stands_by : (v : Data) → member_at a h ≡ Ok v → get (name_of a) h ≡ Some v
  unfolding member_at
  stands_by v e = or_found (Missing a) (get (name_of a) h) v e

  member_bad : (v : Data) → member_at a h ≡ Ok v → IsRequestFaultTold d (Invalid a)
  member_bad v e = is_invalid v (stands_by v e)

  whole_told : (low high : ℕ) (v : Data) → IsRequestFaultTold d (Invalid a) →
      TellsOf d (whole_in (Invalid a) low high v)
  whole_told low high v bad = then_told d
      (or_fault (Invalid a) (option_and_then as_u64 (as_number v))) _ (or_told d (Invalid a) _ bad)
      (λ n e. where_told d (nat_le low n && nat_le n high) (Invalid a) n bad)

  number_told : (low high : ℕ) → TellsOf d (number_at a low high h)
  unfolding number_at
  number_told low high =
      then_told d (member_at a h) _ member_told (λ v e. whole_told low high v (member_bad v e))

  text_told : TellsOf d (text_at a h)
  unfolding text_at
  text_told = then_told d (member_at a h) _ member_told
      (λ v e. or_told d (Invalid a) (as_str v) (member_bad v e))

  object_told : TellsOf d (object_at a h)
  unfolding object_at
  object_told = then_told d (member_at a h) _ member_told (λ v e. then_told d (or_fault (Invalid a)
      (as_object v)) _ (or_told d (Invalid a) _ (member_bad v e)) (λ m e2. tt))

  text_bad : (s : List ℕ) → text_at a h ≡ Ok s → IsRequestFaultTold d (Invalid a)
  text_bad s e = let says = text_said a h s e in is_invalid says.value says.stands

  number_bad : (low high n : ℕ) → number_at a low high h ≡ Ok n → IsRequestFaultTold d (Invalid a)
  number_bad low high n e = let says = number_said a low high h n e in
      is_invalid says.value says.stands

  -- where it must not be there
  absent_told : {A : Type 0} (o : Option Data) (x : A) → get (name_of a) h ≡ o →
      TellsOf d (where_holds (is_none o) (Invalid a) x)
  absent_told None x e = tt
  absent_told (Some v) x e = is_invalid v e

-- ---- what is asked and reported

module _ (d : Data) (told : Avp) (bad : IsRequestFaultTold d (Invalid told)) where
  units_told : (low : ℕ) (kind : UnitKind) (v : Data) →
      TellsOf d (units_at (Invalid told) low kind v)
  unfolding units_at
  units_told low kind v =
      then_told d (or_fault (Invalid told) (get (name_of_unit kind) v)) _
      (or_told d (Invalid told) _ bad) (λ u e.
      then_told d (whole_in (Invalid told) low (most_units kind) u) _
      (then_told d (or_fault (Invalid told) (option_and_then as_u64 (as_number u))) _
      (or_told d (Invalid told) _ bad)
      (λ n e2. where_told d (nat_le low n && nat_le n (most_units kind)) (Invalid told) n bad))
      (λ n e2. where_told d (lacks_others kind v) (Invalid told) n bad))

wanted_told : (d : Data) (k : Option UnitKind) (v : Data) → IsRequestFaultTold d
    (Invalid avp.RequestedUnit) →
    TellsOf d (wanted_in k v)
unfolding wanted_in
wanted_told d None v bad = tt
wanted_told d (Some k) v bad = then_told d (units_at (Invalid avp.RequestedUnit) 1 k v) _
    (units_told d avp.RequestedUnit bad 1 k v) (λ n e. tt)

requested_told : (d v : Data) → IsRequestFaultTold d (Invalid avp.RequestedUnit) →
    TellsOf d (requested_of v)
unfolding requested_of
requested_told d v bad =
    then_told d (or_fault (Invalid avp.RequestedUnit) (as_object v)) _
    (or_told d (Invalid avp.RequestedUnit) _ bad) (λ m e.
    then_told d (where_holds (is_none (get (name_of avp.Money) v)) (Invalid avp.RequestedUnit) v) _
    (where_told d _ (Invalid avp.RequestedUnit) v bad)
    (λ free e2. wanted_told d (kind_told v) v bad))

change_told : (d : Data) (o : Option Data) → IsRequestFaultTold d (Invalid avp.UsedUnit) →
    TellsOf d (usage_when o)
change_told d None bad = tt
change_told d (Some v) bad =
    then_told d (or_fault (Invalid avp.UsedUnit) (option_and_then as_u64 (as_number v))) _
    (or_told d (Invalid avp.UsedUnit) _ bad) (λ n e.
    then_told d (or_fault (Invalid avp.UsedUnit) (usage_numbered n)) _
    (or_told d (Invalid avp.UsedUnit) (usage_numbered n) bad) (λ u e2. tt))

part_told : (d : Data) (k : UnitKind) (done : List UsedPart) (v : Data) →
    IsRequestFaultTold d (Invalid avp.UsedUnit) → TellsOf d (part_at k done v)
unfolding part_at usage_at
part_told d k done v bad =
    then_told d (or_fault (Invalid avp.UsedUnit) (as_object v)) _
    (or_told d (Invalid avp.UsedUnit) _ bad) (λ m e.
    then_told d (units_at (Invalid avp.UsedUnit) 0 k v) _
    (units_told d avp.UsedUnit bad 0 k v) (λ n e2.
    then_told d (usage_at v) _ (change_told d (get tariff_change_usage v) bad) (λ change e3.
    then_told d (where_holds (not (tag_is_taken done change)) (Invalid avp.UsedUnit) change) _
    (where_told d _ (Invalid avp.UsedUnit) change bad) (λ free e4. tt))))

used_told : (d v : Data) → IsRequestFaultTold d (Invalid avp.UsedUnit) → TellsOf d (used_of v)
unfolding used_of array_of
used_told d v bad =
    then_told d (array_of avp.UsedUnit v) _
    (or_told d (Invalid avp.UsedUnit) (as_array v) bad) (λ ds e.
    then_told d (where_holds (nat_le 1 (items_len ds) && nat_le (items_len ds) 4)
    (Invalid avp.UsedUnit) ds) _ (where_told d _ (Invalid avp.UsedUnit) ds bad) (λ few e2.
    then_told d (parts_from (kind_of_first ds) ds) _ (each_told d (part_at (kind_of_first ds))
    (λ _. ⊤) (λ done h own. part_told d (kind_of_first ds) done h bad) ds [] (any_items d ds))
    (λ parts e3. tt)))

-- ---- services

-- a service can hold its rating group, what it asks and what it reports
record IsService (d h : Data) : Type 0 where
  group : Holds (holders avp.RatingGroup d) h
  requested : Holds (holders avp.RequestedUnit d) h
  used : Holds (holders avp.UsedUnit d) h

service_of : (d h : Data) → asks_refund d ≡ false → Holds (services_told d) h → IsService d h
service_of d h other hold = record {
  group = hold;
  requested = subst (λ b. Holds (if b then d ∷ [] else services_told d) h) (sym other) hold;
  used = hold;
}

services_hold : (d v : Data) (ds : Items) → get (name_of avp.Services) d ≡ Some v →
    as_array v ≡ Some ds → asks_refund d ≡ false → AllItems d (IsService d) ds
services_hold d v ds stands array other =
    each_of ds (items_hold d [] (services_told d) ds (rw (stands, array) refl))
  where
    each_of : (xs : Items) → AllItems d (Holds (services_told d)) xs → AllItems d (IsService d) xs
    each_of no_items all = tt
    each_of (item h xs) all = (service_of d h other all.0, each_of xs all.1)

asked_told : (d h : Data) (o : Option Data) → Holds (holders avp.RequestedUnit d) h →
    get (name_of avp.RequestedUnit) h ≡ o → TellsOf d (asked_when o)
asked_told d h None hold e = tt
asked_told d h (Some v) hold e = then_told d (requested_of v) _
    (requested_told d v (is_invalid d avp.RequestedUnit h hold v e)) (λ r e2. tt)

required_told : (d h : Data) → Holds (holders avp.RequestedUnit d) h → TellsOf d (required_at h)
unfolding required_at
required_told d h hold =
    then_told d (member_at avp.RequestedUnit h) _ (member_told d avp.RequestedUnit h hold)
    (λ v e. requested_told d v (member_bad d avp.RequestedUnit h hold v e))

asks_told : (d : Data) (phase : Phase) (h : Data) → Holds (holders avp.RequestedUnit d) h →
    TellsOf d (requested_at phase h)
unfolding requested_at
asks_told d Initial h hold = then_told d (required_at h) _ (required_told d h hold) (λ r e. tt)
asks_told d Update h hold = asked_told d h _ hold refl
asks_told d Termination h hold =
    absent_told d avp.RequestedUnit h hold (get (name_of avp.RequestedUnit) h) None refl

reported_told : (d h : Data) (o : Option Data) → Holds (holders avp.UsedUnit d) h →
    get (name_of avp.UsedUnit) h ≡ o → TellsOf d (reported_when o)
reported_told d h None hold e = tt
reported_told d h (Some v) hold e =
    then_told d (used_of v) _ (used_told d v (is_invalid d avp.UsedUnit h hold v e)) (λ u e2. tt)

reports_told : (d : Data) (phase : Phase) (h : Data) → Holds (holders avp.UsedUnit d) h →
    TellsOf d (used_at phase h)
unfolding used_at
reports_told d Initial h hold =
    absent_told d avp.UsedUnit h hold (get (name_of avp.UsedUnit) h) None refl
reports_told d Update h hold = reported_told d h _ hold refl
reports_told d Termination h hold = reported_told d h _ hold refl

service_told : (d : Data) (phase : Phase) (done : List Service) (h : Data) → IsService d h →
    TellsOf d (service_at phase done h)
unfolding service_at
service_told d phase done h own =
    then_told d (number_at avp.RatingGroup 0 4294967295 h) _
    (number_told d avp.RatingGroup h own.group 0 4294967295) (λ g e.
    then_told d (where_holds (not (group_is_taken done g)) (Invalid avp.RatingGroup) g) _
    (where_told d _ (Invalid avp.RatingGroup) g
    (number_bad d avp.RatingGroup h own.group 0 4294967295 g e)) (λ free e2.
    then_told d (requested_at phase h) _ (asks_told d phase h own.requested) (λ r e3.
    then_told d (used_at phase h) _ (reports_told d phase h own.used) (λ u e4. tt))))

services_of_told : (d : Data) (phase : Phase) (v : Data) → get (name_of avp.Services) d ≡ Some v →
    asks_refund d ≡ false → TellsOf d (services_of phase v)
unfolding services_of array_of
services_of_told d phase v stands other =
    let bad : IsRequestFaultTold d (Invalid avp.Services) = is_invalid d avp.Services d (alone d) v
    stands in
    then_told d (array_of avp.Services v) _
    (or_told d (Invalid avp.Services) (as_array v) bad) (λ ds e.
    then_told d (where_holds (nat_le (fewest phase) (items_len ds) && nat_le (items_len ds) 16)
    (Invalid avp.Services) ds) _ (where_told d _ (Invalid avp.Services) ds bad) (λ few e2.
    then_told d (where_holds (are_objects ds) (Invalid avp.Services) ds) _
    (where_told d _ (Invalid avp.Services) ds bad) (λ objects e3.
    each_told d (service_at phase) (IsService d) (λ done h own. service_told d phase done h own)
    ds [] (services_hold d v ds stands (or_found (Invalid avp.Services) (as_array v) ds e) other))))

services_when_told : (d : Data) (phase : Phase) (o : Option Data) →
    get (name_of avp.Services) d ≡ o → asks_refund d ≡ false → TellsOf d (services_when phase o)
services_when_told d Initial None e other = is_missing d avp.Services d (alone d) e
services_when_told d Update None e other = is_missing d avp.Services d (alone d) e
services_when_told d Termination None e other = tt
services_when_told d Initial (Some v) e other = services_of_told d Initial v e other
services_when_told d Update (Some v) e other = services_of_told d Update v e other
services_when_told d Termination (Some v) e other = services_of_told d Termination v e other

services_at_told : (d : Data) (phase : Phase) → asks_refund d ≡ false →
    TellsOf d (services_at phase d)
unfolding services_at
services_at_told d phase other = services_when_told d phase _ refl other

-- ---- events

only_of : (d : Data) (P : Data → Type 0) (ds : Items) (h : Data) → only_item ds ≡ Some h →
    AllItems d P ds → P h
only_of d P no_items h e all = absurd (cc)
only_of d P (item x no_items) h e all =
    subst P (ap (λ (o : Option Data). elim o as (λ _. Data) [ None ↦ x | Some y ↦ y ]) e) all.0
only_of d P (item x (item y ds)) h e all = absurd (cc)

event_of_told : (d : Data) (action : EventAction) (v : Data) →
    get (name_of avp.Services) d ≡ Some v → asks_refund d ≡ false → TellsOf d (event_of action v)
unfolding event_of array_of
event_of_told d action v stands other =
    let bad : IsRequestFaultTold d (Invalid avp.Services) = is_invalid d avp.Services d (alone d) v
    stands in
    then_told d (array_of avp.Services v) _
    (or_told d (Invalid avp.Services) (as_array v) bad) (λ ds e.
    then_told d (or_fault (Invalid avp.Services) (only_item ds)) _
    (or_told d (Invalid avp.Services) (only_item ds) bad) (λ h e2.
    let own : IsService d h =
    only_of d (IsService d) ds h (or_found (Invalid avp.Services) (only_item ds) h e2)
    (services_hold d v ds stands (or_found (Invalid avp.Services) (as_array v) ds e) other) in
    then_told d (or_fault (Invalid avp.Services) (as_object h)) _
    (or_told d (Invalid avp.Services) (as_object h) bad) (λ m e3.
    then_told d (number_at avp.RatingGroup 0 4294967295 h) _
    (number_told d avp.RatingGroup h own.group 0 4294967295) (λ g e4.
    then_told d (required_at h) _ (required_told d h own.requested) (λ r e5.
    then_told d (where_holds (is_none (get (name_of avp.UsedUnit) h)) (Invalid avp.UsedUnit) g) _
    (absent_told d avp.UsedUnit h own.used (get (name_of avp.UsedUnit) h) g refl) (λ u e6. tt))))))

event_told : (d : Data) (action : EventAction) → asks_refund d ≡ false →
    TellsOf d (event_at action d)
unfolding event_at
event_told d action other =
    then_told d (member_at avp.Services d) _ (member_told d avp.Services d (alone d)) (λ v e.
    then_told d (event_of action v) _
    (event_of_told d action v (stands_by d avp.Services d (alone d) v e) other) (λ x e2. tt))

-- ---- refunds

scaled_told : (d v : Data) (o : Option Data) → Holds (holders avp.Exponent d) v →
    get (name_of avp.Exponent) v ≡ o → TellsOf d (exponent_when o)
scaled_told d v None hold e = tt
scaled_told d v (Some x) hold e =
    let bad : IsRequestFaultTold d (Invalid avp.Exponent) = is_invalid d avp.Exponent v hold x e in
    then_told d (or_fault (Invalid avp.Exponent) (option_and_then as_i64 (as_number x))) _
    (or_told d (Invalid avp.Exponent) _ bad)
    (λ z e2. where_told d (int_le (negsuc 5) z && int_le z (pos 0)) (Invalid avp.Exponent) z bad)

amount_is_told : (d v : Data) → amount_told d ≡ Some v → TellsOf d (money_at v)
unfolding money_at exponent_at
amount_is_told d v is =
    let hold : Holds (values (amount_told d)) v = value_holds (amount_told d) v is in
    then_told d (number_at avp.ValueDigits 1 18446744073709551615 v) _
    (number_told d avp.ValueDigits v hold 1 18446744073709551615) (λ digits e.
    then_told d (exponent_at v) _ (scaled_told d v _ hold refl) (λ z e2.
    where_told d (nat_le (micros_told digits z) 1000000000000000) (Invalid avp.ValueDigits)
    (micros_told digits z) (number_bad d avp.ValueDigits v hold 1 18446744073709551615 digits e)))

refund_told : (d : Data) → asks_refund d ≡ true → TellsOf d (refund_at d)
unfolding refund_at
refund_told d refunds =
    then_told d (object_at avp.RequestedUnit d) _ (object_told d avp.RequestedUnit d
    (subst (λ b. Holds (if b then d ∷ [] else services_told d) d) (sym refunds) (alone d))) (λ q e.
    let q_is : get (name_of avp.RequestedUnit) d ≡ Some q = object_stands avp.RequestedUnit d q e in
    then_told d (object_at avp.Money q) _
    (object_told d avp.Money q (value_holds _ q q_is)) (λ m e2.
    let m_is : money_told d ≡ Some m = ap (option_and_then (get (name_of avp.Money))) q_is
    ∙ object_stands avp.Money q m e2 in
    then_told d (object_at avp.UnitValue m) _
    (object_told d avp.UnitValue m (value_holds (money_told d) m m_is)) (λ u e3.
    let u_is : amount_told d ≡ Some u = ap (option_and_then (get (name_of avp.UnitValue))) m_is
    ∙ object_stands avp.UnitValue m u e3 in
    then_told d (money_at u) _ (amount_is_told d u u_is) (λ micros e4.
    then_told d (number_at avp.CurrencyCode 0 999 m) _ (number_told d avp.CurrencyCode m
    (value_holds (money_told d) m m_is) 0 999) (λ currency e5. tt)))))

-- ---- the request

number_is : (a : Avp) (m n : ℕ) (d : Data) → SaysNumber a m d → is_number a n d ≡ nat_eq m n
number_is a m n d says = rw (says.stands, says.is) refl

no_event : (m : ℕ) (d : Data) → SaysNumber avp.RequestType m d → nat_eq m 4 ≡ false →
    asks_refund d ≡ false
no_event m d says other =
    ap (λ b. b && is_number avp.RequestedAction 1 d) (number_is avp.RequestType m 4 d says ∙ other)

event_asks : (n : ℕ) (d : Data) → SaysNumber avp.RequestType 4 d →
    SaysNumber avp.RequestedAction n d → asks_refund d ≡ nat_eq n 1
event_asks n d kind action =
    ap (λ b. b && is_number avp.RequestedAction 1 d) (number_is avp.RequestType 4 4 d kind)
    ∙ number_is avp.RequestedAction n 1 d action

action_told : (n : ℕ) (d : Data) → IsRequestFaultTold d (Invalid avp.RequestedAction) →
    asks_refund d ≡ nat_eq n 1 → TellsOf d (action_at n d)
unfolding action_at
action_told n d bad is =
    if_case d (n == 1) _ _ (λ t. then_told d (refund_at d) _ (refund_told d (is ∙ t)) (λ r e. tt))
    (λ f.
    then_told d (or_fault (Invalid avp.RequestedAction) (action_numbered n)) _
    (or_told d (Invalid avp.RequestedAction) (action_numbered n) bad) (λ action e.
    event_told d action (is ∙ f)))

ask_told : (d : Data) (k : RequestKind) → SaysNumber avp.RequestType (kind_number k) d →
    TellsOf d (ask_at k d)
unfolding ask_at
ask_told d kind.Initial says = then_told d (services_at Initial d) _
    (services_at_told d Initial (no_event 1 d says refl)) (λ ss e. tt)
ask_told d kind.Update says = then_told d (services_at Update d) _
    (services_at_told d Update (no_event 2 d says refl)) (λ ss e. tt)
ask_told d kind.Termination says = then_told d (services_at Termination d) _
    (services_at_told d Termination (no_event 3 d says refl)) (λ ss e. tt)
ask_told d kind.Event says =
    then_told d (number_at avp.RequestedAction 0 3 d) _
    (number_told d avp.RequestedAction d (alone d) 0 3) (λ n e.
    action_told n d (number_bad d avp.RequestedAction d (alone d) 0 3 n e)
    (event_asks n d says (number_said avp.RequestedAction 0 3 d n e)))

session_told : (d : Data) → TellsOf d (session_at d)
unfolding session_at
session_told d = then_told d (text_at avp.SessionId d) _ (text_told d avp.SessionId d (alone d))
    (λ s e. where_told d (is_session_id s) (Invalid avp.SessionId) s
    (text_bad d avp.SessionId d (alone d) s e))

kind_is_told : (d : Data) → TellsOf d (kind_at d)
unfolding kind_at
kind_is_told d = then_told d (number_at avp.RequestType 1 4 d) _
    (number_told d avp.RequestType d (alone d) 1 4) (λ n e.
    or_told d (Invalid avp.RequestType) (kind_numbered n)
    (number_bad d avp.RequestType d (alone d) 1 4 n e))

account_told : (d : Data) → TellsOf d (account_at d)
unfolding account_at
account_told d =
    then_told d (object_at avp.SubscriptionId d) _
    (object_told d avp.SubscriptionId d (alone d)) (λ s e.
    let hold : Holds (values (get (name_of avp.SubscriptionId) d)) s =
    value_holds _ s (object_stands avp.SubscriptionId d s e) in
    then_told d (number_at avp.SubscriptionIdType 0 0 s) _
    (number_told d avp.SubscriptionIdType s hold 0 0) (λ t e2.
    then_told d (text_at avp.SubscriptionIdData s) _
    (text_told d avp.SubscriptionIdData s hold) (λ n e3.
    where_told d (is_account_number n) (Invalid avp.SubscriptionIdData) n
    (text_bad d avp.SubscriptionIdData s hold n e3))))

-- rule: request-faults
pub faults_are_told : FaultsAreTold
unfolding request_in
faults_are_told d =
    then_told d (session_at d) _ (session_told d) (λ session e.
    then_told d (kind_at d) _ (kind_is_told d) (λ k e2.
    then_told d (number_at avp.RequestNumber 0 4294967295 d) _
    (number_told d avp.RequestNumber d (alone d) 0 4294967295) (λ number e3.
    then_told d (account_at d) _ (account_told d) (λ account e4.
    then_told d (ask_at k d) _ (ask_told d k (kind_at_said d k e2)) (λ a e5. tt)))))
