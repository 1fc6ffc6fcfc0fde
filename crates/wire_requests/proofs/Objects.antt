-- The items of an array, seen as values.
use Rattle.std.proofs.Common.{◌≡◌, List, [], ◌∷◌, is_some, ◌&&◌, length, Bool, true, false, None}
use Rattle.std.proofs.Common.{Result, Ok, Err, nat_le, refl, sym, ap, ap₂, ◌∙◌}
use Rattle.std.specs.List.{list_all}
use Rattle.json.specs.declared.value.Value.{Value}
use Rattle.serde_json.specs.Data.{Data, Items}
use Rattle.serde_json.specs.Events.{items_len}
use Rattle.serde_json.specs.Find.{as_object}
use Rattle.commands.specs.declared.avp.Avp.TheVariants as avp
use Rattle.commands.specs.declared.service.Service.{Service}
use Rattle.json_fields.specs.declared.fault.WireFault.{WireFault}
use Rattle.json_fields.specs.declared.fault.WireFault.TheVariants.{Invalid}
use Rattle.json_fields.specs.Gives.{◌>>=◌, where_holds}
use Rattle.json_fields.specs.Fields.{array_of}
use Rattle.json_fields.specs.View.{view, items_view}
use Rattle.json_fields.proofs.Counts.{items_len-items_view}
use Rattle.wire_requests.specs.declared.phase.Phase.{Phase}
use Rattle.wire_requests.specs.Phases.{are_objects, fewest, services_from, services_of}
use Rattle.wire_requests.specs.Reading.{only_item}

pub objects_are : {A : Type 0} (vs : List (Value A)) →
    are_objects (items_view vs) ≡ list_all (λ v. is_some (as_object (view v))) vs
objects_are [] = refl
objects_are (v ∷ vs) = ap (λ b. is_some (as_object (view v)) && b) (objects_are vs)

-- what is read of an array with these items, where their number fits and all of them are objects
abbrev chosen : Phase → Items → Bool → Bool → Result (List Service) WireFault
chosen phase ds few all = do
  fits ← where_holds few (Invalid avp.Services) ds
  objects ← where_holds all (Invalid avp.Services) ds
  services_from phase ds

pub services_said : {M : Type 0} (phase : Phase) (d : Data) (vs : List (Value M)) (few all : Bool) →
    array_of avp.Services d ≡ Ok (items_view vs)
    → few ≡ (nat_le (fewest phase) (length vs) && nat_le (length vs) 16)
    → all ≡ list_all (λ v. is_some (as_object (view v))) vs
    → services_of phase d ≡ chosen phase (items_view vs) few all
unfolding services_of
services_said phase d vs few all is is_few is_all =
    let count : (nat_le (fewest phase) (items_len (items_view vs))
    && nat_le (items_len (items_view vs)) 16) ≡ few =
    ap (λ n. nat_le (fewest phase) n && nat_le n 16) (items_len-items_view vs) ∙ sym is_few in
    let objects : are_objects (items_view vs) ≡ all = objects_are vs ∙ sym is_all in
    rw is (ap₂ (chosen phase (items_view vs)) count objects)

-- of another number of items none is the only one
pub not_one : {A : Type 0} (vs : List (Value A)) → (length vs ≡ 1 → ⊥) →
    only_item (items_view vs) ≡ None
not_one [] h = refl
not_one (v ∷ []) h = absurd (h refl)
not_one (v ∷ w ∷ vs) h = refl
