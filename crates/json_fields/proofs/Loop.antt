-- Reading items one after the other, as a loop does.
use Rattle.std.proofs.Common.{◌≡◌, ℕ, ◌+◌, ◌≤◌, ◌<◌, List, [], ◌∷◌, ◌++◌, length, drop, get_or, map}
use Rattle.std.proofs.Common.{Result, Ok, refl, ap, suc}
use Rattle.json.specs.declared.value.Value.{Value}
use Rattle.serde_json.specs.Data.{Data, Items, no_items, item}
use Rattle.serde_json.specs.Events.{items_len}
use Rattle.texts.proofs.Loop as loop
use Rattle.json_fields.specs.declared.fault.WireFault.{WireFault}
use Rattle.json_fields.specs.Gives.{Fails, read_each, item_list}
use Rattle.json_fields.specs.View.{view, items_view}

item_list_view : {M : Type 0} (vs : List (Value M)) → item_list (items_view vs) ≡ map view vs
item_list_view [] = refl
item_list_view (v ∷ vs) = ap (λ ds. view v ∷ ds) (item_list_view vs)

pub item_list_length : (ds : Items) → length (item_list ds) ≡ items_len ds
item_list_length no_items = refl
item_list_length (item d ds) = ap suc (item_list_length ds)

module _ {A M : Type 0} (read : List A → Data → Result A WireFault) where
  -- an item that is read
  pub goes_on : (done : List A) (vs : List (Value M)) (i : ℕ) (v : Value M) (x : A)
      (total : Result (List A) WireFault) → i < length vs → v ≡ get_or vs i v
      → read done (view v) ≡ Ok x → read_each read done (items_view (drop i vs)) ≡ total
      → read_each read (done ++ x ∷ []) (items_view (drop (i + 1) vs)) ≡ total
  goes_on done vs i v x total lt is h so_far =
      rw (item_list_view (drop (i + 1) vs)) (loop.collected_goes_on view read done x vs i v total lt
      is h (rw (← item_list_view (drop i vs)) so_far))

  -- a fault of one is that of the whole
  pub fails_at : (e : WireFault) (done : List A) (vs : List (Value M)) (i : ℕ) (v : Value M)
      (total : Result (List A) WireFault) → i < length vs → v ≡ get_or vs i v
      → Fails e (read done (view v)) → read_each read done (items_view (drop i vs)) ≡ total
      → Fails e total
  fails_at e done vs i v total lt is h so_far =
      λ other. loop.collected_ends view read e done vs i v total lt is (h other)
      (rw (← item_list_view (drop i vs)) so_far)

  -- no item is left
  pub is_done : (done : List A) (vs : List (Value M)) (i : ℕ) (total : Result (List A) WireFault) →
      length vs ≤ i → read_each read done (items_view (drop i vs)) ≡ total → total ≡ Ok done
  is_done done vs i total le so_far =
      loop.collected_done view read done vs i total le (rw (← item_list_view (drop i vs)) so_far)
