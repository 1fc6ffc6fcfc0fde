-- A function that reads gives what reading means; one that takes memory may run out of it.
use Rattle.std.specs.Prelude.{◌≡◌, List, [], ◌∷◌, Result, Err}
use Rattle.std.specs.Borrow.{Bor}
use Rattle.serde_json.specs.Data.{Data, Items, no_items, item}
use Rattle.json.specs.declared.value.Value.{Value}
use Rattle.texts.specs.Steps as steps
use Rattle.texts.specs.Steps.{GivesUnless}
pub use Rattle.texts.specs.Steps.{◌>>=◌, or_fault, where_holds, Says}
use Rattle.json_fields.specs.declared.fault.WireFault.{WireFault}
use Rattle.json_fields.specs.declared.fault.WireFault.TheVariants.{Memory}
use Rattle.json_fields.specs.View.{view}

-- what a fault says of reading, where it isn't lack of memory
abbrev pub Fails : {Y : Type 0} → WireFault → Result Y WireFault → Type 0
Fails fault reading = ¬ (fault ≡ Memory) → reading ≡ Err fault

-- what a call returned, seen by `view`, is what reading gives; lack of memory may come in place of
-- it
abbrev pub Gives : {X Y : Type 0} → (X → Y) → Result X WireFault → Result Y WireFault → Type 0
Gives view returned reading = GivesUnless Memory view returned reading

-- the items of an array as a list
abbrev pub item_list : Items → List Data
item_list no_items = []
item_list (item d ds) = d ∷ item_list ds

-- The items one after another. What is read of one may depend on those before it.
abbrev pub read_each : {A : Type 0}
    → (List A → Data → Result A WireFault) → List A → Items → Result (List A) WireFault
read_each read done ds = steps.collected read done (item_list ds)

-- what a function returns for the items that were read and a value is what `says` gives
abbrev pub IsReadBy : {A M : Type 0}
    → (Bor (List A) → Bor (Value M) → Result A WireFault → Type 0)
    → (List A → Data → Result A WireFault) → Type 0
IsReadBy {A} {M} returns says = (done : Bor (List A)) (value : Bor (Value M)) (r : Result A WireFault)
    → returns done value r → Gives (λ (x : A). x) r (says done.now (view value.now))
