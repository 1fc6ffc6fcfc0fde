-- Reading the entries of an array one after the other, as a loop does.
use Rattle.std.proofs.Common.{◌≡◌, ℕ, ◌+◌, ◌≤◌, ◌<◌, List, [], ◌∷◌, ◌++◌, length, get_or, drop, map}
use Rattle.std.proofs.Common.{Result, Ok, Err, refl, ap, suc}
use Rattle.toml.specs.Data.{Data}
use Rattle.toml.specs.declared.value.Value.{Value}
use Rattle.toml.specs.View.{view, items_view}
use Rattle.texts.proofs.Loop as loop
use Rattle.tariffs.specs.declared.fault.BookFault.{BookFault}
use Rattle.tariffs.specs.declared.fault.BookFault.TheVariants.{Memory}
use Rattle.tariffs.specs.Fields.{each, item_count, item_list, collected}

pub item_count_view : (vs : List Value) → item_count (items_view vs) ≡ length vs
item_count_view [] = refl
item_count_view (v ∷ vs) = ap suc (item_count_view vs)

item_list_view : (vs : List Value) → item_list (items_view vs) ≡ map view vs
item_list_view [] = refl
item_list_view (v ∷ vs) = ap (λ ds. view v ∷ ds) (item_list_view vs)

-- an entry that is read
-- rule: book-text.book-of
pub each_goes_on : {A : Type 0} (step : A → Data → Result A BookFault) (a b : A) (vs : List Value)
    (i : ℕ) (v : Value) (total : Result A BookFault) → i < length vs → v ≡ get_or vs i v
    → step a (view v) ≡ Ok b → each step a (items_view (drop i vs)) ≡ total
    → each step b (items_view (drop (i + 1) vs)) ≡ total
each_goes_on step a b vs i v total lt is read so_far =
    rw (item_list_view (drop (i + 1) vs)) (loop.each_goes_on view step a b vs i v total lt is read
    (rw (← item_list_view (drop i vs)) so_far))

-- an entry with a fault
pub each_ends : {A : Type 0} (fault : BookFault) (step : A → Data → Result A BookFault)
    (a : A) (vs : List Value) (i : ℕ) (v : Value) (total : Result A BookFault) → i < length vs
    → v ≡ get_or vs i v → (¬ (fault ≡ Memory) → step a (view v) ≡ Err fault)
    → each step a (items_view (drop i vs)) ≡ total → ¬ (fault ≡ Memory) → total ≡ Err fault
each_ends fault step a vs i v total lt is read so_far other =
    loop.each_ends view step fault a vs i v total lt is (read other)
    (rw (← item_list_view (drop i vs)) so_far)

-- no entry is left
pub each_done : {A : Type 0} (step : A → Data → Result A BookFault)
    (a : A) (vs : List Value) (i : ℕ) (total : Result A BookFault) → length vs ≤ i →
    each step a (items_view (drop i vs)) ≡ total → total ≡ Ok a
each_done step a vs i total le so_far =
    loop.each_done view step a vs i total le (rw (← item_list_view (drop i vs)) so_far)

-- the same for a list of what the entries say
-- rule: book-text.book-of
pub collected_goes_on : {A : Type 0} (read : List A → Data → Result A BookFault)
    (xs : List A) (x : A) (vs : List Value) (i : ℕ) (v : Value) (total : Result (List A) BookFault)
    → i < length vs → v ≡ get_or vs i v → read xs (view v) ≡ Ok x
    → collected read xs (items_view (drop i vs)) ≡ total
    → collected read (xs ++ x ∷ []) (items_view (drop (i + 1) vs)) ≡ total
collected_goes_on read xs x vs i v total lt is here so_far =
    rw (item_list_view (drop (i + 1) vs)) (loop.collected_goes_on view read xs x vs i v total lt is
    here (rw (← item_list_view (drop i vs)) so_far))

pub collected_ends : {A : Type 0} (fault : BookFault) (read : List A → Data → Result A BookFault)
    (xs : List A) (vs : List Value) (i : ℕ) (v : Value) (total : Result (List A) BookFault)
    → i < length vs → v ≡ get_or vs i v → (¬ (fault ≡ Memory) → read xs (view v) ≡ Err fault)
    → collected read xs (items_view (drop i vs)) ≡ total → ¬ (fault ≡ Memory) → total ≡ Err fault
collected_ends fault read xs vs i v total lt is here so_far other =
    loop.collected_ends view read fault xs vs i v total lt is (here other)
    (rw (← item_list_view (drop i vs)) so_far)

pub collected_done : {A : Type 0} (read : List A → Data → Result A BookFault)
    (xs : List A) (vs : List Value) (i : ℕ) (total : Result (List A) BookFault) → length vs ≤ i →
    collected read xs (items_view (drop i vs)) ≡ total → total ≡ Ok xs
collected_done read xs vs i total le so_far =
    loop.collected_done view read xs vs i total le (rw (← item_list_view (drop i vs)) so_far)
