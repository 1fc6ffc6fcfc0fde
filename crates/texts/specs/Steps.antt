-- Steps of reading: the first fault ends them and is the one told.
use Rattle.std.specs.Prelude.{◌≡◌, List, [], ◌∷◌, ◌++◌, Bool, Option, Some, None, Result, Ok, Err}
use Rattle.std.specs.Prelude.{if◌then◌else◌}

-- the first step, and what follows it; a fault of the first step is that of both
infixl 10 ◌>>=◌
abbrev pub ◌>>=◌ : {F A B : Type 0} → Result A F → (A → Result B F) → Result B F
(Ok x) >>= next = next x
(Err fault) >>= next = Err fault

-- the value, or this fault where there is none
-- rule: first-fault: the first fault is the one reported
abbrev pub or_fault : {F A : Type 0} → F → Option A → Result A F
or_fault fault None = Err fault
or_fault fault (Some x) = Ok x

-- the value where the test holds, and else this fault
abbrev pub where_holds : {F A : Type 0} → Bool → F → A → Result A F
where_holds test fault x = if test then Ok x else Err fault

-- the entries one after the other, each with what those before it left; the first fault ends it
-- rule: first-fault
unfoldable pub each : {F A D : Type 0} → (A → D → Result A F) → A → List D → Result A F
each step so_far [] = Ok so_far
each step so_far (d ∷ ds) = step so_far d >>= λ more. each step more ds

-- the list of what the entries say, each read beside those before it
abbrev pub collected : {F A D : Type 0}
    → (List A → D → Result A F) → List A → List D → Result (List A) F
collected read before ds = each (λ so_far d. read so_far d >>= λ x. Ok (so_far ++ x ∷ [])) before ds

-- what a call returned, seen by `view`, is what reading says
-- rule: first-fault
abbrev pub Says : {F X Y : Type 0} → (X → Y) → Result X F → Result Y F → Type 0
Says view (Ok x) reading = reading ≡ Ok (view x)
Says view (Err fault) reading = reading ≡ Err fault

-- the same, but this fault, lack of memory, may come in place of what reading says
-- rule: first-fault
abbrev pub GivesUnless : {F X Y : Type 0} → F → (X → Y) → Result X F → Result Y F → Type 0
GivesUnless memory view (Ok x) reading = reading ≡ Ok (view x)
GivesUnless memory view (Err fault) reading = ¬ (fault ≡ memory) → reading ≡ Err fault
