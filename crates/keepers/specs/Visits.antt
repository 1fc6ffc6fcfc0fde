-- What a visitor becomes that is shown the rows of an account's charges.
-- Source: profile.
use Rattle.std.specs.Prelude.{◌≡◌, ℕ, Bool, true, false, List, [], ◌∷◌, Option, take}
use Rattle.std.specs.List.{filter}
use Rattle.units.specs.Words.{Moment}
use Rattle.ledger.specs.Words.{ChargeNumber}
use Rattle.ledger.specs.ChargeColumns.{ChargeColumns}
use Rattle.keepers.specs.Rows.{is_between, AreCharges}

-- a visitor that goes on is shown the rest; one that stops is shown nothing more
abbrev pub GoesOn : Bool → Type 0 → Type 0 → Type 0
GoesOn true Rest Same = Rest
GoesOn false Rest Same = Same

-- what a visitor becomes that is shown the rows, one after another, until it stops
-- rule: charge-source.visits: charges are shown one at a time
abbrev pub Visits : {V : Type 0} → (V → ChargeColumns → Bool → V → Type 0) →
    List ChargeColumns → V → V → Type 0
Visits Sees [] old new = new ≡ old
Visits {V} Sees (c ∷ rest) old new =
    (next : V) × (goes : Bool) × Sees old c goes next
    × GoesOn goes (Visits Sees rest next new) (new ≡ next)

-- the same, with whether it was shown all of them
abbrev pub Shows : {V : Type 0} → (V → ChargeColumns → Bool → V → Type 0) →
    List ChargeColumns → Bool → V → V → Type 0
Shows Sees [] all old new = (all ≡ true) × (new ≡ old)
Shows {V} Sees (c ∷ rest) all old new =
    (next : V) × (goes : Bool) × Sees old c goes next
    × GoesOn goes (Shows Sees rest all next new) ((all ≡ false) × (new ≡ next))

-- it is shown the charges of the range
-- rule: charge-source.visits
abbrev pub SeesCharges : {V : Type 0} → (V → ChargeColumns → Bool → V → Type 0) → Moment → Moment →
    (ChargeNumber → Option ChargeColumns) → V → V → Type 0
SeesCharges Sees from until charges old new =
    (rows : List ChargeColumns) → AreCharges charges rows →
    Visits Sees (filter (is_between from until) rows) old new

-- it is shown the first of them, and no other
-- rule: charge-source.visits
abbrev pub SeesBeginning : {V : Type 0} → (V → ChargeColumns → Bool → V → Type 0) → Moment →
    Moment → (ChargeNumber → Option ChargeColumns) → V → V → Type 0
SeesBeginning Sees from until charges old new =
    (rows : List ChargeColumns) → AreCharges charges rows →
    (count : ℕ) × Visits Sees (take count (filter (is_between from until) rows)) old new

-- it is shown some rows of the range, whichever those are
-- rule: charge-source.visits
pub record IsShown {V : Type 0} (Sees : V → ChargeColumns → Bool → V → Type 0)
    (from until : Moment) (old new : V) : Type 0 where
  pub rows : List ChargeColumns
  pub visits : Visits Sees (filter (is_between from until) rows) old new
