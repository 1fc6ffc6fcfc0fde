-- The holds of a reservation as they are kept: one alone, or a list.
-- Source: profile.
use Rattle.std.specs.Prelude.{List, [], ◌∷◌}
use Rattle.buckets.specs.declared.holds.HeldAmount.{HeldAmount}
use Rattle.buckets.specs.declared.holds.HoldList.{HoldList}
use Rattle.buckets.specs.declared.holds.HoldList.TheVariants.{One, Many}

abbrev pub listed : HoldList → List HeldAmount
listed (One hold) = hold ∷ []
listed (Many holds) = holds.items
