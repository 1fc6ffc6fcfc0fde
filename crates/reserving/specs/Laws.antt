-- Two advances of an account are one.
-- Source: profile.
use Rattle.std.specs.Prelude.{◌≡◌, ◌≤◌}
use Rattle.units.specs.Words.{Moment}
use Rattle.reserving.specs.Rows.{AccountRows}
use Rattle.reserving.specs.Changes.{advanced}

-- an account, whatever its rows: brought to a moment and then to a later one it is as
-- `advance` to the later one alone makes it
-- rule: going-on.advanced-alike: two advances of an account are one
-- rule: sweep-unseen
abbrev pub IsAdvancedAlike : Type 0
IsAdvancedAlike = (a : AccountRows) (t u : Moment) → t ≤ u →
    advanced u (advanced t a) ≡ advanced u a
