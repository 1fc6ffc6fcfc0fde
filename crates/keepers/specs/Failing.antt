-- The count of a keeper that fails once more than the one inside.
use Rattle.std.specs.Prelude.{ℕ, ◌+◌, ◌≤◌, Bool, true, false, min}
use Rattle.std.proofs.Math.Nat.{min-le_right}
use Rattle.keepers.specs.Faults.{max_failures}

abbrev pub failure_total : ℕ → Bool → ℕ
failure_total n true = min (n + 1) max_failures
failure_total n false = n

pub total-bounded : (n : ℕ) (b : Bool) → n ≤ max_failures → failure_total n b ≤ max_failures
total-bounded n true h = min-le_right (n + 1) max_failures
total-bounded n false h = h
