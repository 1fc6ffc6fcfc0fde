-- The test of two names answers true exactly where they are equal.
use Rattle.std.proofs.Common.{◌≡◌, ℕ, List, true, nat_eq}
use Rattle.std.specs.Cmp.Lexicographic.{pointwise, bytes_decides}

-- where the test of two names answers true, they are equal
pub equal_names : (a b : List ℕ) → pointwise nat_eq a b ≡ true → a ≡ b
equal_names a b = (bytes_decides a b).0

-- of equal names the test answers true
pub names_equal : (a b : List ℕ) → a ≡ b → pointwise nat_eq a b ≡ true
names_equal a b = (bytes_decides a b).1
