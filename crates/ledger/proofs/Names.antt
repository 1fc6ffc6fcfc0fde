-- Names of sessions, and numbers, that are the same.
use Rattle.std.proofs.Common.{◌≡◌, ℕ, true, List, refl, sym, arith}
use Rattle.std.specs.Prelude.{◌==◌}
use Rattle.std.proofs.lemmas.Bool.Decides.{nat_tests}
use Rattle.std.specs.Cmp.{both_ways as same_tests}
use Rattle.identifiers.proofs.Equality.{equal_names, names_equal}
use Rattle.ledger.specs.Ledger.{is_same}

pub number_same : (a : ℕ) → (a == a) ≡ true
number_same a = grind (arith, nat_tests)

pub is_same-refl : (s : List ℕ) → is_same s s ≡ true
is_same-refl s = names_equal s s refl

pub is_same-sym : (a b : List ℕ) → is_same a b ≡ is_same b a
is_same-sym a b =
    same_tests (is_same a b) (is_same b a) (λ h. names_equal b a (sym (equal_names a b h)))
    (λ h. names_equal a b (sym (equal_names b a h)))
