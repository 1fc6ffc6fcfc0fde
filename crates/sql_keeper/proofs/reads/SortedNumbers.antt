-- Whether a number is among others that are sorted.
use Rattle.std.proofs.Common.{◌≡◌, ◌<◌, ◌≤◌, ℕ, Bool, true, false, List, length, refl, sym, ap}
use Rattle.std.proofs.Common.{Result, Ok, Err, ◌∙◌, arith, get_or, nat_lt}
use Rattle.std.specs.Prelude.{nat_eq, is_ok}
use Rattle.std.specs.List.{list_any}
use Rattle.std.specs.List.Sorted.{IsBinarySearchResult, IsNonDecreasing, IsPermutation}
use Rattle.std.specs.Ordering.{nat_cmp}
use Rattle.std.proofs.lemmas.Bool.Decides.{nat_tests}
use Rattle.std.proofs.lemmas.List.Folds.{list_any_at, list_any_none}
use Rattle.std.proofs.lemmas.List.Sorted.{searched, list_any-IsPermutation}
use Rattle.std.proofs.lemmas.Grind.{get_or_default_zero}

same_number : (n x : ℕ) → n ≡ x → nat_eq n x ≡ true
same_number n x is = grind (arith, nat_tests, is)

less_number : (n x : ℕ) → n < x → nat_eq n x ≡ false
less_number n x less = grind (arith, nat_tests, less)

more_number : (n x : ℕ) → x < n → nat_eq n x ≡ false
more_number n x more = grind (arith, nat_tests, more)

other_number : (xs : List ℕ) (x i : ℕ) → ((k : ℕ) → k < i → get_or xs k 0 < x)
    → ((k : ℕ) → i ≤ k → k < length xs → x < get_or xs k 0)
    → (k d : ℕ) → k < length xs → nat_eq (get_or xs k d) x ≡ false
other_number xs x i before behind k d less =
    ap (λ n. nat_eq n x) (get_or_default_zero xs k d less) ∙ at (nat_lt k i) refl
  where
    at : (t : Bool) → nat_lt k i ≡ t → nat_eq (get_or xs k 0) x ≡ false
    at true is = less_number (get_or xs k 0) x (before k (grind (arith, nat_tests, is)))
    at false is = more_number (get_or xs k 0) x (behind k (grind (arith, nat_tests, is)) less)

pub among : (xs : List ℕ) (x : ℕ) (r : Result ℕ ℕ) → IsBinarySearchResult (λ y. nat_cmp y x) xs r
    → IsNonDecreasing xs → is_ok r ≡ list_any (λ n. nat_eq n x) xs
among xs x (Ok i) is rise =
    let found = searched xs x (Ok i) is (λ k m. rise k m 0) in
    sym (list_any_at (λ n. nat_eq n x) xs i 0 found.0 (same_number (get_or xs i 0) x found.1))
among xs x (Err i) is rise =
    let apart = searched xs x (Err i) is (λ k m. rise k m 0) in
    sym (list_any_none (λ n. nat_eq n x) xs (other_number xs x i apart.1 apart.2))

-- so it is among the numbers that were sorted
pub among_sorted : (numbers sorted : List ℕ) (x : ℕ) (t : Bool) → IsPermutation numbers sorted
    → t ≡ list_any (λ n. nat_eq n x) sorted → t ≡ list_any (λ n. nat_eq n x) numbers
among_sorted numbers sorted x t same is =
    is ∙ sym (list_any-IsPermutation (λ n. nat_eq n x) numbers sorted same)
