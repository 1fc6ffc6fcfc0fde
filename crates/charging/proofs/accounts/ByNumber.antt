-- Buckets by number: a list is known by what it has under each number.
use Rattle.std.proofs.Common.{◌≡◌, ℕ, suc, ◌+◌, ◌≤◌, ◌<◌, Bool, true, false, cond, List, [], ◌∷◌}
use Rattle.std.proofs.Common.{◌++◌, refl, sym, ap, subst, ◌∙◌, arith, lit≤, Option, Some, None}
use Rattle.std.specs.Prelude.{if◌then◌else◌, ◌==◌, nat_lt, sum_by}
use Rattle.std.specs.List.{AllByRecursion}
use Rattle.std.specs.Option.{option_or}
use Rattle.std.specs.List.Sorted.{IsNonDecreasingBy, IsPermutation}
use Rattle.std.proofs.lemmas.Bool.Decides.{nat_tests}
use Rattle.std.proofs.lemmas.List.Sums.{sum_by-cons}
use Rattle.std.proofs.lemmas.List.Sorted.{IsPermutation-sym, All-permutation, sum_by-IsPermutation}
use Rattle.std.proofs.lemmas.List.Sorted.{IsNonDecreasingBy-drop}
use Rattle.std.proofs.lemmas.List.Elements.{All-from_recursion, recursion_from_All}
use Rattle.std.proofs.lemmas.List.Folds.{find-append}
use Rattle.buckets.specs.Row.{BucketRow}
use Rattle.buckets.specs.Spend.{AreDistinct, DiffersFromAll}
use Rattle.ledger.specs.Lists.{EachIn}
use Rattle.reserving.specs.Rows.{AreApart}
use Rattle.reserving.specs.Left.{bucket_in, merged, first_of}
use Rattle.reserving.proofs.Lists.{no_some, some_of, not_both}
use Rattle.ledger.proofs.Names.{number_same}
use Rattle.reserving.proofs.Keys.{same_number}
use Rattle.reserving.proofs.LeftMore.{one_by_number}
use Rattle.keepers.specs.Keyed.{same_bucket}
use Rattle.keepers.proofs.Found.{bucket_merged, distinct_merged, distinct_placed, distinct_apart}
use Rattle.charging.specs.Balances.{numbered, by_number, AreByNumber}

-- each number is below all that follow
abbrev pub IsAscending : List BucketRow → Type 0
IsAscending [] = Unit {0}
IsAscending (x ∷ xs) = AllByRecursion (λ (y : BucketRow). x.number < y.number) xs × IsAscending xs

shuffled_all : (P : BucketRow → Type 0) (xs ys : List BucketRow) → IsPermutation xs ys →
    AllByRecursion P xs → AllByRecursion P ys
shuffled_all P xs ys s h =
    recursion_from_All P ys (All-permutation P xs ys s (All-from_recursion P xs h))

-- ---- what isn't found

absent : (n : ℕ) (xs : List BucketRow) → AllByRecursion (λ (y : BucketRow). (y.number == n) ≡ false)
    xs →
    bucket_in n xs ≡ None
absent n [] h = refl
absent n (x ∷ xs) h = rw h.0 (absent n xs h.1)

not_found : (n : ℕ) (xs : List BucketRow) → bucket_in n xs ≡ None →
    AllByRecursion (λ (y : BucketRow). (y.number == n) ≡ false) xs
not_found n [] e = tt
not_found n (x ∷ xs) e = at (x.number == n) refl e (not_found n xs)
  where
    at : (t : Bool) → (x.number == n) ≡ t → cond t (Some x) (bucket_in n xs) ≡ None →
        (bucket_in n xs ≡ None → AllByRecursion (λ (y : BucketRow). (y.number == n) ≡ false) xs) →
        AllByRecursion (λ (y : BucketRow). (y.number == n) ≡ false) (x ∷ xs)
    at true k e rest = absurd (no_some x (sym e))
    at false k e rest = (k, rest e)

greater : (n : ℕ) (y : BucketRow) → n < y.number → (y.number == n) ≡ false
greater n y lt = at (y.number == n) refl
  where
    at : (t : Bool) → (y.number == n) ≡ t → t ≡ false
    at true e = absurd (let same : y.number ≡ n = same_number y.number n e in omega (arith, lt))
    at false e = refl

all_greater : (n : ℕ) (ys : List BucketRow) → AllByRecursion (λ (y : BucketRow). n < y.number) ys →
    AllByRecursion (λ (y : BucketRow). (y.number == n) ≡ false) ys
all_greater n [] h = tt
all_greater n (y ∷ ys) h = (greater n y h.0, all_greater n ys h.1)

-- what is found is one of them
found_one : (P : BucketRow → Type 0) (n : ℕ) (xs : List BucketRow) (y : BucketRow) →
    AllByRecursion P xs →
    bucket_in n xs ≡ Some y → P y × (y.number ≡ n)
found_one P n [] y h e = absurd (no_some y e)
found_one P n (x ∷ xs) y h e = at (x.number == n) refl e (found_one P n xs y h.1)
  where
    at : (t : Bool) → (x.number == n) ≡ t → cond t (Some x) (bucket_in n xs) ≡ Some y →
        (bucket_in n xs ≡ Some y → P y × (y.number ≡ n)) → P y × (y.number ≡ n)
    at true k e rest =
        let is : x ≡ y = some_of x y e in
        (subst P is h.0, subst (λ (z : BucketRow). z.number ≡ n) is (same_number x.number n k))
    at false k e rest = rest e

-- ---- two lists that ascend and say the same are one

pub one_list : (xs ys : List BucketRow) → IsAscending xs → IsAscending ys →
    ((n : ℕ) → bucket_in n xs ≡ bucket_in n ys) → xs ≡ ys
one_list = one_by_number IsAscending (λ x zs is. is.1)
    (λ x zs is. absent x.number zs (all_greater x.number zs is.0))
    (λ x y us vs ax ay e k.
    let one = found_one (λ (z : BucketRow). y.number < z.number) x.number vs x ay.0 k in
    let two = found_one (λ (z : BucketRow). x.number < z.number) y.number us y ax.0 e in
    let a : y.number < x.number = one.0 in
    let b : x.number < y.number = two.0 in
    omega (arith, a, b))

-- ---- by number

all_numbered : (P : BucketRow → Type 0) (b : BucketRow) (xs : List BucketRow) → P b →
    AllByRecursion P xs →
    AllByRecursion P (numbered b xs)
all_numbered P b [] p h = (p, tt)
all_numbered P b (x ∷ xs) p h = elim (nat_lt b.number x.number) as
    (λ t. AllByRecursion P (if t then b ∷ x ∷ xs else x ∷ numbered b xs))
    [ true ↦ (p, h) | false ↦ (h.0, all_numbered P b xs p h.1) ]

all_below : (m n : ℕ) (ys : List BucketRow) → m < n → AllByRecursion
    (λ (y : BucketRow). n < y.number) ys →
    AllByRecursion (λ (y : BucketRow). m < y.number) ys
all_below m n [] lt h = tt
all_below m n (y ∷ ys) lt h = (omega (arith, lt, h.0), all_below m n ys lt h.1)

numbered_ascends : (b : BucketRow) (xs : List BucketRow) → bucket_in b.number xs ≡ None →
    IsAscending xs →
    IsAscending (numbered b xs)
numbered_ascends b [] e h = (tt, tt)
numbered_ascends b (x ∷ xs) e h =
    at (nat_lt b.number x.number) refl (not_found b.number (x ∷ xs) e)
    (numbered_ascends b xs (absent b.number xs (not_found b.number (x ∷ xs) e).1) h.1)
  where
    at : (t : Bool) → nat_lt b.number x.number ≡ t →
        AllByRecursion (λ (y : BucketRow). (y.number == b.number) ≡ false) (x ∷ xs) →
        IsAscending (numbered b xs) →
        IsAscending (if t then b ∷ x ∷ xs else x ∷ numbered b xs)
    at true k others rest =
        let lt : b.number < x.number = grind (arith, nat_tests) in
        ((lt, all_below b.number x.number xs lt h.0), h)
    at false k others rest =
        let differs : (x.number == b.number) ≡ false = others.0 in
        let lt : x.number < b.number = grind (arith, nat_tests) in
        (all_numbered (λ (y : BucketRow). x.number < y.number) b xs lt h.0, rest)

find_numbered : (n : ℕ) (b : BucketRow) (xs : List BucketRow) → bucket_in b.number xs ≡ None →
    bucket_in n (numbered b xs) ≡ cond (b.number == n) (Some b) (bucket_in n xs)
find_numbered n b [] e = refl
find_numbered n b (x ∷ xs) e =
    let others = not_found b.number (x ∷ xs) e in
    at (nat_lt b.number x.number) (b.number == n) (x.number == n) refl refl others.0
    (find_numbered n b xs (absent b.number xs others.1))
  where
    at : (l u v : Bool) → (b.number == n) ≡ u → (x.number == n) ≡ v →
        (x.number == b.number) ≡ false →
        bucket_in n (numbered b xs) ≡ cond (b.number == n) (Some b) (bucket_in n xs) →
        bucket_in n (if l then b ∷ x ∷ xs else x ∷ numbered b xs)
        ≡ cond u (Some b) (cond v (Some x) (bucket_in n xs))
    at true u v p q other rest = rw (p, q) refl
    at false true true p q other rest =
        absurd (not_both (sym other ∙ (λ i. x.number == same_number b.number n p i) ∙ q))
    at false true false p q other rest =
        rw q (rest ∙ ap (λ t. cond t (Some b) (bucket_in n xs)) p)
    at false false true p q other rest = rw q refl
    at false false false p q other rest =
        rw q (rest ∙ ap (λ t. cond t (Some b) (bucket_in n xs)) p)

each_apart : (b : BucketRow) (xs : List BucketRow) → EachIn (λ y. same_bucket b y ≡ false) xs →
    bucket_in b.number xs ≡ None
each_apart b [] h = refl
each_apart b (x ∷ xs) h = rw h.0 (each_apart b xs h.1)

pub find_by_number : (n : ℕ) (xs : List BucketRow) → AreApart same_bucket xs →
    bucket_in n (by_number xs) ≡ bucket_in n xs
find_by_number n [] h = refl
find_by_number n (x ∷ xs) h =
    find_numbered n x (by_number xs) (find_by_number x.number xs h.1 ∙ each_apart x xs h.0)
    ∙ ap (λ o. cond (x.number == n) (Some x) o) (find_by_number n xs h.1)

pub by_number_ascends : (xs : List BucketRow) → AreApart same_bucket xs → IsAscending (by_number xs)
by_number_ascends [] h = tt
by_number_ascends (x ∷ xs) h =
    numbered_ascends x (by_number xs) (find_by_number x.number xs h.1 ∙ each_apart x xs h.0)
    (by_number_ascends xs h.1)

-- ---- a sorted list

-- how many have this number
abbrev count : ℕ → List BucketRow → ℕ
count n xs = sum_by (λ (b : BucketRow). if b.number == n then 1 else 0) xs

count-cons : (n : ℕ) (x : BucketRow) (xs : List BucketRow) →
    count n (x ∷ xs) ≡ (if x.number == n then 1 else 0) + count n xs
count-cons n x xs = sum_by-cons (λ (b : BucketRow). if b.number == n then 1 else 0) x xs

count_same : (n : ℕ) (x : BucketRow) (xs : List BucketRow) → (x.number == n) ≡ true →
    count n (x ∷ xs) ≡ 1 + count n xs
count_same n x xs e = count-cons n x xs ∙ rw e refl

count_other : (n : ℕ) (x : BucketRow) (xs : List BucketRow) → (x.number == n) ≡ false →
    count n (x ∷ xs) ≡ count n xs
count_other n x xs e =
    let is : count n (x ∷ xs) ≡ 0 + count n xs = count-cons n x xs ∙ rw e refl in omega (arith, is)

count_none : (n : ℕ) (xs : List BucketRow) → bucket_in n xs ≡ None → count n xs ≡ 0
count_none n xs e = at xs (not_found n xs e)
  where
    at : (ys : List BucketRow) → AllByRecursion (λ (y : BucketRow). (y.number == n) ≡ false) ys →
        count n ys ≡ 0
    at [] h = refl
    at (y ∷ ys) h = count_other n y ys h.0 ∙ at ys h.1

count_once : (n : ℕ) (xs : List BucketRow) → AreApart same_bucket xs → count n xs ≤ 1
count_once n [] h = lit≤ tt
count_once n (x ∷ xs) h = at (x.number == n) refl (count_once n xs h.1)
  where
    at : (t : Bool) → (x.number == n) ≡ t → count n xs ≤ 1 → count n (x ∷ xs) ≤ 1
    at true e rest =
        let none : count n xs ≡ 0 =
        count_none n xs (subst (λ m. bucket_in m xs ≡ None) (same_number x.number n e)
        (each_apart x xs h.0)) in
        omega (arith, count_same n x xs e, none)
    at false e rest = omega (arith, count_other n x xs e, rest)

-- of numbers that don't fall, each of which comes once, each is below the next
above : (n : ℕ) (ys : List BucketRow) → AllByRecursion (λ (y : BucketRow). n ≤ y.number) ys →
    count n ys ≡ 0 → AllByRecursion (λ (y : BucketRow). n < y.number) ys
above n [] h e = tt
above n (y ∷ ys) h e = at (y.number == n) refl (above n ys h.1)
  where
    at : (t : Bool) → (y.number == n) ≡ t →
        (count n ys ≡ 0 → AllByRecursion (λ (y : BucketRow). n < y.number) ys) →
        AllByRecursion (λ (y : BucketRow). n < y.number) (y ∷ ys)
    at true k rest =
        absurd (omega (arith, count_same n y ys k, e))
    at false k rest =
        let none : count n ys ≡ 0 = sym (count_other n y ys k) ∙ e in
        let le : n ≤ y.number = h.0 in
        (grind (arith, nat_tests), rest none)

pub sorted_ascends : (xs : List BucketRow) → IsNonDecreasingBy (λ (b : BucketRow). b.number) xs →
    ((n : ℕ) → count n xs ≤ 1) → IsAscending xs
sorted_ascends [] h once = tt
sorted_ascends (x ∷ xs) h once =
    let all : AllByRecursion (λ (y : BucketRow). x.number ≤ y.number) xs =
    recursion_from_All (λ (y : BucketRow). x.number ≤ y.number) xs
    (λ k d lt. h 0 (suc k) d (omega arith) (omega (arith, lt))) in
    let first : count x.number (x ∷ xs) ≡ 1 + count x.number xs =
    count_same x.number x xs (number_same x.number) in
    let none : count x.number xs ≡ 0 = omega (arith, first, once x.number) in (
      above x.number xs all none,
      sorted_ascends xs (IsNonDecreasingBy-drop (λ (b : BucketRow). b.number) 1 (x ∷ xs) h)
          (λ n. omega (arith, count-cons n x xs, once n)),
    )

own : (x : BucketRow) (xs : List BucketRow) → bucket_in x.number (x ∷ xs) ≡ Some x
own x xs = ap (λ t. cond t (Some x) (bucket_in x.number xs)) (number_same x.number)

-- each is found by its number
each_own : (all xs : List BucketRow) → ((n : ℕ) (y : BucketRow) → bucket_in n xs ≡ Some y →
    bucket_in n all ≡ Some y) → AreApart same_bucket xs →
    AllByRecursion (λ (y : BucketRow). bucket_in y.number all ≡ Some y) xs
each_own all [] h apart = tt
each_own all (x ∷ xs) h apart =
    (h x.number x (own x xs), each_own all xs (λ n y e. at n y e (x.number == n) refl) apart.1)
  where
    at : (n : ℕ) (y : BucketRow) → bucket_in n xs ≡ Some y → (t : Bool) → (x.number == n) ≡ t →
        bucket_in n all ≡ Some y
    at n y e true k = absurd (no_some y (sym (subst (λ m. bucket_in m xs ≡ None)
        (same_number x.number n k) (each_apart x xs apart.0)) ∙ e))
    at n y e false k =
        h n y (ap (λ t. cond t (Some x) (bucket_in n xs)) k ∙ e)

pub find_shuffled : (n : ℕ) (xs ys : List BucketRow) → IsPermutation xs ys →
    AreApart same_bucket xs →
    bucket_in n ys ≡ bucket_in n xs
find_shuffled n xs ys shuffled apart = at (bucket_in n ys) refl
  where
    at : (o : Option BucketRow) → bucket_in n ys ≡ o → o ≡ bucket_in n xs
    at (Some y) e =
        let one = found_one (λ (y : BucketRow). bucket_in y.number xs ≡ Some y) n ys y
        (shuffled_all (λ (y : BucketRow). bucket_in y.number xs ≡ Some y) xs ys shuffled
        (each_own xs xs (λ m z k. k) apart)) e in
        sym (subst (λ m. bucket_in m xs ≡ Some y) one.1 one.0)
    at None e =
        sym (absent n xs (shuffled_all (λ (y : BucketRow). (y.number == n) ≡ false) ys xs
        (IsPermutation-sym xs ys shuffled) (not_found n ys e)))

pub by_number_is : (xs ys all : List BucketRow) → AreByNumber xs ys → AreApart same_bucket xs →
    AreApart same_bucket all → ((n : ℕ) → bucket_in n xs ≡ bucket_in n all) → ys ≡ by_number all
by_number_is xs ys all h apart others same =
    one_list ys (by_number all)
    (sorted_ascends ys h.order (λ n. subst (λ (m : ℕ). m ≤ 1)
    (sym (shuffled_count n)) (count_once n xs apart)))
    (by_number_ascends all others)
    (λ n. find_shuffled n xs ys h.same apart ∙ same n ∙ sym (find_by_number n all others))
  where
    shuffled_count : (n : ℕ) → count n ys ≡ count n xs
    shuffled_count n = sum_by-IsPermutation (λ (b : BucketRow). if b.number == n then 1 else 0) xs
        ys
        h.same

-- ---- what was loaded and what was left

pub apart_append : (xs ys : List BucketRow) → AreApart same_bucket xs → AreApart same_bucket ys →
    AllByRecursion (λ (x : BucketRow). bucket_in x.number ys ≡ None) xs →
    AreApart same_bucket (xs ++ ys)
apart_append [] ys hx hy h = hy
apart_append (x ∷ xs) ys hx hy h = (behind xs hx.0, apart_append xs ys hx.1 hy h.1)
  where
    last : (zs : List BucketRow) → AllByRecursion (λ (y : BucketRow). (y.number == x.number) ≡
        false) zs →
        EachIn (λ y. same_bucket x y ≡ false) zs
    last [] k = tt
    last (z ∷ zs) k = (k.0, last zs k.1)

    behind : (zs : List BucketRow) → EachIn (λ y. same_bucket x y ≡ false) zs →
        EachIn (λ y. same_bucket x y ≡ false) (zs ++ ys)
    behind [] k = last ys (not_found x.number ys h.0)
    behind (z ∷ zs) k = (k.0, behind zs k.1)

all_map : (P Q : BucketRow → Type 0) (xs : List BucketRow) → ((x : BucketRow) → P x → Q x) →
    AllByRecursion P xs →
    AllByRecursion Q xs
all_map P Q [] f h = tt
all_map P Q (x ∷ xs) f h = (f x h.0, all_map P Q xs f h.1)

-- of a bucket that was loaded nothing was left
left_none : (n : ℕ) (left rows : List BucketRow) (x : BucketRow) → AreDistinct (merged left rows) →
    bucket_in n rows ≡ Some x → bucket_in n left ≡ None
left_none n [] rows x h e = refl
left_none n (b ∷ bs) rows x h e =
    let apart = distinct_placed b (merged bs rows) h in
    at (b.number == n) refl (left_none n bs rows x apart.1 e)
    (bucket_merged n bs rows apart.1 ∙ ap (λ o. first_of o (bucket_in n bs)) e) apart.0
  where
    differs : (ys : List BucketRow) → DiffersFromAll b.number ys →
        AllByRecursion (λ (y : BucketRow). (y.number == b.number) ≡ false) ys
    differs [] k = tt
    differs (y ∷ ys) k = (by (y.number == b.number) refl, differs ys k.1)
      where
        by : (t : Bool) → (y.number == b.number) ≡ t → t ≡ false
        by true p = absurd (k.0 (same_number y.number b.number p))
        by false p = refl

    at : (t : Bool) → (b.number == n) ≡ t → bucket_in n bs ≡ None →
        bucket_in n (merged bs rows) ≡ Some x → DiffersFromAll b.number (merged bs rows) →
        cond t (Some b) (bucket_in n bs) ≡ None
    at true k rest found others =
        absurd (no_some x (sym (subst (λ m. bucket_in m (merged bs rows) ≡ None)
        (same_number b.number n k) (absent b.number (merged bs rows)
        (differs (merged bs rows) others))) ∙ found))
    at false k rest found others = rest

either : {A : Type 0} (o p : Option A) → option_or o p ≡ first_of o p
either None p = refl
either (Some x) p = refl

-- what was loaded with what was left of it, in any order, are the buckets of both by number
-- rule: balance
pub joined_by_number : (left rows dead ys : List BucketRow) → AreDistinct (merged left rows) →
    AreApart same_bucket dead → ((n : ℕ) → bucket_in n dead ≡ bucket_in n left) →
    AreByNumber (rows ++ dead) ys → ys ≡ by_number (merged left rows)
joined_by_number left rows dead ys distinct apart same h =
    let rows_apart : AreApart same_bucket rows =
    distinct_apart rows (distinct_merged left rows distinct) in
    by_number_is (rows ++ dead) ys (merged left rows) h
    (apart_append rows dead rows_apart apart
    (all_map (λ (x : BucketRow). bucket_in x.number rows ≡ Some x)
    (λ (x : BucketRow). bucket_in x.number dead ≡ None) rows
    (λ x e. same x.number ∙ left_none x.number left rows x distinct e)
    (each_own rows rows (λ n y k. k) rows_apart)))
    (distinct_apart (merged left rows) distinct)
    (λ n. find-append (λ (b : BucketRow). b.number == n) rows dead
    ∙ either (bucket_in n rows) (bucket_in n dead)
    ∙ ap (first_of (bucket_in n rows)) (same n)
    ∙ sym (bucket_merged n left rows distinct))
