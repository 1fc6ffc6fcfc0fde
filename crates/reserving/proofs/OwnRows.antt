-- What a session has of rating groups is together, where groups are in the order of their
-- keys.
use Rattle.std.proofs.Common.{◌≡◌, ℕ, zero, suc, ◌<◌, ◌≤◌, ◌-◌, Bool, true, false, cond, List, []}
use Rattle.std.proofs.Common.{◌∷◌, length, get_or, drop, take, refl, sym, ap, subst, ◌∙◌, arith}
use Rattle.std.proofs.lemmas.List.{take_all}
use Rattle.std.specs.Prelude.{slice_range, not}
use Rattle.std.specs.List.Sorted.{IsPartitionedBy, IsPartitionPoint}
use Rattle.std.specs.Ordering.{nat_cmp, is_lt, is_eq, is_gt, ordering_then}
use Rattle.std.specs.declared.cmp.Ordering.{Ordering}
use Rattle.std.specs.declared.cmp.Ordering.TheVariants.{Less, Equal, Greater}
use Rattle.std.specs.Cmp.{alike_right}
use Rattle.std.specs.Cmp.Lexicographic.{slice_cmp, texts_ties}
use Rattle.std.proofs.lemmas.Cmp.{nat_list_cmp_total}
use Rattle.reserving.specs.declared.session.SessionGroup.{SessionGroup}
use Rattle.reserving.specs.Sessions.{group_before}
use Rattle.ledger.specs.Lists.{EachIn}
use Rattle.reserving.specs.Rows.{AreAscending}
use Rattle.reserving.specs.Others.{own_groups, is_earlier, is_later}
use Rattle.reserving.proofs.Lists.{EachIn-weaker, not_both}
use Rattle.reserving.proofs.order.Ascending.{less_is}
use Rattle.reserving.proofs.order.Searched.{at_place}

-- ---- names in order

abbrev pub order : List ℕ → List ℕ → Ordering
order = slice_cmp nat_cmp

-- not behind one that isn't behind a third
pub not_behind : (x y z : List ℕ) → is_gt (order x y) ≡ false → is_gt (order y z) ≡ false
    → is_gt (order x z) ≡ false
not_behind x y z h k = go (order x y) (order y z) refl refl h k
  where
    go : (p q : Ordering) → order x y ≡ p → order y z ≡ q → is_gt p ≡ false → is_gt q ≡ false
        → is_gt (order x z) ≡ false
    go Less Less e f h k = ap is_gt (nat_list_cmp_total.trans x y z e f)
    go Less Equal e f h k = ap is_gt (sym (alike_right nat_list_cmp_total y z x f) ∙ e)
    go Less Greater e f h k = absurd (not_both (sym k))
    go Equal q e f h k = ap is_gt (nat_list_cmp_total.congr x y z e ∙ f) ∙ k
    go Greater q e f h k = absurd (not_both (sym h))

pub before_it : (x y z : List ℕ) → is_gt (order x y) ≡ false → is_lt (order y z) ≡ true
    → is_lt (order x z) ≡ true
before_it x y z h k = go (order x y) refl h
  where
    go : (p : Ordering) → order x y ≡ p → is_gt p ≡ false → is_lt (order x z) ≡ true
    go Less e h = ap is_lt (nat_list_cmp_total.trans x y z e (less_is (order y z) k))
    go Equal e h = ap is_lt (nat_list_cmp_total.congr x y z e) ∙ k
    go Greater e h = absurd (not_both (sym h))

first_le : (a b : Ordering) → is_lt (ordering_then a b) ≡ true → is_gt a ≡ false
first_le Less b h = refl
first_le Equal b h = refl
first_le Greater b h = absurd (not_both h)

less_not : (r : Ordering) → is_lt r ≡ true → is_eq r ≡ false
less_not Less h = refl
less_not Equal h = absurd (not_both h)
less_not Greater h = absurd (not_both h)

greater_not : (r : Ordering) → is_gt r ≡ true → is_eq r ≡ false
greater_not Less h = absurd (not_both h)
greater_not Equal h = absurd (not_both h)
greater_not Greater h = refl

between : (r : Ordering) → is_lt r ≡ false → is_gt r ≡ false → is_eq r ≡ true
between Less h k = absurd (not_both (sym h))
between Equal h k = refl
between Greater h k = absurd (not_both (sym k))

-- ---- rows in order

later : (x : SessionGroup) (xs : List SessionGroup) → AreAscending group_before (x ∷ xs)
    → EachIn (λ (y : SessionGroup). is_gt (order x.session y.session) ≡ false) xs
later x xs h =
    EachIn-weaker (λ (y : SessionGroup). group_before x y ≡ true)
    (λ (y : SessionGroup). is_gt (order x.session y.session) ≡ false) xs
    (λ y e. first_le (order x.session y.session) (nat_cmp x.group y.group) e) h.0

pub earlier_parted : (s : List ℕ) (xs : List SessionGroup) → AreAscending group_before xs
    → IsPartitionedBy (is_earlier s) xs
earlier_parted s [] up i j d le within h = absurd (omega (arith, within))
earlier_parted s (x ∷ xs) up zero zero d le within h = h
earlier_parted s (x ∷ xs) up zero (suc j) d le within h =
    before_it x.session (get_or xs j d).session s
    (at_place (λ (y : SessionGroup). is_gt (order x.session y.session) ≡ false) xs j d
    (omega (arith, within)) (later x xs up)) h
earlier_parted s (x ∷ xs) up (suc i) zero d le within h = absurd (omega (arith, le))
earlier_parted s (x ∷ xs) up (suc i) (suc j) d le within h =
    earlier_parted s xs up.1 i j d (omega (arith, le)) (omega (arith, within)) h

unlater : (b : Bool) → not b ≡ true → b ≡ false
unlater true h = absurd (not_both h)
unlater false h = refl

pub later_parted : (s : List ℕ) (xs : List SessionGroup) → AreAscending group_before xs
    → IsPartitionedBy (λ r. not (is_later s r)) xs
later_parted s [] up i j d le within h = absurd (omega (arith, within))
later_parted s (x ∷ xs) up zero zero d le within h = h
later_parted s (x ∷ xs) up zero (suc j) d le within h =
    ap not (not_behind x.session (get_or xs j d).session s
    (at_place (λ (y : SessionGroup). is_gt (order x.session y.session) ≡ false) xs j d
    (omega (arith, within)) (later x xs up)) (unlater (is_later s (get_or xs j d)) h))
later_parted s (x ∷ xs) up (suc i) zero d le within h = absurd (omega (arith, le))
later_parted s (x ∷ xs) up (suc i) (suc j) d le within h =
    later_parted s xs up.1 i j d (omega (arith, le)) (omega (arith, within)) h

ascends_on : (n : ℕ) (xs : List SessionGroup) → AreAscending group_before xs
    → AreAscending group_before (drop n xs)
ascends_on zero xs h = h
ascends_on (suc n) [] h = tt
ascends_on (suc n) (x ∷ xs) h = ascends_on n xs h.1

-- from the place where they begin
pub all_from : (n : ℕ) (xs : List SessionGroup) → n ≤ length xs
    → slice_range xs n (length xs) ≡ drop n xs
all_from n xs le = take_all (length xs - n) (drop n xs) (whole n xs le)
  where
    whole : (m : ℕ) (ys : List SessionGroup) → m ≤ length ys
        → length (drop m ys) ≤ length ys - m
    whole zero ys le = omega arith
    whole (suc m) [] le = absurd (omega (arith, le))
    whole (suc m) (y ∷ ys) le =
        let rest = whole m ys (omega (arith, le)) in omega (arith, rest, le)

pub rest_ascends : (n : ℕ) (xs rest : List SessionGroup) → n ≤ length xs
    → rest ≡ slice_range xs n (length xs) → AreAscending group_before xs
    → AreAscending group_before rest
rest_ascends n xs rest within is up =
    subst (AreAscending group_before) (sym (is ∙ all_from n xs within)) (ascends_on n xs up)

-- ---- those of one session

-- those before aren't its
skipped : (s : List ℕ) (n : ℕ) (xs : List SessionGroup)
    → ((j : ℕ) (d : SessionGroup) → j < n → is_earlier s (get_or xs j d) ≡ true)
    → own_groups s (drop n xs) ≡ own_groups s xs
skipped s zero xs h = refl
skipped s (suc n) [] h = refl
skipped s (suc n) (x ∷ xs) h =
    skipped s n xs (λ j d less. h (suc j) d (omega (arith, less)))
    ∙ ap (λ t. cond t (x ∷ own_groups s xs) (own_groups s xs))
    (sym (texts_ties x.session s
    ∙ less_not (order x.session s) (h zero x (omega arith))))

beyond : (s : List ℕ) (m : ℕ) (ys : List SessionGroup) (j : ℕ) (d : SessionGroup) → m ≤ length ys
    → j < length (drop m ys)
    → ((k : ℕ) (e : SessionGroup) → m ≤ k → k < length ys → is_earlier s (get_or ys k e) ≡ false)
    → is_earlier s (get_or (drop m ys) j d) ≡ false
beyond s zero ys j d le less all = all j d (omega arith) less
beyond s (suc m) [] j d le less all = absurd (omega (arith, le))
beyond s (suc m) (y ∷ ys) j d le less all =
    beyond s m ys j d (omega (arith, le)) less
    (λ k e low high. all (suc k) e (omega (arith, low)) (omega (arith, high)))

-- where none is earlier, so many are its as aren't later
taken : (s : List ℕ) (m : ℕ) (ys : List SessionGroup)
    → ((j : ℕ) (d : SessionGroup) → j < length ys → is_earlier s (get_or ys j d) ≡ false)
    → ((j : ℕ) (d : SessionGroup) → j < m → not (is_later s (get_or ys j d)) ≡ true)
    → ((j : ℕ) (d : SessionGroup) → m ≤ j → j < length ys
    → not (is_later s (get_or ys j d)) ≡ false)
    → m ≤ length ys → take m ys ≡ own_groups s ys
taken s zero [] none its others le = refl
taken s zero (y ∷ ys) none its others le =
    taken s zero ys (λ j d less. none (suc j) d (omega (arith, less)))
    (λ j d less. absurd (omega (arith, less)))
    (λ j d low less. others (suc j) d (omega arith) (omega (arith, less))) (omega arith)
    ∙ ap (λ t. cond t (y ∷ own_groups s ys) (own_groups s ys))
    (sym (texts_ties y.session s ∙ greater_not (order y.session s)
    (is_so (is_later s y) (others zero y (omega arith) (omega arith)))))
  where
    is_so : (b : Bool) → not b ≡ false → b ≡ true
    is_so true h = refl
    is_so false h = absurd (not_both (sym h))
taken s (suc m) [] none its others le = absurd (omega (arith, le))
taken s (suc m) (y ∷ ys) none its others le =
    ap (λ l. y ∷ l) (taken s m ys (λ j d less. none (suc j) d (omega (arith, less)))
    (λ j d less. its (suc j) d (omega (arith, less)))
    (λ j d low less. others (suc j) d (omega (arith, low)) (omega (arith, less)))
    (omega (arith, le)))
    ∙ ap (λ t. cond t (y ∷ own_groups s ys) (own_groups s ys))
    (sym (texts_ties y.session s ∙ between (order y.session s) (none zero y (omega arith))
    (unlater (is_later s y) (its zero y (omega arith)))))

-- rule: database-writes.quiet-at
pub own_found : (s : List ℕ) (xs rest mine : List SessionGroup) (n m : ℕ) → n ≤ length xs
    → rest ≡ slice_range xs n (length xs)
    → IsPartitionPoint (λ r. is_earlier s r ≡ true) (λ r. is_earlier s r ≡ false) xs n
    → m ≤ length rest
    → IsPartitionPoint (λ r. not (is_later s r) ≡ true) (λ r. not (is_later s r) ≡ false) rest m
    → mine ≡ take m rest → mine ≡ own_groups s xs
own_found s xs rest mine n m within is first few past are =
    are
    ∙ taken s m rest
    (λ j d less. subst (λ ys. is_earlier s (get_or ys j d) ≡ false) (sym from)
    (beyond s n xs j d within (subst (λ ys. j < length ys) from less) (λ k e low high.
    first.1 k e low high)))
    (λ j d less. past.0 j d (omega arith) less) (λ j d low less. past.1 j d low less) few
    ∙ ap (own_groups s) from ∙ skipped s n xs (λ j d less. first.0 j d (omega arith) less)
  where
    from : rest ≡ drop n xs
    from = is ∙ all_from n xs within
