-- Rows that are swapped to the front, and those of one session once the others are given up.
use Rattle.std.proofs.Common.{◌≡◌, ◌⊎◌, inl, inr, ℕ, zero, suc, ◌+◌, ◌-◌, ◌<◌, ◌≤◌, List, []}
use Rattle.std.proofs.Common.{◌∷◌}
use Rattle.std.proofs.Common.{length, get_or, drop, take, refl, sym, ap, subst, ◌∙◌, arith}
use Rattle.std.proofs.Common.{Some, None}
use Rattle.std.specs.Prelude.{position, slice_range}
use Rattle.std.specs.List.{SwappedAt}
use Rattle.std.proofs.lemmas.List.{ext_get_or, get_or-drop, get_or-take}
use Rattle.reserving.specs.declared.session.Session.{Session}
use Rattle.reserving.specs.declared.session.SessionGroup.{SessionGroup}
use Rattle.reserving.specs.Earlier.{rows_in}
use Rattle.reserving.specs.Others.{own_sessions}
use Rattle.reserving.specs.Rows.{AreApart}
use Rattle.reserving.specs.Sessions.{is_session, session_before}
use Rattle.reserving.proofs.KeysFound.{placed, unplaced}
use Rattle.reserving.proofs.Lists.{no_some}
use Rattle.reserving.proofs.OwnEarlier.{own_row}
use Rattle.reserving.proofs.OwnRows.{all_from}

-- ---- the walk

-- so many rows from `first` on are in front, and those behind them are where they were
pub record AreMoved {A : Type 0} (first place : ℕ) (old new : List A) : Type 0 where
  pub long : length new ≡ length old
  pub moved : (k : ℕ) (d : A) → k < place → get_or new k d ≡ get_or old (first + k) d
  pub rest : (k : ℕ) (d : A) → first + place ≤ k → get_or new k d ≡ get_or old k d

pub moved_none : {A : Type 0} (first : ℕ) (xs : List A) → AreMoved first 0 xs xs
moved_none first xs = record {
  long = refl;
  moved = λ k d less. absurd (omega (arith, less));
  rest = λ k d le. refl;
}

last_or_less : (k n : ℕ) → k < n + 1 → (k ≡ n) ⊎ (k < n)
last_or_less zero zero h = inl refl
last_or_less zero (suc n) h = inr (omega arith)
last_or_less (suc k) zero h = absurd (omega (arith, h))
last_or_less (suc k) (suc n) h = at (last_or_less k n (omega (arith, h)))
  where
    at : (k ≡ n) ⊎ (k < n) → (suc k ≡ suc n) ⊎ (suc k < suc n)
    at (inl e) = inl (ap suc e)
    at (inr g) = inr (omega (arith, g))

pub moved_more : {A : Type 0} (first place : ℕ) (old xs ys : List A) → AreMoved first place old xs
    → length ys ≡ length xs → SwappedAt xs ys place (first + place)
    → AreMoved first (place + 1) old ys
moved_more {A} first place old xs ys m long swapped = record {
  long = long ∙ m.long;
  moved = λ k d less. at k d (last_or_less k place less);
  rest = λ k d le. swapped.2 k d (λ e. omega (arith, e, le)) (λ e. omega (arith, e, le))
      ∙ m.rest k d (omega (arith, le));
}
  where
    at : (k : ℕ) (d : A) → (k ≡ place) ⊎ (k < place) → get_or ys k d ≡ get_or old (first + k) d
    at k d (inl e) = ap (λ n. get_or ys n d) e ∙ swapped.0 d
        ∙ m.rest (first + place) d (omega arith) ∙ ap (λ n. get_or old (first + n) d) (sym e)
    at k d (inr g) = swapped.2 k d (λ e. omega (arith, e, g)) (λ e. omega (arith, e, g))
        ∙ m.moved k d g

long_drop : {A : Type 0} (n m : ℕ) (xs : List A) → n + m ≤ length xs → m ≤ length (drop n xs)
long_drop zero m xs h = omega (arith, h)
long_drop (suc n) m [] h = absurd (omega (arith, h))
long_drop (suc n) m (x ∷ xs) h = long_drop n m xs (omega (arith, h))

long_take : {A : Type 0} (m : ℕ) (xs : List A) → m ≤ length xs → length (take m xs) ≡ m
long_take zero xs h = refl
long_take (suc m) [] h = absurd (omega (arith, h))
long_take (suc m) (x ∷ xs) h = ap suc (long_take m xs (omega (arith, h)))

-- rule: database-writes.quiet-at
pub moved_all : {A : Type 0} (first count : ℕ) (old new : List A) → first + count ≤ length old
    → AreMoved first count old new → take count new ≡ take count (drop first old)
moved_all first count old [] within m = at count within m
  where
    at : (n : ℕ) → first + n ≤ length old → AreMoved first n old []
        → take n [] ≡ take n (drop first old)
    at zero within m = refl
    at (suc n) within m =
        let long = m.long in absurd (omega (arith, within, long))
moved_all first count old (y ∷ ys) within m =
    let long : length (y ∷ ys) ≡ length old = m.long in
    let front : length (take count (y ∷ ys)) ≡ count =
    long_take count (y ∷ ys) (omega (arith, within, long)) in
    let back : length (take count (drop first old)) ≡ count =
    long_take count (drop first old) (long_drop first count old within) in
    ext_get_or y (take count (y ∷ ys)) (take count (drop first old)) (front ∙ sym back)
    (λ i less. let few : i < count = subst (λ n. i < n) front less in
    get_or-take count (y ∷ ys) i y few ∙ m.moved i y few
    ∙ sym (get_or-drop first old i y) ∙ sym (get_or-take count (drop first old) i y few))

-- ---- what a session has of rating groups

within_all : {A : Type 0} (n m : ℕ) (xs : List A) → n ≤ length xs → m ≤ length (drop n xs)
    → n + m ≤ length xs
within_all zero m xs h less = omega (arith, less)
within_all (suc n) m [] h less = absurd (omega (arith, h))
within_all (suc n) m (x ∷ xs) h less =
    let rest = within_all n m xs (omega (arith, h)) less in omega (arith, rest)

pub range_within : (n m : ℕ) (xs : List SessionGroup) → n ≤ length xs
    → m ≤ length (slice_range xs n (length xs)) → n + m ≤ length xs
range_within n m xs within few = within_all n m xs within
    (subst (λ (ys : List SessionGroup). m ≤ length ys) (all_from n xs within) few)

pub range_is : {A : Type 0} (n m : ℕ) (xs : List A) → slice_range xs n (n + m) ≡ take m (drop n xs)
range_is n m xs =
    let few : n + m - n ≡ m = omega arith in ap (λ k. take k (drop n xs)) few

-- ---- the row of a session

one_at : {A : Type 0} (n : ℕ) (xs : List A) (d : A) → n < length xs
    → take 1 (drop n xs) ≡ get_or xs n d ∷ []
one_at n [] d h = absurd (omega (arith, h))
one_at zero (x ∷ xs) d h = refl
one_at (suc n) (x ∷ xs) d h = one_at n xs d (omega (arith, h))

-- rule: database-writes.quiet-at
pub own_at : (s : List ℕ) (place : ℕ) (xs : List Session)
    → AreApart (λ x y. is_session x.id y) xs → position (is_session s) xs ≡ Some place
    → take 1 (drop place xs) ≡ own_sessions s xs
own_at s place [] apart h = absurd (no_some place h)
own_at s place (x ∷ xs) apart h =
    let p = placed session_before (is_session s) x place (x ∷ xs) h in
    one_at place (x ∷ xs) x p.within ∙ sym (ap rows_in (p.found x))
    ∙ sym (own_row s (x ∷ xs) apart)

pub own_none : (s : List ℕ) (xs : List Session) → AreApart (λ x y. is_session x.id y) xs
    → position (is_session s) xs ≡ None → [] ≡ own_sessions s xs
own_none s xs apart h = sym (ap rows_in (unplaced (is_session s) xs h))
    ∙ sym (own_row s xs apart)
