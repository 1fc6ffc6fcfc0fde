-- What is held for one session is together, where rows rise.
use Rattle.std.proofs.Common.{◌≡◌, ℕ, zero, suc, ◌<◌, ◌≤◌, Bool, true, false, cond, List, [], ◌∷◌}
use Rattle.std.proofs.Common.{length, get_or, drop, map, refl, sym, ap, subst, ◌∙◌, arith}
use Rattle.std.proofs.Common.{true≢false, ◌++◌, ◌-◌}
use Rattle.std.proofs.lemmas.List.{take_all}
use Rattle.std.specs.Prelude.{filter, slice_range}
use Rattle.std.specs.List.Sorted.{IsPartitionedBy, IsPartitionPoint}
use Rattle.std.specs.Ordering.{nat_cmp, is_lt, is_eq, is_gt, ordering_then}
use Rattle.std.specs.declared.cmp.Ordering.{Ordering}
use Rattle.std.specs.declared.cmp.Ordering.TheVariants.{Less, Equal, Greater}
use Rattle.std.specs.Cmp.{alike_right}
use Rattle.std.specs.Cmp.Lexicographic.{texts_ties}
use Rattle.std.proofs.lemmas.Cmp.{nat_list_cmp_total}
use Rattle.ledger.specs.Lists.{EachIn}
use Rattle.reserving.proofs.Lists.{EachIn-weaker, not_both}
use Rattle.reserving.proofs.OwnRows.{order, not_behind, before_it}
use Rattle.reserving.proofs.order.Ascending.{less_is, equal_is}
use Rattle.reserving.proofs.order.Searched.{at_place}
use Rattle.sql_tables.specs.Keyed.{same_name}
use Rattle.sql_rows.specs.declared.hold_rows.HeldColumns.{HeldColumns}
use Rattle.sql_rows.specs.declared.session_hold_rows.SessionHold.{SessionHold}
use Rattle.sql_keeper.specs.GroupRows.{DoHoldsRise, IsRun, held_for, precedes}

greater_is : (r : Ordering) → is_lt r ≡ false → is_eq r ≡ false → r ≡ Greater
greater_is Less h k = absurd (not_both (sym h))
greater_is Equal h k = absurd (not_both (sym k))
greater_is Greater h k = refl

first_le : (a b c : Ordering) → is_lt (ordering_then (ordering_then a b) c) ≡ true
    → is_gt a ≡ false
first_le Less b c h = refl
first_le Equal b c h = refl
first_le Greater b c h = absurd (not_both h)

-- ---- rows in order

tail_rises : (x : SessionHold) (xs : List SessionHold) → DoHoldsRise (x ∷ xs) → DoHoldsRise xs
tail_rises x [] h = tt
tail_rises x (y ∷ ys) h = h.1

later : (x : SessionHold) (xs : List SessionHold) → DoHoldsRise (x ∷ xs)
    → EachIn (λ (y : SessionHold). is_gt (order x.session y.session) ≡ false) xs
later x [] h = tt
later x (y ∷ ys) h =
    let next : is_gt (order x.session y.session) ≡ false =
    first_le (order x.session y.session) (nat_cmp x.columns.group y.columns.group)
    (nat_cmp x.columns.bucket y.columns.bucket) h.0 in (
      next,
      EachIn-weaker (λ (z : SessionHold). is_gt (order y.session z.session) ≡ false)
          (λ (z : SessionHold). is_gt (order x.session z.session) ≡ false) ys
          (λ z k. not_behind x.session y.session z.session next k) (later y ys h.1),
    )

pub parted : (s : List ℕ) (xs : List SessionHold) → DoHoldsRise xs
    → IsPartitionedBy (precedes s) xs
parted s [] rise i j d le within up = absurd (omega (arith, within))
parted s (x ∷ xs) rise zero zero d le within up = up
parted s (x ∷ xs) rise zero (suc j) d le within up =
    before_it x.session (get_or xs j d).session s
    (at_place (λ (y : SessionHold). is_gt (order x.session y.session) ≡ false) xs j d
    (omega (arith, within)) (later x xs rise)) up
parted s (x ∷ xs) rise (suc i) zero d le within up = absurd (omega (arith, le))
parted s (x ∷ xs) rise (suc i) (suc j) d le within up =
    parted s xs (tail_rises x xs rise) i j d (omega (arith, le)) (omega (arith, within)) up

pub rises_on : (n : ℕ) (xs : List SessionHold) → DoHoldsRise xs → DoHoldsRise (drop n xs)
rises_on zero xs h = h
rises_on (suc n) [] h = tt
rises_on (suc n) (x ∷ xs) h = rises_on n xs (tail_rises x xs h)

-- ---- those of one session

not_its : (s : List ℕ) (x : SessionHold) → precedes s x ≡ true → same_name x.session s ≡ false
not_its s x h =
    texts_ties x.session s ∙ ap is_eq (less_is (order x.session s) h)

pub skipped : (s : List ℕ) (n : ℕ) (xs : List SessionHold)
    → ((j : ℕ) (d : SessionHold) → j < n → precedes s (get_or xs j d) ≡ true)
    → held_for s (drop n xs) ≡ held_for s xs
skipped s zero xs h = refl
skipped s (suc n) [] h = refl
skipped s (suc n) (x ∷ xs) h =
    skipped s n xs (λ j d less. h (suc j) d (omega (arith, less)))
    ∙ ap (λ t. map (λ (y : SessionHold). y.columns)
    (cond t (x ∷ filter (λ (y : SessionHold). same_name y.session s) xs)
    (filter (λ (y : SessionHold). same_name y.session s) xs)))
    (sym (not_its s x (h zero x (omega arith))))

pub is_run : (s : List ℕ) (xs : List SessionHold) → DoHoldsRise xs
    → ((j : ℕ) (d : SessionHold) → j < length xs → precedes s (get_or xs j d) ≡ false)
    → IsRun s xs
is_run s [] rise h = tt
is_run s (x ∷ xs) rise h = (
  (λ other. EachIn-weaker (λ (y : SessionHold). is_gt (order x.session y.session) ≡ false)
      (λ (y : SessionHold). same_name y.session s ≡ false) xs
      (λ y k. behind y k other) (later x xs rise)),
  is_run s xs (tail_rises x xs rise) (λ j d less. h (suc j) d (omega (arith, less))),
)
  where
    behind : (y : SessionHold) → is_gt (order x.session y.session) ≡ false
        → same_name x.session s ≡ false → same_name y.session s ≡ false
    behind y k other = go (same_name y.session s) refl
      where
        go : (t : Bool) → same_name y.session s ≡ t → same_name y.session s ≡ false
        go false e = e
        go true e =
            let tied : order y.session s ≡ Equal =
            equal_is (order y.session s) (sym (texts_ties y.session s) ∙ e) in
            let gt : order x.session s ≡ Greater =
            greater_is (order x.session s) (h zero x (omega arith))
            (sym (texts_ties x.session s) ∙ other) in
            absurd (true≢false (sym (ap is_gt (alike_right nat_list_cmp_total y.session s
            x.session tied ∙ gt)) ∙ k))

-- where another's comes, nothing of it is left
pub run_ends : (s : List ℕ) (i : ℕ) (xs : List SessionHold) (d : SessionHold) → IsRun s xs
    → i < length xs → same_name (get_or xs i d).session s ≡ false → held_for s (drop i xs) ≡ []
run_ends s i [] d run less other = absurd (omega (arith, less))
run_ends s zero (x ∷ xs) d run less other =
    ap (λ t. map (λ (y : SessionHold). y.columns)
    (cond t (x ∷ filter (λ (y : SessionHold). same_name y.session s) xs)
    (filter (λ (y : SessionHold). same_name y.session s) xs))) other
    ∙ none_left xs (run.0 other)
  where
    none_left : (ys : List SessionHold)
        → EachIn (λ (y : SessionHold). same_name y.session s ≡ false) ys → held_for s ys ≡ []
    none_left [] h = refl
    none_left (y ∷ ys) h =
        ap (λ t. map (λ (z : SessionHold). z.columns)
        (cond t (y ∷ filter (λ (z : SessionHold). same_name z.session s) ys)
        (filter (λ (z : SessionHold). same_name z.session s) ys))) h.0
        ∙ none_left ys h.1
run_ends s (suc i) (x ∷ xs) d run less other =
    run_ends s i xs d run.1 (omega (arith, less)) other

pub ended : (s : List ℕ) (i : ℕ) (xs : List SessionHold) (x : SessionHold) (own : List HeldColumns)
    → IsRun s xs → i < length xs → same_name (get_or xs i x).session s ≡ false
    → own ++ held_for s (drop i xs) ≡ held_for s xs → own ≡ held_for s xs
ended s i xs x own run less other so_far =
    sym (append_none own) ∙ ap (λ l. own ++ l) (sym (run_ends s i xs x run less other)) ∙ so_far
  where
    append_none : (l : List HeldColumns) → l ++ [] ≡ l
    append_none [] = refl
    append_none (y ∷ ys) = ap (λ l. y ∷ l) (append_none ys)

-- from the place where they begin
pub all_from : (n : ℕ) (xs : List SessionHold) → n ≤ length xs
    → slice_range xs n (length xs) ≡ drop n xs
all_from n xs le = take_all (length xs - n) (drop n xs) (whole n xs le)
  where
    whole : (m : ℕ) (ys : List SessionHold) → m ≤ length ys
        → length (drop m ys) ≤ length ys - m
    whole zero ys le = omega arith
    whole (suc m) [] le = absurd (omega (arith, le))
    whole (suc m) (y ∷ ys) le =
        let rest = whole m ys (omega (arith, le)) in omega (arith, rest, le)

module _ (s : List ℕ) (xs rest : List SessionHold) (n : ℕ) (within : n ≤ length xs)
    (is : rest ≡ slice_range xs n (length xs)) (rise : DoHoldsRise xs)
    (point : IsPartitionPoint (λ x. precedes s x ≡ true) (λ x. precedes s x ≡ false) xs n) where
  pub from_point : rest ≡ drop n xs
  from_point = is ∙ all_from n xs within

  pub run_from : IsRun s rest
  run_from = subst (IsRun s) (sym from_point)
      (is_run s (drop n xs) (rises_on n xs rise) (λ j d less. beyond n xs j d within less
      (λ k e low high. point.1 k e low high)))
    where
      beyond : (m : ℕ) (ys : List SessionHold) (j : ℕ) (d : SessionHold) → m ≤ length ys
          → j < length (drop m ys)
          → ((k : ℕ) (e : SessionHold) → m ≤ k → k < length ys
          → precedes s (get_or ys k e) ≡ false)
          → precedes s (get_or (drop m ys) j d) ≡ false
      beyond zero ys j d le less all = all j d (omega arith) less
      beyond (suc m) [] j d le less all = absurd (omega (arith, le))
      beyond (suc m) (y ∷ ys) j d le less all =
          beyond m ys j d (omega (arith, le)) less
          (λ k e low high. all (suc k) e (omega (arith, low)) (omega (arith, high)))

  -- rule: database-loads.group-of
  pub held_from : held_for s rest ≡ held_for s xs
  held_from = ap (held_for s) from_point
      ∙ skipped s n xs (λ j d less. point.0 j d (omega arith) less)
