-- Charges that are numbered on: each is new, and they are seen from the next number on.
use Rattle.std.proofs.Common.{◌≡◌, ◌≤◌, ◌<◌, ℕ, Bool, true, false, cond, List, [], ◌∷◌, refl, sym}
use Rattle.std.proofs.Common.{ap, ◌∙◌, arith, Option, Some, None, ltb-true, ltb-false, lt-ltb}
use Rattle.std.specs.Prelude.{if◌then◌else◌, ◌&&◌, ◌+◌, nat_eq, nat_lt}
use Rattle.ledger.specs.declared.charge.ChargeRow.{ChargeRow}
use Rattle.ledger.specs.Lists.{EachIn}
use Rattle.reserving.specs.Rows.{AreApart}
use Rattle.reserving.specs.Left.{first_of}
use Rattle.reserving.proofs.LeftTests.{first_alone}
use Rattle.keepers.specs.Tables.{charge_in}
use Rattle.sql_rows.specs.declared.head.HeadColumns.{HeadColumns}
use Rattle.sql_keeper.specs.Content.{is_numbered}
use Rattle.sql_keeper.specs.Tests.{AreNumbered, first_number}
use Rattle.sql_keeper.proofs.puts.Overlays.{number_from, number_itself, not_both, same_charge}

pub rises : (from next : ℕ) (cs : List ChargeRow) → AreNumbered from next cs → from ≤ next
rises from next [] h = omega (arith, h)
rises from next (c ∷ cs) h = let r = rises (from + 1) next cs h.1 in omega (arith, r)

other : (n m : ℕ) → (n ≡ m → ⊥) → nat_eq n m ≡ false
other n m h = at (nat_eq n m) refl
  where
    at : (t : Bool) → nat_eq n m ≡ t → nat_eq n m ≡ false
    at true e = absurd (h (number_from n m e))
    at false e = e

same_is : (n m : ℕ) → n ≡ m → nat_eq n m ≡ true
same_is n m e = ap (nat_eq n) (sym e) ∙ number_itself n

not_less : (n m : ℕ) → m ≤ n → nat_lt n m ≡ false
not_less n m h = at (nat_lt n m) refl
  where
    at : (t : Bool) → nat_lt n m ≡ t → nat_lt n m ≡ false
    at true e = absurd (let l = ltb-true n m e in omega (arith, l, h))
    at false e = e

and_false : (b : Bool) → (b && false) ≡ false
and_false true = refl
and_false false = refl

positive : (k : ℕ) → nat_eq k 0 ≡ false → 1 ≤ k
positive k e = at (nat_lt 0 k) refl
  where
    at : (t : Bool) → nat_lt 0 k ≡ t → 1 ≤ k
    at true l = let s = ltb-true 0 k l in omega (arith, s)
    at false l = let s = ltb-false 0 k l in not_both (sym (same_is k 0 (omega (arith, s))) ∙ e)

pub none_below : (n from next : ℕ) (cs : List ChargeRow) → AreNumbered from next cs → n < from →
    charge_in n cs ≡ None
none_below n from next [] h low = refl
none_below n from next (c ∷ cs) h low =
    let is = h.0 in
    ap (λ t. cond t (Some c) (charge_in n cs)) (other c.number n (λ e. omega (arith, is, e, low)))
    ∙ none_below n (from + 1) next cs h.1 (omega (arith, low))

pub none_above : (n from next : ℕ) (cs : List ChargeRow) → AreNumbered from next cs → next ≤ n →
    charge_in n cs ≡ None
none_above n from next [] h high = refl
none_above n from next (c ∷ cs) h high =
    let is = h.0 in let r = rises (from + 1) next cs h.1 in
    ap (λ t. cond t (Some c) (charge_in n cs))
    (other c.number n (λ e. omega (arith, is, e, high, r)))
    ∙ none_above n (from + 1) next cs h.1 high

pub record IsThere (n : ℕ) (cs : List ChargeRow) : Type 0 where
  pub row : ChargeRow
  pub is : charge_in n cs ≡ Some row

some_between : (n from next : ℕ) (cs : List ChargeRow) → AreNumbered from next cs → from ≤ n →
    n < next → IsThere n cs
some_between n from next [] h low high =
    absurd (let e : from ≡ next = h in omega (arith, e, low, high))
some_between n from next (c ∷ cs) h low high =
    at (nat_eq c.number n) refl (λ above. some_between n (from + 1) next cs h.1 above high)
  where
    at : (t : Bool) → nat_eq c.number n ≡ t → (from + 1 ≤ n → IsThere n cs) → IsThere n (c ∷ cs)
    at true e rest = record { row = c; is = ap (λ t. cond t (Some c) (charge_in n cs)) e }
    at false e rest =
        let there = rest (above (nat_lt from n) refl) in
        record { row = there.row; is = ap (λ t. cond t (Some c) (charge_in n cs)) e ∙ there.is }
      where
        above : (u : Bool) → nat_lt from n ≡ u → from + 1 ≤ n
        above true k = let l = ltb-true from n k in omega (arith, l)
        above false k = let l = ltb-false from n k in let is = h.0 in
            not_both (sym (same_is c.number n (omega (arith, l, is, low))) ∙ e)

-- no two of them have one number
apart_from : (n from next : ℕ) (cs : List ChargeRow) → AreNumbered from next cs → n < from →
    EachIn (λ y. nat_eq y.number n ≡ false) cs
apart_from n from next [] h low = tt
apart_from n from next (c ∷ cs) h low =
    let is = h.0 in (
      other c.number n (λ e. omega (arith, is, e, low)),
      apart_from n (from + 1) next cs h.1 (omega (arith, low)),
    )

pub numbered_apart : (from next : ℕ) (cs : List ChargeRow) → AreNumbered from next cs →
    AreApart same_charge cs
numbered_apart from next [] h = tt
numbered_apart from next (c ∷ cs) h = let is = h.0 in (
  apart_from c.number (from + 1) next cs h.1 (omega (arith, is)),
  numbered_apart (from + 1) next cs h.1,
)

-- ---- what is seen of the charges

-- where an account's charges are seen, and where its next one is numbered
pub record Begins (seen : Bool) (n from : ℕ) : Type 0 where
  pub first : 1 ≤ from
  pub below : 0 < n → n < from → seen ≡ true
  pub above : from ≤ n → seen ≡ false
  pub none : n ≡ 0 → seen ≡ false

module _ (n from next : ℕ) (cs : List ChargeRow) (seen : Bool) (h : AreNumbered from next cs)
    (b : Begins seen n from) (before : Option ChargeRow) where
  after : Bool → Option ChargeRow
  after t = if t then first_of (charge_in n cs) before else None

  old : Option ChargeRow
  old = if seen then before else None

  under : n < from → 0 < n → after true ≡ first_of old (charge_in n cs)
  unfolding after old
  under low some = rw (none_below n from next cs h low, b.below some low) (sym (first_alone before))

  between : from ≤ n → n < next → after true ≡ first_of old (charge_in n cs)
  unfolding after old
  between low high =
      let there = some_between n from next cs h low high in
      rw (there.is, b.above low) refl

  over : next ≤ n → after false ≡ first_of old (charge_in n cs)
  unfolding after old
  over high =
      let r = rises from next cs h in
      rw (none_above n from next cs h high, b.above (omega (arith, r, high))) refl

  zero_is : n ≡ 0 → after false ≡ first_of old (charge_in n cs)
  unfolding after old
  zero_is e = let first = b.first in
      rw (none_below n from next cs h (omega (arith, e, first)), b.none e) refl

  inside : (t : Bool) → nat_lt n from ≡ t → 0 < n → n < next →
      after true ≡ first_of old (charge_in n cs)
  inside true k some high = under (ltb-true n from k) some
  inside false k some high = between (ltb-false n from k) high

  at : (t u : Bool) → nat_lt 0 n ≡ t → nat_lt n next ≡ u →
      after (t && u) ≡ first_of old (charge_in n cs)
  at true true j k = inside (nat_lt n from) refl (ltb-true 0 n j) (ltb-true n next k)
  at true false j k = over (ltb-false n next k)
  at false u j k = zero_is (let l = ltb-false 0 n j in omega (arith, l))

  pub seen_after : (if nat_lt 0 n && nat_lt n next then first_of (charge_in n cs) before else None)
      ≡ first_of (if seen then before else None) (charge_in n cs)
  unfolding after old
  seen_after = at (nat_lt 0 n) (nat_lt n next) refl refl

pub begins : (n : ℕ) (o : Option HeadColumns) → Begins (is_numbered n o) n (first_number o)
begins n None = record {
  first = omega arith;
  below = λ some low. absurd (omega (arith, some, low));
  above = λ high. refl;
  none = λ e. refl;
}
begins n (Some h) = at h.next_charge (nat_eq h.next_charge 0) refl
  where
    at : (k : ℕ) (t : Bool) → nat_eq k 0 ≡ t →
        Begins (nat_lt 0 n && nat_lt n k) n (if t then 1 else k)
    at k true e = record {
      first = omega arith;
      below = λ some low. absurd (omega (arith, some, low));
      above = λ high.
          ap (λ u. nat_lt 0 n && u) (not_less n k (let z = number_from k 0 e in omega (arith, z)))
          ∙ and_false (nat_lt 0 n);
      none = λ z. ap (λ u. u && nat_lt n k) (not_less 0 n (omega (arith, z)));
    }
    at k false e = record {
      first = positive k e;
      below = λ some low. rw (lt-ltb 0 n some, lt-ltb n k low) refl;
      above = λ high. ap (λ u. nat_lt 0 n && u) (not_less n k high) ∙ and_false (nat_lt 0 n);
      none = λ z. ap (λ u. u && nat_lt n k) (not_less 0 n (omega (arith, z)));
    }

-- ---- a number among those that are seen

-- one that was seen is seen on
pub numbered_on : (n from next : ℕ) (seen : Bool) → Begins seen n from → from ≤ next → seen ≡ true
    → (nat_lt 0 n && nat_lt n next) ≡ true
numbered_on n from next seen b up is =
    let low = below (nat_lt n from) refl in
    rw (lt-ltb 0 n (some (nat_lt 0 n) refl), lt-ltb n next (omega (arith, low, up))) refl
  where
    some : (t : Bool) → nat_lt 0 n ≡ t → 0 < n
    some true e = ltb-true 0 n e
    some false e = let l = ltb-false 0 n e in not_both (sym is ∙ b.none (omega (arith, l)))

    below : (t : Bool) → nat_lt n from ≡ t → n < from
    below true e = ltb-true n from e
    below false e = not_both (sym is ∙ b.above (ltb-false n from e))

-- and so is each of those that are numbered on
pub numbered_among : (n from next : ℕ) (cs : List ChargeRow) (x : ChargeRow)
    → AreNumbered from next cs → 1 ≤ from → charge_in n cs ≡ Some x
    → (nat_lt 0 n && nat_lt n next) ≡ true
numbered_among n from next cs x h first is =
    let low = least (nat_lt n from) refl in
    rw (lt-ltb 0 n (omega (arith, low, first)), lt-ltb n next (below (nat_lt n next) refl)) refl
  where
    missing : {X : Type 0} → charge_in n cs ≡ None → X
    missing none = absurd (let no : Some x ≡ None = sym is ∙ none in cc)

    least : (t : Bool) → nat_lt n from ≡ t → from ≤ n
    least true e = missing (none_below n from next cs h (ltb-true n from e))
    least false e = ltb-false n from e

    below : (t : Bool) → nat_lt n next ≡ t → n < next
    below true e = ltb-true n next e
    below false e = missing (none_above n from next cs h (ltb-false n next e))
