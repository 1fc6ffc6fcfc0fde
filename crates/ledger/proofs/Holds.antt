-- What reservations hold of a bucket, split by reservation; and as the sum over the rows of groups.
use Rattle.std.proofs.Common.{◌≡◌, ℕ, ◌+◌, Bool, true, false, List, [], ◌∷◌, refl, ap, ◌∙◌, arith}
use Rattle.std.proofs.Common.{Option, Some, None}
use Rattle.std.specs.Prelude.{if◌then◌else◌, ◌==◌, ◌&&◌, not}
pub use Rattle.std.proofs.lemmas.Bool.{and_parts as both, eqb-true as number_from}
use Rattle.std.proofs.lemmas.Bool.Decides.{nat_tests}
use Rattle.identifiers.proofs.Equality.{equal_names}
use Rattle.ledger.specs.Ledger.{Fact, Ledger, HoldOf, EndOf, counts, number_of, is_same}
use Rattle.ledger.specs.Ledger.{held, only}
use Rattle.ledger.specs.Parts.{counts_before, but_ended, ends_of, hold_of, holds_by}
pub use Rattle.ledger.proofs.Names.{number_same as number_itself, is_same-refl as same_itself}

abbrev pub one_if : Bool → ℕ
one_if b = if b then 1 else 0

-- a reservation that counts for p counts for exactly one of q and r
abbrev pub IsSplit : (List ℕ → ℕ → Bool) → (List ℕ → ℕ → Bool) → (List ℕ → ℕ → Bool) → Type 0
IsSplit p q r = (s : List ℕ) (g : ℕ) → one_if (p s g) ≡ one_if (q s g) + one_if (r s g)

split_cases : (p q r b : Bool) (a : ℕ) → one_if p ≡ one_if q + one_if r →
    (if p && b then a else 0) ≡ (if q && b then a else 0) + (if r && b then a else 0)
split_cases p q r b a h = grind (arith, nat_tests)

split_and : (p q r b : Bool) → one_if p ≡ one_if q + one_if r →
    one_if (p && b) ≡ one_if (q && b) + one_if (r && b)
split_and p q r b h = grind (arith, nat_tests)

hold_split : (p q r : List ℕ → ℕ → Bool) (n : ℕ) (f : Fact) → IsSplit p q r →
    hold_of p n f ≡ hold_of q n f + hold_of r n f
hold_split p q r n f h = at (counts f).hold
  where
    at : (o : Option HoldOf) →
        number_of (holds_by p n) o ≡ number_of (holds_by q n) o + number_of (holds_by r n) o
    at None = refl
    at (Some x) =
        split_cases (p x.session x.group) (q x.session x.group) (r x.session x.group)
        (x.bucket == n) x.amount (h x.session x.group)

before_split : (p q r : List ℕ → ℕ → Bool) (f : Fact) → IsSplit p q r →
    IsSplit (counts_before f p) (counts_before f q) (counts_before f r)
before_split p q r f h = at (counts f).end
  where
    at : (o : Option EndOf) → IsSplit (but_ended o p) (but_ended o q) (but_ended o r)
    at None = h
    at (Some e) = λ s g. split_and (p s g) (q s g) (r s g) (not (ends_of s g e)) (h s g)

pub held_split : (p q r : List ℕ → ℕ → Bool) (n : ℕ) (ledger : Ledger) → IsSplit p q r →
    held p n ledger ≡ held q n ledger + held r n ledger
held_split p q r n [] h = refl
held_split p q r n (d ∷ older) h =
    let now : hold_of p n d.fact ≡ hold_of q n d.fact + hold_of r n d.fact =
    hold_split p q r n d.fact h in
    let rest : held (counts_before d.fact p) n older ≡ held (counts_before d.fact q) n older
    + held (counts_before d.fact r) n older =
    held_split (counts_before d.fact p) (counts_before d.fact q) (counts_before d.fact r) n
    older (before_split p q r d.fact h) in
    omega arith

-- those that count for p, and of them those that count for q
pub split_by : (p q : List ℕ → ℕ → Bool) →
    IsSplit p (λ s g. p s g && q s g) (λ s g. p s g && not (q s g))
split_by p q s g = one (p s g) (q s g)
  where
    one : (a b : Bool) → one_if a ≡ one_if (a && b) + one_if (a && not b)
    one true true = refl
    one true false = refl
    one false b = refl

-- the same reservations hold the same
pub held_same : (p q : List ℕ → ℕ → Bool) (n : ℕ) (ledger : Ledger) →
    ((s : List ℕ) (g : ℕ) → p s g ≡ q s g) → held p n ledger ≡ held q n ledger
held_same p q n ledger h = let same : p ≡ q = λ i s g. h s g i in ap (λ c. held c n ledger) same

-- where none counts, nothing is held
pub held_none : (p : List ℕ → ℕ → Bool) (n : ℕ) (ledger : Ledger) →
    ((s : List ℕ) (g : ℕ) → p s g ≡ false) → held p n ledger ≡ 0
held_none p n ledger h =
    let twice : IsSplit p p p = λ s g. rw (h s g) refl in
    omega (arith, held_split p p p n ledger twice)

split_one : (l t x : Bool) → (t ≡ true → l ≡ true) →
    one_if l ≡ one_if (l && not (t && x)) + one_if (t && x)
split_one l true true h = rw (h refl) refl
split_one l true false h = rw (h refl) refl
split_one true false x h = refl
split_one false false x h = refl

-- what is in one is split off
pub split_less : (p q : Bool) → (q ≡ true → p ≡ true) → one_if p ≡ one_if q + one_if (p && not q)
split_less p true h = rw (h refl) refl
split_less true false h = refl
split_less false false h = refl

-- a live session's reservations, and one of them
pub one_split : (live : List ℕ → Bool) (session : List ℕ) (group : ℕ) → live session ≡ true →
    IsSplit (λ s g. live s) (λ s g. live s && not (is_same s session && g == group))
    (only session group)
one_split live session group h s g =
    split_one (live s) (is_same s session) (g == group) (λ e. ap live (equal_names s session e) ∙ h)

-- ---- names of sessions

pub same_from : (a b : List ℕ) → is_same a b ≡ true → a ≡ b
same_from a b h = equal_names a b h
