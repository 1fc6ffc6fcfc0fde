-- Lists that are read in the order of their keys: where each row is in its rules, none is refused.
use Rattle.std.proofs.Common.{◌≡◌, inl, inr, ℕ, pos, List, [], ◌∷◌, map, Bool, true}
use Rattle.std.proofs.Common.{false, cond, Ordering, Less, Equal, Greater, is_eq, refl, sym, ap, subst}
use Rattle.std.proofs.Common.{◌∙◌, ◌&&◌, ◌||◌, ◌⊎◌, arith, nat_eq, nat_lt}
use Rattle.std.specs.List.{AllByRecursion}
use Rattle.std.specs.Cmp.Lexicographic.{slice_cmp}
use Rattle.std.specs.Ordering.{is_lt, nat_cmp, ordering_then}
use Rattle.std.proofs.lemmas.Bool.{and_from, and_parts}
use Rattle.std.proofs.lemmas.Bool.Decides.{nat_tests}
use Rattle.std.proofs.lemmas.Cmp.{tied_itself}
use Rattle.sqlite_value.specs.declared.value.Value.{Value}
use Rattle.sqlite_value.specs.declared.value.Value.TheVariants.{Text}
use Rattle.sqlite_value.specs.Order.{Row, value_cmp}
use Rattle.sqlite_value.proofs.OrderLemmas.{then-Equal, value_cmp_total, value_cmp-Int}
use Rattle.sqlite_value.proofs.OrderLemmas.{value_cmp-Text}
use Rattle.sqlite_rules.specs.Lists.{Has}
use Rattle.sql_tables.proofs.Keys.{int_tie}
use Rattle.sql_tables.proofs.Ties.{tie_parts}
use Rattle.sql_rows.specs.Lists.{Ascends, Rises}
use Rattle.sql_rows.specs.Values.{nat}
use Rattle.sql_rows.proofs.rules.OrderedRows.{DoFollow}
use Rattle.sql_rows.proofs.rules.RowRules.{IsRowOf, listed}

-- ---- numbers as keys

-- a number ties with itself
pub tie_own : (v : Value) (m : ℕ) → v ≡ nat m → is_eq (value_cmp (nat m) v) ≡ true
tie_own v m is =
    ap (λ w. is_eq (value_cmp (nat m) w)) is ∙ ap is_eq (tied_itself value_cmp_total (nat m))

-- what ties in the last column of the order ties
pub tie_last : (v w : Value) (m : ℕ) → v ≡ nat m
    → is_eq (ordering_then (value_cmp v w) Equal) ≡ true → is_eq (value_cmp (nat m) w) ≡ true
tie_last v w m is tie =
    ap (λ x. is_eq (value_cmp x w)) (sym is) ∙ ap is_eq (sym (then-Equal (value_cmp v w))) ∙ tie

lower : (b c : Bool) → cond b Less (cond c Greater Equal) ≡ Less → b ≡ true
lower true c e = refl
lower false true e = absurd (cc e)
lower false false e = absurd (cc e)

pub int_less : (m n : ℕ) → value_cmp (nat m) (nat n) ≡ Less → nat_lt m n ≡ true
int_less m n less = lower (nat_lt m n) (nat_lt n m) (sym (value_cmp-Int (pos m) (pos n)) ∙ less)

-- what is lower in the last column of the order is lower
pub less_last : (v w : Value) (m n : ℕ) → nat m ≡ v → nat n ≡ w
    → ordering_then (value_cmp v w) Equal ≡ Less → nat_lt m n ≡ true
less_last v w m n one two less =
    int_less m n (ap (λ x. value_cmp x (nat n)) one ∙ ap (value_cmp v) two
    ∙ sym (then-Equal (value_cmp v w)) ∙ less)

-- so it is of names
pub tie_own_name : (v : Value) (s : List ℕ) → v ≡ Text s → is_eq (value_cmp (Text s) v) ≡ true
tie_own_name v s is =
    ap (λ w. is_eq (value_cmp (Text s) w)) is ∙ ap is_eq (tied_itself value_cmp_total (Text s))

pub tie_last_name : (v w : Value) (s : List ℕ) → v ≡ Text s
    → is_eq (ordering_then (value_cmp v w) Equal) ≡ true → is_eq (value_cmp (Text s) w) ≡ true
tie_last_name v w s is tie =
    ap (λ x. is_eq (value_cmp x w)) (sym is) ∙ ap is_eq (sym (then-Equal (value_cmp v w))) ∙ tie

pub less_last_name : (v w : Value) (s t : List ℕ) → Text s ≡ v → Text t ≡ w
    → ordering_then (value_cmp v w) Equal ≡ Less → is_lt (slice_cmp nat_cmp s t) ≡ true
less_last_name v w s t one two less =
    ap is_lt (sym (value_cmp-Text s t) ∙ ap (λ x. value_cmp x (Text t)) one ∙ ap (value_cmp v) two
    ∙ sym (then-Equal (value_cmp v w)) ∙ less)

-- two columns that tie tie each
pub tie_both : (v w x y : Value) (m n : ℕ) → v ≡ nat m → x ≡ nat n
    → is_eq (ordering_then (value_cmp v w) (ordering_then (value_cmp x y) Equal)) ≡ true
    → (is_eq (value_cmp (nat m) w) && is_eq (value_cmp (nat n) y)) ≡ true
tie_both v w x y m n one two tie =
    let parts = and_parts (is_eq (value_cmp v w)) (is_eq (ordering_then (value_cmp x y) Equal))
    (tie_parts (value_cmp v w) (ordering_then (value_cmp x y) Equal) ∙ tie) in
    and_from _ _ (ap (λ z. is_eq (value_cmp z w)) (sym one) ∙ parts.0)
    (tie_last x y n two parts.1)

first_less : (o p : Ordering) → ordering_then o p ≡ Less →
    (o ≡ Less) ⊎ ((o ≡ Equal) × (p ≡ Less))
first_less Less p e = inl refl
first_less Equal p e = inr (refl, e)
first_less Greater p e = absurd (cc e)

-- what is lower in two columns of the order is lower in the first, or as low there and lower in the
-- second
pub less_both : (v w x y : Value) (m n k l : ℕ) → nat m ≡ v → nat n ≡ w → nat k ≡ x → nat l ≡ y
    → ordering_then (value_cmp v w) (ordering_then (value_cmp x y) Equal) ≡ Less
    → (nat_lt m n || (nat_eq m n && nat_lt k l)) ≡ true
less_both v w x y m n k l one two three four less =
    let same : value_cmp (nat m) (nat n) ≡ value_cmp v w =
    ap (λ z. value_cmp z (nat n)) one ∙ ap (value_cmp v) two in
    elim (first_less (value_cmp v w) (ordering_then (value_cmp x y) Equal) less) [
      | inl lower ↦ ap (λ b. b || (nat_eq m n && nat_lt k l)) (int_less m n (same ∙ lower))
      | inr both ↦
          let as_low : nat_eq n m ≡ true = sym (int_tie n m) ∙ ap is_eq (same ∙ both.0) in
          let equal : nat_eq m n ≡ true = grind (arith, nat_tests, as_low) in
          or_second (nat_lt m n) (nat_eq m n && nat_lt k l)
          (and_from _ _ equal (less_last x y k l three four both.1))
    ]
  where
    or_second : (b c : Bool) → c ≡ true → (b || c) ≡ true
    or_second true c e = refl
    or_second false c e = e

-- ---- lists

-- rows of values are those of these values alone
same_list : {X : Type 0} (cells : X → Row) (of : Row → X) → ((x : X) → of (cells x) ≡ x)
    → (xs ys : List X) → map cells xs ≡ map cells ys → xs ≡ ys
same_list cells of told xs ys same = sym (back xs) ∙ ap (map of) same ∙ back ys
  where
    back : (zs : List _) → map of (map cells zs) ≡ zs
    back [] = refl
    back (z ∷ zs) = λ i. told z i ∷ back zs i

-- values that don't ascend aren't those of rows that do
pub unordered : {X : Type 0} (cells : X → Row) (of : Row → X) → ((x : X) → of (cells x) ≡ x)
    → (before : X → X → Bool) (own : List X) (rows : List Row) → map cells own ≡ rows
    → ¬ Ascends before own → (xs : List X) → rows ≡ map cells xs → ¬ Ascends before xs
unordered cells of told before own rows is falls xs same up =
    falls (subst (Ascends before) (sym (same_list cells of told own xs (is ∙ same))) up)

ascend : {X : Type 0} (cells : X → Row) (before : X → X → Bool) (R : Row → Row → Type 0)
    → ((x y : X) → R (cells x) (cells y) → before x y ≡ true) → (xs : List X)
    → DoFollow R (map cells xs) → Ascends before xs
ascend cells before R less [] follow = tt
ascend cells before R less (x ∷ []) follow = tt
ascend cells before R less (x ∷ y ∷ zs) follow =
    (less x y follow.0, ascend cells before R less (y ∷ zs) follow.1)

all_so : {X : Type 0} (P Q : X → Type 0) → ((x : X) → P x → Q x) → (xs : List X)
    → AllByRecursion P xs → AllByRecursion Q xs
all_so P Q to [] h = tt
all_so P Q to (x ∷ xs) h = (to x h.0, all_so P Q to xs h.1)

-- numbers rise where the rows follow
pub rise : {X : Type 0} (cells : X → Row) (number : X → ℕ) (R : Row → Row → Type 0)
    → ((x y : X) → R (cells x) (cells y) → nat_lt (number x) (number y) ≡ true) → (xs : List X)
    → DoFollow R (map cells xs) → Rises number xs
rise cells number R less [] follow = tt
rise cells number R less (x ∷ []) follow = tt
rise cells number R less (x ∷ y ∷ zs) follow =
    let low = less x y follow.0 in
    (grind (arith, nat_tests, low), rise cells number R less (y ∷ zs) follow.1)

-- what was refused of the rows that were read can't be, where each is in the rules
pub order_refused : {X : Type 0} (cells : X → Row) (InOrder : List X → Type 0)
    (Stands IsRuled : X → Type 0) (R : Row → Row → Type 0) (rows : List Row) → DoFollow R rows
    → ((xs : List X) → DoFollow R (map cells xs) → InOrder xs)
    → ((w : Row) → Has rows w → IsRowOf cells Stands w) → ((x : X) → Stands x → IsRuled x)
    → ((xs : List X) → rows ≡ map cells xs → InOrder xs → ¬ AllByRecursion IsRuled xs)
    → ⊥
order_refused cells InOrder Stands IsRuled R rows follow up each ruled refused =
    let it = listed cells Stands rows each in
    refused it.xs it.are (up it.xs (subst (DoFollow R) it.are follow))
    (all_so Stands IsRuled ruled it.xs it.stand)

-- so it is of rows that ascend
-- rule: statements-of-tables.refused
pub list_refused : {X : Type 0} (cells : X → Row) (before : X → X → Bool)
    (Stands IsRuled : X → Type 0) (R : Row → Row → Type 0) (rows : List Row) → DoFollow R rows
    → ((x y : X) → R (cells x) (cells y) → before x y ≡ true)
    → ((w : Row) → Has rows w → IsRowOf cells Stands w) → ((x : X) → Stands x → IsRuled x)
    → ((xs : List X) → rows ≡ map cells xs → Ascends before xs → ¬ AllByRecursion IsRuled xs)
    → ⊥
list_refused cells before Stands IsRuled R rows follow less each ruled refused =
    order_refused cells (Ascends before) Stands IsRuled R rows follow (ascend cells before R less)
    each ruled refused
