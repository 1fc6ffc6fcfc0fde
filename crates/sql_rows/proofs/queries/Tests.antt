-- What SQL's tests say of numbers.
use Rattle.std.proofs.Common.{◌≡◌, ℕ, pos, negsuc, Bool, true, false, cond, Less, Equal, Greater}
use Rattle.std.proofs.Common.{Some, refl, sym, ap, ◌∙◌, arith, nat_eq, nat_lt, eqb-true}
use Rattle.std.specs.Prelude.{◌==◌, if◌then◌else◌}
use Rattle.std.specs.Ordering.{is_ge}
use Rattle.std.proofs.lemmas.Bool.Decides.{nat_tests}
use Rattle.sqlite_value.specs.declared.value.Value.{Value}
use Rattle.sqlite_value.specs.declared.value.Value.TheVariants.{Null, Int, Real, Text, Blob}
use Rattle.sqlite_value.specs.declared.keys.Collation.TheVariants.{Binary}
use Rattle.sqlite_value.proofs.OrderLemmas.{value_cmp-Int}
use Rattle.sqlite_sql.specs.Ops.{binary, is_true, from_truth}
use Rattle.sqlite_sql.specs.declared.ops.BinaryOp.TheVariants.{Compare}
use Rattle.sqlite_sql.specs.declared.ops.CompareOp.TheVariants.{Ge}
use Rattle.sqlite_schema.specs.Rules.{equal}
use Rattle.reserving.specs.declared.session.SessionState.{SessionState}
use Rattle.reserving.specs.declared.session.SessionState.TheVariants.{Open, Ended, NeverOpened}
use Rattle.reserving.specs.Sessions.{is_open}
use Rattle.sql_tables.proofs.Keys.{int_tie}
use Rattle.sql_tables.proofs.Steps.{truth_told}
use Rattle.sql_tables.proofs.Ties.{equal_present}
use Rattle.sql_rows.specs.Values.{nat, state_in, state_number}

-- ---- at least one

abbrev pub is_any : Value → Bool
is_any v = is_true (binary (Compare Ge Binary) v (Int (pos 1)))

no_less : (m : ℕ) (p q r : Bool) → nat_lt m 1 ≡ p → nat_lt 1 m ≡ q → nat_lt 0 m ≡ r →
    is_ge (cond p Less (cond q Greater Equal)) ≡ r
no_less m true q true e f g = absurd (grind (arith, nat_tests, e, g))
no_less m true q false e f g = refl
no_less m false true true e f g = refl
no_less m false true false e f g = absurd (grind (arith, nat_tests, f, g))
no_less m false false true e f g = refl
no_less m false false false e f g = absurd (grind (arith, nat_tests, e, g))

pub any_told : (m : ℕ) → is_any (nat m) ≡ nat_lt 0 m
unfolding binary
any_told m =
    ap (λ o. is_true (from_truth (Some (is_ge o)))) (value_cmp-Int (pos m) (pos 1))
    ∙ ap (λ t. is_true (from_truth (Some t)))
    (no_less m (nat_lt m 1) (nat_lt 1 m) (nat_lt 0 m) refl refl refl)
    ∙ truth_told (nat_lt 0 m)

-- ---- nothing

pub none_told : (m : ℕ) → equal Binary (nat m) (nat 0) ≡ nat_eq 0 m
none_told m = equal_present (nat m) (nat 0) refl ∙ int_tie 0 m

-- ---- the state of a session

open_number : (n : ℕ) →
    is_open (if n == 1 then Open else if n == 2 then Ended else NeverOpened) ≡ true → n ≡ 1
open_number n h = go (n == 1) refl
  where
    other : (b : Bool) → is_open (if b then Ended else NeverOpened) ≡ true → ⊥
    other true e = absurd (cc)
    other false e = absurd (cc)

    go : (b : Bool) → (n == 1) ≡ b → n ≡ 1
    go true e = eqb-true n 1 e
    go false e =
        absurd (other (n == 2) (sym (ap (λ b. is_open (if b then Open else if n == 2 then Ended else
        NeverOpened)) e) ∙ h))

pub open_tested : (v : Value) → is_open (state_in v) ≡ true → equal Binary v (nat 1) ≡ true
open_tested (Int (pos n)) h = ap (λ k. equal Binary (nat k) (nat 1)) (open_number n h)
    ∙ equal_present (nat 1) (nat 1) refl ∙ int_tie 1 1
open_tested Null h = absurd (cc)
open_tested (Int (negsuc n)) h = absurd (cc)
open_tested (Real x) h = absurd (cc)
open_tested (Text t) h = absurd (cc)
open_tested (Blob b) h = absurd (cc)

pub tested_open : (s : SessionState) → equal Binary (nat (state_number s)) (nat 1) ≡ true →
    is_open s ≡ true
tested_open Open h = refl
tested_open Ended h =
    absurd (let e : false ≡ true = sym (equal_present (nat 2) (nat 1) refl ∙ int_tie 1 2) ∙ h in cc)
tested_open NeverOpened h =
    absurd (let e : false ≡ true = sym (equal_present (nat 3) (nat 1) refl ∙ int_tie 1 3) ∙
    h in cc)
