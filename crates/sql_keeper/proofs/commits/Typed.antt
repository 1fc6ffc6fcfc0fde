-- What the types keep of the columns of a row.
use Rattle.std.proofs.Common.{◌≡◌, ◌≤◌, ◌<◌, ℕ, Bool, true, false, Option, Some, None, refl, arith}
use Rattle.std.proofs.Common.{nat_le, IfSome}
use Rattle.std.proofs.lemmas.Bool.Decides.{nat_tests}
use Rattle.sqlite.specs.Values.{or_null}
use Rattle.units.specs.Words.{greatest_number, most_days}
use Rattle.reserving.specs.declared.session.SessionState.{SessionState}
use Rattle.reserving.specs.declared.session.SessionState.TheVariants.{Open, Ended, NeverOpened}
use Rattle.sql_rows.specs.Values.{flag_number, nat, state_number}
use Rattle.sql_rules.specs.Columns.{is_in_bounds, is_optional_within}

pub flag_within : (b : Bool) → nat_le (flag_number b) 1 ≡ true
flag_within true = refl
flag_within false = refl

pub state_within : (s : SessionState) → is_in_bounds 1 3 (state_number s) ≡ true
state_within Open = refl
state_within Ended = refl
state_within NeverOpened = refl

-- a rating group has 32 bits
pub scope_within : (o : Option ℕ) → IfSome o (λ n. n < 4_294_967_296)
    → is_optional_within 0 greatest_number (or_null nat o) ≡ true
scope_within None h = refl
scope_within (Some n) h = grind (arith, nat_tests, h)

-- and the days of a voucher are in its terms
pub days_within : (o : Option ℕ) → IfSome o (λ n. (1 ≤ n) × (n ≤ most_days))
    → is_optional_within 1 most_days (or_null nat o) ≡ true
days_within None h = refl
days_within (Some n) h =
    let low = h.0 in
    let high = h.1 in
    grind (arith, nat_tests, low, high)
