-- The money of a refund, from its digits and its exponent.
use Rattle.std.proofs.Common.{◌≡◌, ℕ, ◌<◌, ◌≤◌, ◌&&◌, ℤ, pos, Bool, true, false, Ok, refl, subst}
use Rattle.std.proofs.Common.{arith, rules, le-leb, leb-true, nat_le, lit<, w64}
use Rattle.std.specs.Prelude.{unsigned_abs, ◌+ℤ◌, FitsSigned, option_and_then}
use Rattle.std.proofs.Math.Nat.{one-le-pow, le-mul_of_pos_right}
use Rattle.std.proofs.lemmas.Bool.{and_parts, lt-leb}
use Rattle.serde_json.specs.Data.{Data}
use Rattle.serde_json.specs.Find.{as_number, as_u64}
use Rattle.commands.specs.declared.avp.Avp.{Avp}
use Rattle.commands.specs.declared.avp.Avp.TheVariants as avp
use Rattle.commands.specs.Refunds.{is_refund}
use Rattle.json_fields.specs.declared.fault.WireFault.TheVariants.{Invalid}
use Rattle.json_fields.specs.Gives.{or_fault}
use Rattle.json_fields.specs.Fields.{member_at, number_at}
use Rattle.json_fields.proofs.Kept.{bind_ok, where_ok}
use Rattle.wire_requests.specs.Refunds.{exponent_at, micros_told, money_at}

pub at_least : (d : ℕ) (z : ℤ) → d ≤ micros_told d z
at_least d z = le-mul_of_pos_right d (one-le-pow (unsigned_abs (z +ℤ pos 6)) 10 (lit< tt))

far_by : (d : ℕ) (b : Bool) → nat_le d 1000000000000000 ≡ b → (FitsSigned w64 (pos d) → ⊥) →
    1000000000000000 < d
far_by d true e h =
    let small : d ≤ 1000000000000000 = leb-true d 1000000000000000 e in
    absurd (h (search rules))
far_by d false e h = search (rules, e)

-- digits past 63 bits are too many, whatever the exponent
pub too_many : (d : ℕ) (z : ℤ) → (FitsSigned w64 (pos d) → ⊥) →
    nat_le (micros_told d z) 1000000000000000 ≡ false
too_many d z h =
    let far = far_by d (nat_le d 1000000000000000) refl h in
    lt-leb (micros_told d z) 1000000000000000 (omega (arith, at_least d z, far))

-- a number that is read is within its range
pub number_ok : (a : Avp) (low high : ℕ) (d : Data) (n : ℕ) → number_at a low high d ≡ Ok n →
    nat_le low n ≡ true
unfolding number_at
number_ok a low high d n h =
    let v = bind_ok (member_at a d) _ n h in
    let m = bind_ok (or_fault (Invalid a) (option_and_then as_u64 (as_number v.0))) _ n v.2 in
    let within = where_ok (nat_le low m.0 && nat_le m.0 high) (Invalid a) m.0 n m.2 in
    subst (λ k. nat_le low k ≡ true) within.1
    (and_parts (nat_le low m.0) (nat_le m.0 high) within.0).0

-- what is read is an amount that can be paid back
pub refund_fits : (d : Data) (m c : ℕ) → money_at d ≡ Ok m → c ≤ 999 → is_refund m c ≡ true
unfolding money_at
refund_fits d m c h few =
    let digits = bind_ok (number_at avp.ValueDigits 1 18446744073709551615 d) _ m h in
    let exponent = bind_ok (exponent_at d) _ m digits.2 in
    let test = where_ok (nat_le (micros_told digits.0 exponent.0) 1000000000000000)
    (Invalid avp.ValueDigits) (micros_told digits.0 exponent.0) m exponent.2 in
    let most : nat_le m 1000000000000000 ≡ true =
    subst (λ k. nat_le k 1000000000000000 ≡ true) test.1 test.0 in
    let one : 1 ≤ digits.0 =
    leb-true 1 digits.0 (number_ok avp.ValueDigits 1 18446744073709551615 d digits.0 digits.1) in
    let some : 1 ≤ m =
    subst (λ k. 1 ≤ k) test.1 (omega (arith, one, at_least digits.0 exponent.0)) in
    rw (le-leb 1 m some, most, le-leb c 999 few) refl
