-- A store fault that is counted.
use Rattle.std.proofs.Common.{◌≡◌, ℕ, ◌+◌, ◌≤◌, Bool, true, false, sym, subst, arith}
use Rattle.std.specs.Prelude.{Result, min}
use Rattle.std.proofs.Math.Nat.{le-min}
use Rattle.keepers.specs.declared.fault.StoreFault.{StoreFault}
use Rattle.keepers.specs.Faults.{HasCause, max_failures}
use Rattle.keepers.specs.Failing.{failure_total}

raised : {T : Type 0} (n : ℕ) (result : Result T StoreFault) → n ≤ max_failures →
    HasCause n (min (n + 1) max_failures) result
raised n result h = record { kept = le-min (omega arith) h; cause = λ _. omega arith }

pub raised_cause : {T : Type 0} (n m : ℕ) (a b : Bool) (result : Result T StoreFault) →
    n ≤ max_failures → m ≡ n → a ≡ false → b ≡ true →
    HasCause (failure_total n a) (failure_total m b) result
raised_cause n m a b result h same was is =
    subst (λ k. HasCause (failure_total n a) (failure_total k b) result) (sym same)
    (subst (λ x. HasCause (failure_total n x) (failure_total n b) result) (sym was)
    (subst (λ x. HasCause n (failure_total n x) result) (sym is) (raised n result h)))
