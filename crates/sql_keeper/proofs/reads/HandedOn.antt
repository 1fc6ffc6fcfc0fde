-- A value that is handed on, whatever its fault is turned into, or where there is one.
use Rattle.std.proofs.Common.{◌≡◌, sym, subst, Option, Some, None, Ok, Err, IfOk}
use Rattle.std.specs.Prelude.{Result, MatchResult, IsErrAnd}
use Rattle.std.specs.Result.{result_ok}

pub value_handed : {A E F : Type 0} (P : A → Type 0) (Turns : E → F → Type 0)
    (given : Result A E) (got : Result A F)
    → MatchResult given (λ x. got ≡ Ok x) (λ e. IsErrAnd got (Turns e))
    → IfOk given P → IfOk got P
value_handed P Turns (Ok x) got is holds = subst (λ r. IfOk r P) (sym is) holds
value_handed P Turns (Err e) (Ok y) is holds = absurd is
value_handed P Turns (Err e) (Err f) is holds = tt

-- what is said of a result's value is said of it where there is one
pub value_taken : {A E : Type 0} {P : A → Type 0} (Q : Option A → Type 0) (r : Result A E)
    (o : Option A)
    → o ≡ result_ok r → IfOk r P → Q None → ((x : A) → P x → Q (Some x)) → Q o
value_taken Q (Ok x) o e h none some = subst Q (sym e) (some x h)
value_taken Q (Err y) o e h none some = subst Q (sym e) none
