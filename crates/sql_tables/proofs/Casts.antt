-- Values that a STRICT column takes as they are.
use Rattle.std.proofs.Common.{◌≡◌, ℕ, ℤ, pos, List, Bool, true, false, cond, Some, None, Option}
use Rattle.std.proofs.Common.{refl}
use Rattle.sqlite_value.specs.declared.value.Value.{Value}
use Rattle.sqlite_value.specs.declared.value.Value.TheVariants.{Null, Int, Text}
use Rattle.sqlite_sql.specs.Ops.{unary}
use Rattle.sqlite_schema.specs.declared.schema.Kind.TheVariants.{Integer, Text as TextKind}
use Rattle.sqlite_rules.specs.Cast.{cast}
use Rattle.sqlite.specs.Values.{or_null}

either : (b : Bool) (x : Value) → cond b x x ≡ x
either true x = refl
either false x = refl

pub cast_int : (n : ℤ) → cast Integer (Int n) ≡ Int n
unfolding unary
cast_int n = either _ (Int n)

pub cast_null : cast Integer Null ≡ Null
unfolding unary
cast_null = either _ Null

pub cast_or_null : (o : Option ℕ) →
    cast Integer (or_null (λ n. Int (pos n)) o) ≡ or_null (λ n. Int (pos n)) o
cast_or_null None = cast_null
cast_or_null (Some n) = cast_int (pos n)

pub cast_or_text : {X : Type 0} (f : X → List ℕ) (o : Option X) →
    cast TextKind (or_null (λ x. Text (f x)) o) ≡
    or_null (λ x. Text (f x)) o
unfolding unary
cast_or_text f None = refl
cast_or_text f (Some x) = refl
