-- What a reader answers where reading gives a value: that value, or lack of memory.
use Rattle.std.proofs.Common.{◌≡◌, Result, Ok, Err, IfOk, IfErr, refl, sym, ap, arith}
use Rattle.std.specs.Result.{result_ok}
use Rattle.std.proofs.lemmas.Option.{none-some, same_Some}
use Rattle.tariffs.specs.declared.fault.BookFault.{BookFault}
use Rattle.tariffs.specs.declared.fault.BookFault.TheVariants.{NotToml, Missing, WrongKind}
use Rattle.tariffs.specs.declared.fault.BookFault.TheVariants.{OutOfRange, UnknownPeriod}
use Rattle.tariffs.specs.declared.fault.BookFault.TheVariants.{WeekNotCovered, TiersNotRising}
use Rattle.tariffs.specs.declared.fault.BookFault.TheVariants.{TooMany, Memory}
use Rattle.tariffs.specs.Faults.{Gives, book_fault_number}

pub is_answered : {A : Type 0} (r : Result A BookFault) (x : A) → Gives (λ y. y) r (Ok x) →
    IfOk r (λ y. y ≡ x)
is_answered (Ok y) x h = sym (same_Some _ _ (ap result_ok h))
is_answered (Err fault) x h = tt

no_fault : {A : Type 0} (fault : BookFault) (x : A) → (book_fault_number fault ≡ 9 → ⊥) →
    Gives (λ y. y) (Err fault) (Ok x) → ⊥
no_fault fault x other h = none-some _ (sym (ap result_ok (h (λ e. other
    (ap book_fault_number e)))))

pub is_memory : {A : Type 0} (r : Result A BookFault) (x : A) → Gives (λ y. y) r (Ok x) →
    IfErr r (λ fault. fault ≡ Memory)
is_memory (Ok y) x h = tt
is_memory (Err Memory) x h = refl
is_memory (Err NotToml) x h = absurd (no_fault NotToml x (λ e. omega (arith, e)) h)
is_memory (Err Missing) x h = absurd (no_fault Missing x (λ e. omega (arith, e)) h)
is_memory (Err WrongKind) x h = absurd (no_fault WrongKind x (λ e. omega (arith, e)) h)
is_memory (Err OutOfRange) x h = absurd (no_fault OutOfRange x (λ e. omega (arith, e)) h)
is_memory (Err UnknownPeriod) x h = absurd (no_fault UnknownPeriod x (λ e. omega (arith, e)) h)
is_memory (Err WeekNotCovered) x h = absurd (no_fault WeekNotCovered x (λ e. omega (arith, e)) h)
is_memory (Err TiersNotRising) x h = absurd (no_fault TiersNotRising x (λ e. omega (arith, e)) h)
is_memory (Err TooMany) x h = absurd (no_fault TooMany x (λ e. omega (arith, e)) h)
