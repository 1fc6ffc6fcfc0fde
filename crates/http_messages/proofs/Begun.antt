-- Beginnings of texts that are written in two parts.
use Rattle.std.proofs.Common.{◌≡◌, ℕ, ◌+◌, List, [], ◌∷◌, ◌++◌, length, take, refl, sym, ap}
use Rattle.std.proofs.Common.{subst, zero, suc}
use Rattle.std.specs.Prelude.{Option, Result, Ok, Err, OnErr}
use Rattle.std.specs.Io.KnownBytes.{Appends}
use Rattle.std.proofs.KnownBytes.{Appends-trans}
use Rattle.std.proofs.Math.Seq.{take-append-add}
pub use Rattle.std.proofs.lemmas.Result.{on_err_weaker as err_gives}
use Rattle.http_messages.specs.Texts.{AppendsBeginning}

pub at_err : {A E P : Type 0} (r : Result A E) → P → OnErr r P
at_err (Ok x) h = tt
at_err (Err e) h = h

-- a beginning of a text begins the text with more after it
take_first : (n : ℕ) (text more : List ℕ) → (m : ℕ) × (take m (text ++ more) ≡ take n text)
take_first zero text more = (0, refl)
take_first (suc n) [] more = (0, refl)
take_first (suc n) (x ∷ xs) more =
    let rest = take_first n xs more in
    (suc rest.0, ap (λ l. x ∷ l) rest.1)

-- rule: http-answer
pub begun_first : (a b : Option (List ℕ)) (text more : List ℕ) → AppendsBeginning a b text →
    AppendsBeginning a b (text ++ more)
begun_first a b text more h =
    let first = take_first h.0 text more in
    (first.0, subst (Appends a b) (sym first.1) h.1)

-- so do the text and a beginning of what is after it
-- rule: http-answer
pub begun_second : (a b c : Option (List ℕ)) (text more : List ℕ) → Appends a b text →
    AppendsBeginning b c more → AppendsBeginning a c (text ++ more)
begun_second a b c text more h k = (
  length text + k.0,
  subst (Appends a c) (sym (take-append-add text more k.0))
      (Appends-trans a b c text (take k.0 more) h k.1),
)
