-- A line, byte by byte.
use Rattle.std.proofs.Common.{◌≡◌, ℕ, List, [], ◌∷◌, ◌++◌, false, refl, sym, ap, ◌∙◌, append_assoc}
use Rattle.std.proofs.Common.{Option, Some, None, IfSome}
use Rattle.std.specs.Prelude.{◌==◌, if◌then◌else◌}
use Rattle.std.specs.Io.KnownBytes.{Consumes}
use Rattle.texts.specs.Lines.{line_of, after_line}

-- the taken bytes begin the stream's first line, and this is the rest of the stream
pub record Begins (taken rest stream : List ℕ) : Type 0 where
  pub whole : stream ≡ taken ++ rest
  pub line : (xs : List ℕ) → line_of (taken ++ xs) ≡ taken ++ line_of xs
  pub after : (xs : List ℕ) → after_line (taken ++ xs) ≡ after_line xs

begins_more : (taken rest stream : List ℕ) (b : ℕ) → (b == 10) ≡ false →
    Begins taken (b ∷ rest) stream → Begins (taken ++ b ∷ []) rest stream
begins_more taken rest stream b h k = record {
  whole = k.whole ∙ sym (append_assoc taken (b ∷ []) rest);
  line = λ xs. ap line_of (append_assoc taken (b ∷ []) xs)
      ∙ k.line (b ∷ xs)
      ∙ ap (λ t. taken ++ (if t then [] else b ∷ line_of xs)) h
      ∙ sym (append_assoc taken (b ∷ []) (line_of xs));
  after = λ xs. ap after_line (append_assoc taken (b ∷ []) xs)
      ∙ k.after (b ∷ xs)
      ∙ ap (λ t. if t then xs else after_line xs) h;
}

-- one byte more is taken
-- rule: lines
pub goes_on : (old mid new : Option (List ℕ)) (taken more : List ℕ) (b : ℕ) → (b == 10) ≡ false →
    more ≡ taken ++ b ∷ [] → Consumes mid new (b ∷ []) →
    IfSome old (λ stream. (rest : List ℕ) × (mid ≡ Some rest) × Begins taken rest stream) →
    IfSome old (λ stream. (rest : List ℕ) × (new ≡ Some rest) × Begins more rest stream)
goes_on None mid new taken more b h e q known = tt
goes_on (Some stream) None new taken more b h e q known =
    absurd (let no : None ≡ Some known.0 = known.1 in cc)
goes_on (Some stream) (Some xs) None taken more b h e q known = absurd q
goes_on (Some stream) (Some xs) (Some ys) taken more b h e q known =
    let same : xs ≡ known.0 = (let k : Some xs ≡ Some known.0 = known.1 in cc) in
    let begins : Begins taken (b ∷ ys) stream = rw (sym same ∙ q) at known.2 in
    (ys, refl, rw e (begins_more taken ys stream b h begins))
