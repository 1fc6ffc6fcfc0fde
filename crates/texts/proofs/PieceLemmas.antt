-- A part, piece by piece.
use Rattle.std.proofs.Common.{◌≡◌, ◌+◌, ℕ, List, ◌++◌, length, refl, sym, ap, ◌∙◌, append_assoc}
use Rattle.std.proofs.Common.{length-append, Option, Some, None, IfSome}
use Rattle.std.specs.Io.KnownBytes.{Consumes}
use Rattle.texts.specs.Parts.{TakesPiece}

-- a piece more is taken
pub piece_more : (old mid new : Option (List ℕ)) (before piece after : List ℕ) →
    after ≡ before ++ piece → Consumes mid new piece →
    IfSome old (λ stream. (rest : List ℕ) × (mid ≡ Some rest) × (stream ≡ before ++ rest)) →
    IfSome old (λ stream. (rest : List ℕ) × (new ≡ Some rest) × (stream ≡ after ++ rest))
piece_more None mid new before piece after e q known = tt
piece_more (Some stream) None new before piece after e q known =
    absurd (let no : None ≡ Some known.0 = known.1 in cc)
piece_more (Some stream) (Some xs) None before piece after e q known = absurd q
piece_more (Some stream) (Some xs) (Some ys) before piece after e q known =
    let same : xs ≡ known.0 = (let k : Some xs ≡ Some known.0 = known.1 in cc) in (
      ys,
      refl,
      known.2
          ∙ ap (λ r. before ++ r) (sym same ∙ q)
          ∙ sym (append_assoc before piece ys)
          ∙ ap (λ l. l ++ ys) (sym e),
    )

-- the part is longer by the piece
pub piece_length : (stop : Option ℕ) (most : ℕ) (before after : List ℕ)
    (old left : Option (List ℕ)) (count : ℕ) →
    TakesPiece stop most before after old left count → length after ≡ length before + count
piece_length stop most before after old left count takes =
    ap length takes.part
    ∙ length-append before takes.piece
    ∙ ap (λ n. length before + n) takes.counted
