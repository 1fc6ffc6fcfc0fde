-- How many bytes a line can have.
use Rattle.std.proofs.Common.{◌≡◌, ◌<◌, ◌+◌, ◌∷◌, ◌++◌, [], ℕ, List, length, arith, ◌∙◌, ap}
use Rattle.std.proofs.lemmas.List.{length-append}
use Rattle.std.specs.Prelude.{Vec}
use Rattle.std.specs.Global.{Global}

-- a vector of bytes has fewer than all that are counted
pub few_bytes : (line : Vec ℕ Global) → length line.items < 18446744073709551615
few_bytes line =
    let small : line.cap < 9223372036854775808 = line.small in
    omega (arith, line.ok.0, line.ok.1, small)

-- a byte more is one more
pub one_more : (taken more : List ℕ) (b n : ℕ) → more ≡ taken ++ b ∷ [] → length taken ≡ n →
    length more ≡ n + 1
one_more taken more b n is known = ap length is ∙ length-append taken (b ∷ []) ∙ ap (λ k. k + 1) known
