use Rattle.std.proofs.Common.{◌≡◌, ℕ, List, Option, Some, None, Bor, option_map, unwrap_or, refl}
use Rattle.http_messages.specs.Texts.{phrase}
use Rattle.http_messages.proofs.text.phrase.Goals as goal

behind : (r : Option (Bor (List ℕ))) (d : Bor (List ℕ)) →
    (unwrap_or r d).now ≡ unwrap_or (option_map (λ s. s.now) r) d.now
behind None d = refl
behind (Some s) d = refl

pub returns : goal.returns
unfolding phrase
returns c = rw (c.unwrap_or.ensures, ← c.canonical_reason.ensures.value)
    (behind c.canonical_reason.result _)
