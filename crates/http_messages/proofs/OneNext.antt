-- A stream has one next: a head part is one head at most.
use Rattle.std.proofs.Common.{◌≡◌, [], sym, ap, ◌∙◌, inl, inr}
use Rattle.httparse.proofs.GrammarLemmas.{request_unique}
use Rattle.http_messages.specs.Parts.{Part, whole, cut, too_long, first_part}
use Rattle.http_messages.specs.Requests.{Next, after_head}
use Rattle.http_messages.specs.MessageParts.{IsNextOf}
use Rattle.http_messages.specs.Shortest.{NextIsOne}

one_next : (part : Part) (a b : Next) → IsNextOf part a → IsNextOf part b → a ≡ b
one_next (whole part rest) a b (inl x) (inl y) =
    x.2 ∙ ap (λ head. after_head head rest) (request_unique part x.0 y.0 [] [] x.1 y.1).0
    ∙ sym y.2
one_next (whole part rest) a b (inl x) (inr y) = absurd (y.0 x.0 x.1)
one_next (whole part rest) a b (inr x) (inl y) = absurd (x.0 y.0 y.1)
one_next (whole part rest) a b (inr x) (inr y) = x.1 ∙ sym y.1
one_next too_long a b x y = x ∙ sym y
one_next cut a b x y = x ∙ sym y

-- rule: http-head.next-is-one
pub next_is_one : NextIsOne
next_is_one stream a b x y = one_next (first_part stream) a b x y
