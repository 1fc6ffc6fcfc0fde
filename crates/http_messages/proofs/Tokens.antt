-- The method of a head is a token to the library of methods too.
use Rattle.std.proofs.Common.{◌≡◌, ℕ, List, refl, sym, subst}
use Rattle.std.specs.Prelude.{IsTrue}
use Rattle.std.proofs.lemmas.List.Elements.{All-weaker}
use Rattle.httparse.specs.Grammar.{RequestHead, is_token_byte}
use Rattle.httparse.specs.declared.spans.HeaderSpan.{HeaderSpan}
use Rattle.httparse.specs.declared.spans.RequestSpans.{RequestSpans}
use Rattle.httparse.specs.Spans.{IsRequestAt, span_bytes}
use Rattle.http.specs.Token.{IsToken, is_token_byte as is_method_byte}

same_byte : (b : ℕ) → is_token_byte b ≡ is_method_byte b
unfolding is_token_byte is_method_byte
same_byte b = refl

pub method_is_token : (part : List ℕ) (headers : List HeaderSpan) (spans : RequestSpans)
    (head : RequestHead) → IsRequestAt part headers spans head →
    IsToken (span_bytes part spans.method)
method_is_token part headers spans head is = subst IsToken (sym is.method) (
  is.reads.0.method.0,
  All-weaker (λ b. IsTrue (is_token_byte b)) (λ b. IsTrue (is_method_byte b))
      (λ b. subst IsTrue (same_byte b)) head.method is.reads.0.method.1,
)
