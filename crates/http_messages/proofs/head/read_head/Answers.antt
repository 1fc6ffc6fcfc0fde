use Rattle.std.proofs.Common.{subst, sym}
use Rattle.http.specs.Token.{IsToken}
use Rattle.http_messages.proofs.Tokens.{method_is_token}
use Rattle.http_messages.proofs.head.read_head.Goals as goal

pub returns-in_default-2 : goal.returns-in_default-2
returns-in_default-2 c =
    let none = rw c.in_default-2.is at c.in_ok-method.ensures.none in
    let at = c.in-Some.ensures.head in
    λ head is. none (subst IsToken (sym c.of-2.ensures) (method_is_token _ _ _ _ at.2))
