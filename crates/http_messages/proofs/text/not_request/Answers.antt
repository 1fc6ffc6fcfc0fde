use Rattle.std.proofs.Common.{ap, sym, List, ℕ, false}
use Rattle.std.specs.Fmt.{digits}
use Rattle.http_messages.specs.Statuses.{bad_request}
use Rattle.http_messages.specs.Texts.{phrase, response}
use Rattle.http_messages.proofs.NotRequest.{not_request_text}
use Rattle.http_messages.proofs.text.not_request.Goals as goal

pub returns : goal.returns
unfolding digits phrase
returns c = ap (λ (body : List ℕ). response bad_request false body) (sym not_request_text)
