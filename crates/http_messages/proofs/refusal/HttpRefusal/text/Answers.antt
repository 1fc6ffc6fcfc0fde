use Rattle.std.proofs.Common.{ap, sym, false}
use Rattle.std.specs.Fmt.{digits}
use Rattle.http_messages.specs.Refusals.{refusal_status}
use Rattle.http_messages.specs.Texts.{phrase, response, no_members}
use Rattle.http_messages.specs.declared.refusal.HttpRefusal.{HttpRefusal}
use Rattle.http_messages.proofs.refusal.HttpRefusal.text.Goals as goal

pub returns-in-BadRequest : goal.returns-in-BadRequest
unfolding digits phrase
returns-in-BadRequest c =
    ap (λ (r : HttpRefusal). response (refusal_status r) false no_members) (sym c.in-BadRequest.is)

pub returns-in-NotFound : goal.returns-in-NotFound
unfolding digits phrase
returns-in-NotFound c =
    ap (λ (r : HttpRefusal). response (refusal_status r) false no_members) (sym c.in-NotFound.is)

pub returns-in-MethodNotAllowed : goal.returns-in-MethodNotAllowed
unfolding digits phrase
returns-in-MethodNotAllowed c =
    ap (λ (r : HttpRefusal). response (refusal_status r) false no_members)
    (sym c.in-MethodNotAllowed.is)

pub returns-in-LengthRequired : goal.returns-in-LengthRequired
unfolding digits phrase
returns-in-LengthRequired c =
    ap (λ (r : HttpRefusal). response (refusal_status r) false no_members)
    (sym c.in-LengthRequired.is)

pub returns-in-PayloadTooLarge : goal.returns-in-PayloadTooLarge
unfolding digits phrase
returns-in-PayloadTooLarge c =
    ap (λ (r : HttpRefusal). response (refusal_status r) false no_members)
    (sym c.in-PayloadTooLarge.is)

pub returns-in-FieldsTooLarge : goal.returns-in-FieldsTooLarge
unfolding digits phrase
returns-in-FieldsTooLarge c =
    ap (λ (r : HttpRefusal). response (refusal_status r) false no_members)
    (sym c.in-FieldsTooLarge.is)

pub returns-in-NotImplemented : goal.returns-in-NotImplemented
unfolding digits phrase
returns-in-NotImplemented c =
    ap (λ (r : HttpRefusal). response (refusal_status r) false no_members)
    (sym c.in-NotImplemented.is)
