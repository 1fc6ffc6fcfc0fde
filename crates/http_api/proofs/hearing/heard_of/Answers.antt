use Rattle.std.proofs.Common.{refl, subst}
use Rattle.http_messages.specs.RequestsGiven.{IsNextTaken}
use Rattle.http_api.proofs.HeadRefusals.{refused_heard}
use Rattle.http_api.proofs.hearing.heard_of.Goals as goal

pub returns-in-Refused : goal.returns-in-Refused
returns-in-Refused c = λ next left of tells. refused_heard next left c.in-Refused.status
    c.of_head.result _ c.of_head.ensures refl refl of
    (subst (λ t. IsNextTaken next t left) c.in-Refused.is tells)
