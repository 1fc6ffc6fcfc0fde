-- A reply has one of the statuses of answers.
use Rattle.std.proofs.Common.{◌≡◌, ℕ, Bool, true, false, List, refl, sym, subst, inl, inr, Option}
use Rattle.std.proofs.Common.{Some, None, Result, Ok, Err}
use Rattle.std.specs.Prelude.{if◌then◌else◌, ⊤}
use Rattle.commands.specs.declared.command.Command.{Command}
use Rattle.json_fields.specs.declared.fault.WireFault.{WireFault}
use Rattle.shelves.specs.Shelves.{Shelf}
use Rattle.charging.specs.Accepted.{Accepted}
use Rattle.http_messages.specs.Statuses.{IsAnswerStatus, method_not_allowed}
use Rattle.http_messages.specs.Requests.{Ask}
use Rattle.http_messages.specs.Asking.{Asking, refuses, reads, states}
use Rattle.http_messages.specs.MessageParts.{stated}
use Rattle.http_messages.specs.Routes.{asking_by}
use Rattle.http_messages.specs.MessageParts.{statement_in}
use Rattle.http_messages.specs.Table.{asked_of, route_of}
use Rattle.http_messages.specs.MessageParts.{asked_by, serves}
use Rattle.http_messages.specs.declared.asking.StatementAsked.{StatementAsked}
use Rattle.http_messages.specs.declared.routes.Route.{Route}
use Rattle.http_messages.specs.declared.routes.Route.TheVariants.{Ccr, Account, Statement, Credits}
use Rattle.http_messages.specs.declared.routes.Route.TheVariants.{Allowances, Redeem, Sweep}
use Rattle.http_api.specs.Replies.{Reply, IsReply}
use Rattle.http_api.specs.ReplyParts.{reply_at, statement_at}

-- ---- what a request asks

-- a refusal has one of them
abbrev pub SaysStatus : Asking → Type 0
SaysStatus (refuses status) = IsAnswerStatus status
SaysStatus (reads read) = ⊤
SaysStatus (states asked) = ⊤

stated_says : (read : Result StatementAsked WireFault) → SaysStatus (stated read)
stated_says (Ok q) = tt
stated_says (Err fault) = tt

by_says : (route : Route) (method target body : List ℕ) →
    SaysStatus (asking_by route method target body)
by_says Ccr method target body = tt
by_says Account method target body = tt
by_says Statement method target body = stated_says (statement_in target)
by_says Credits method target body = tt
by_says Allowances method target body = tt
by_says Redeem method target body = tt
by_says Sweep method target body = tt

served_or : (b : Bool) (asking : Asking) → SaysStatus asking →
    SaysStatus (if b then asking else refuses method_not_allowed)
served_or true asking says = says
served_or false asking says = refl

row_says : (row : Option Route) (ask : Ask) → SaysStatus (asked_by row ask)
row_says None ask = refl
row_says (Some route) ask =
    served_or (serves route ask.method) (asking_by route ask.method ask.target ask.body)
    (by_says route ask.method ask.target ask.body)

pub asked_says : (ask : Ask) → SaysStatus (asked_of ask)
asked_says ask = row_says (route_of ask.target) ask

-- ---- the reply

served_at : (b : Shelf) (list : List Accepted) (c : Command) (m : Option ℕ) →
    IsAnswerStatus (reply_at b list c m).status
served_at b list c None = refl
served_at b list c (Some t) = refl

stated_at : (b : Shelf) (list : List Accepted) (q : StatementAsked) (m : Option ℕ) →
    IsAnswerStatus (statement_at b list q m).status
stated_at b list q None = refl
stated_at b list q (Some t) = refl

told_as : (reply given : Reply) → reply ≡ given → IsAnswerStatus given.status →
    IsAnswerStatus reply.status
told_as reply given same is = subst (λ r. IsAnswerStatus r.status) (sym same) is

pub reply_says : (b : Shelf) (list : List Accepted) (asking : Asking) (moments : List (Option ℕ))
    (reply : Reply) → SaysStatus asking → IsReply b list asking moments reply →
    IsAnswerStatus reply.status
reply_says b list (refuses status) moments reply says h = told_as reply _ h.1 says
reply_says b list (reads read) moments reply says (inr h) = told_as reply _ h.1 refl
reply_says b list (reads (Err fault)) moments reply says (inl h) = told_as reply _ h.1 refl
reply_says b list (reads (Ok c)) moments reply says (inl h) =
    told_as reply _ h.2 (served_at b list c h.0)
reply_says b list (states q) moments reply says (inr h) = told_as reply _ h.1 refl
reply_says b list (states q) moments reply says (inl h) =
    told_as reply _ h.2 (stated_at b list q h.0)
