-- A head, a request and what comes next in a stream, as code gives them.
use Rattle.std.specs.Prelude.{◌≡◌, Option, Some, None, string_bytes}
use Rattle.texts.specs.StreamWords.{Bytes}
use Rattle.httparse.specs.Grammar.{RequestHead}
use Rattle.http_messages.specs.declared.head.HttpHead.{HttpHead}
use Rattle.http_messages.specs.declared.requests.HttpRequest.{HttpRequest}
use Rattle.http_messages.specs.declared.requests.Taken.{Taken}
use Rattle.http_messages.specs.declared.requests.Taken.TheVariants as taken
use Rattle.http_messages.specs.Parts.{Part}
use Rattle.http_messages.specs.Statuses.{IsAnswerStatus}
use Rattle.http_messages.specs.Fields.{closes}
use Rattle.http_messages.specs.Requests.{Ask, Next, asks, refused, ended}
use Rattle.http_messages.specs.MessageParts.{IsHead, IsNextOf, fields_of, length_of}

pub record IsHeadOf (head : RequestHead) (told : HttpHead) : Type 0 where
  pub method : told.method ≡ head.method
  pub target : string_bytes told.target ≡ head.target
  pub length : told.length ≡ length_of head
  pub closes : told.closes ≡ closes head.minor (fields_of head)

-- the head that a head part is, or that it is none
abbrev pub IsHeadIn : Bytes → Option HttpHead → Type 0
IsHeadIn part (Some told) = (head : RequestHead) × IsHead part head × IsHeadOf head told
IsHeadIn part None = (head : RequestHead) → ¬ (IsHead part head)

pub record IsRequestGiven (ask : Ask) (told : HttpRequest) : Type 0 where
  pub method : told.method ≡ ask.method
  pub target : string_bytes told.target ≡ ask.target
  pub closes : told.closes ≡ ask.closes
  pub body : told.body.items ≡ ask.body

abbrev pub IsNextTaken : Next → Taken → Option Bytes → Type 0
IsNextTaken (asks ask rest) (taken.Request told) left = IsRequestGiven ask told × (left ≡ Some rest)
IsNextTaken (asks ask rest) (taken.Refused status) left = ⊥
IsNextTaken (asks ask rest) taken.Ended left = ⊥
IsNextTaken (refused status) (taken.Request told) left = ⊥
IsNextTaken (refused status) (taken.Refused told) left = told ≡ status
IsNextTaken (refused status) taken.Ended left = ⊥
IsNextTaken ended (taken.Request told) left = ⊥
IsNextTaken ended (taken.Refused status) left = ⊥
IsNextTaken ended taken.Ended left = Unit {0}

-- the request that the part begins is given, and what follows it is left
pub record TellsNext (part : Part) (told : Taken) (left : Option Bytes) : Type 0 where
  pub next : Next
  pub is_next : IsNextOf part next
  pub tells : IsNextTaken next told left

-- a refusal says one of the statuses of answers
abbrev pub SaysStatus : Taken → Type 0
SaysStatus (taken.Request told) = Unit {0}
SaysStatus (taken.Refused status) = IsAnswerStatus status
SaysStatus taken.Ended = Unit {0}

-- a request as it is given
abbrev pub seen : HttpRequest → Ask
seen told = record {
  method = told.method;
  target = string_bytes told.target;
  closes = told.closes;
  body = told.body.items;
}
