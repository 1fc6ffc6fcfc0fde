-- A refusal has one of the statuses of answers.
use Rattle.std.proofs.Common.{◌≡◌, ℕ, Bool, true, false, List, [], ◌∷◌, sym, subst, inl, inr, take}
use Rattle.std.proofs.Common.{refl, ◌∙◌, codes, drop, Option, Some, None, Result, Ok, Err}
use Rattle.std.specs.Prelude.{◌||◌, if◌then◌else◌, nat_le, nat_lt, length, IfErr, ⊤}
use Rattle.httparse.specs.Grammar.{RequestHead}
use Rattle.http_messages.specs.declared.head.HttpHead.{HttpHead}
use Rattle.http_messages.specs.Methods.{is_post, is_put}
use Rattle.http_messages.specs.Statuses.{IsAnswerStatus, length_required}
use Rattle.http_messages.specs.Statuses.{payload_too_large}
use Rattle.http_messages.specs.Parts.{Part, whole, too_long, cut}
use Rattle.http_messages.specs.MessageParts.{said_number, taken_length}
use Rattle.http_messages.specs.Fields.{values_of}
use Rattle.http_messages.specs.MessageParts.{length_by, length_unless}
use Rattle.http_messages.specs.Requests.{Next, asks, refused, ended}
use Rattle.http_messages.specs.MessageParts.{IsNextOf}
use Rattle.http_messages.specs.RequestsGiven.{IsHeadOf}
use Rattle.http_messages.specs.MessageParts.{length_of}
use Rattle.http_messages.specs.MessageParts.{fields_of, ask_of, after_length}

-- ---- the length of a body

abbrev Refuses : Result ℕ ℕ → Type 0
Refuses length = IfErr length IsAnswerStatus

taken_or : (b : Bool) (n status : ℕ) → IsAnswerStatus status →
    Refuses (if b then Ok n else Err status)
taken_or true n status is = tt
taken_or false n status is = is

asked_or : (b : Bool) (n status : ℕ) → IsAnswerStatus status →
    Refuses (if b then Err status else Ok n)
asked_or true n status is = is
asked_or false n status is = tt

taken_says : (n : Option ℕ) → Refuses (taken_length n)
taken_says None = refl
taken_says (Some n) = taken_or (nat_le n 65536) n payload_too_large refl

by_says : (method : List ℕ) (values : List (List ℕ)) → Refuses (length_by method values)
by_says method [] =
    asked_or (is_post method || is_put method) 0 length_required refl
by_says method (value ∷ []) = taken_says (said_number value)
by_says method (value ∷ other ∷ more) = refl

unless_says : (codings : List (List ℕ)) (length : Result ℕ ℕ) → Refuses length →
    Refuses (length_unless codings length)
unless_says [] length says = says
unless_says (coding ∷ codings) length says = refl

length_says : (head : RequestHead) → Refuses (length_of head)
length_says head =
    let fields = fields_of head in
    let lengths = values_of (codes "Content-Length") fields in
    unless_says (values_of (codes "Transfer-Encoding") fields) (length_by head.method lengths)
    (by_says head.method lengths)

pub head_says : (said : RequestHead) (told : HttpHead) (status : ℕ) → IsHeadOf said told →
    told.length ≡ Err status → IsAnswerStatus status
head_says said told status is e = subst Refuses (sym is.length ∙ e) (length_says said)

-- ---- what comes next in a stream

abbrev NextSays : Next → Type 0
NextSays (asks ask rest) = ⊤
NextSays (refused status) = IsAnswerStatus status
NextSays ended = ⊤

cut_or : (b : Bool) (next : Next) → NextSays next → NextSays (if b then ended else next)
cut_or true next says = tt
cut_or false next says = says

after_says : (head : RequestHead) (length : Result ℕ ℕ) (rest : List ℕ) → Refuses length →
    NextSays (after_length head length rest)
after_says head (Err status) rest says = says
after_says head (Ok n) rest says =
    cut_or (nat_lt (length rest) n) (asks (ask_of head (take n rest)) (drop n rest)) tt

next_says : (part : Part) (next : Next) → IsNextOf part next → NextSays next
next_says (whole part rest) next (inl h) =
    subst NextSays (sym h.2) (after_says h.0 (length_of h.0) rest (length_says h.0))
next_says (whole part rest) next (inr h) = subst NextSays (sym h.1) refl
next_says too_long next h = subst NextSays (sym h) refl
next_says cut next h = subst NextSays (sym h) tt

pub refused_says : (part : Part) (status : ℕ) → IsNextOf part (refused status) →
    IsAnswerStatus status
refused_says part status h = next_says part (refused status) h
