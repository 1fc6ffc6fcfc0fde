-- A refusal of a head or of a length has one of their statuses.
use Rattle.std.proofs.Common.{◌≡◌, ◌∙◌, ℕ, Bool, true, false, List, [], ◌∷◌, refl, sym, ap, subst}
use Rattle.std.proofs.Common.{inl, inr, take, drop, codes, Option, Some, None, Result, Ok, Err}
use Rattle.std.proofs.Common.{IfSome}
use Rattle.std.specs.Prelude.{◌||◌, if◌then◌else◌, nat_le, nat_lt, length, IfErr}
use Rattle.httparse.specs.Grammar.{RequestHead}
use Rattle.http_messages.specs.Methods.{is_post, is_put}
use Rattle.http_messages.specs.Statuses.{length_required, payload_too_large}
use Rattle.http_messages.specs.Parts.{Part, whole, too_long, cut, first_part}
use Rattle.http_messages.specs.MessageParts.{said_number, taken_length, length_by, length_unless}
use Rattle.http_messages.specs.Fields.{values_of}
use Rattle.http_messages.specs.Requests.{Next, asks}
use Rattle.http_messages.specs.MessageParts.{length_of, fields_of, ask_of, after_length}
use Rattle.http_messages.specs.Requests.{refused, ended}
use Rattle.http_messages.specs.MessageParts.{IsNextOf}
use Rattle.http_messages.specs.RequestsGiven.{IsNextTaken, TellsNext}
use Rattle.http_messages.specs.declared.requests.Taken.{Taken}
use Rattle.http_messages.specs.declared.requests.Taken.TheVariants as taken
use Rattle.http_messages.specs.declared.asking.HttpAsked.TheVariants as told
use Rattle.http_messages.specs.declared.refusal.HttpRefusal.{HttpRefusal}
use Rattle.http_messages.specs.Asking.{refuses, IsAskingGiven}
use Rattle.http_messages.specs.Refusals.{refusal_status, refusal_of}
use Rattle.http_api.specs.declared.hearing.Heard.{Heard}
use Rattle.http_api.specs.Hearing.{IsOfHead, Hears, HearsNext}

-- it is read back from its status
abbrev IsOne : ℕ → Type 0
IsOne status = refusal_status (refusal_of status) ≡ status

abbrev Refuses : Result ℕ ℕ → Type 0
Refuses length = IfErr length IsOne

taken_or : (b : Bool) (n : ℕ) → Refuses (if b then Ok n else Err payload_too_large)
taken_or true n = tt
taken_or false n = refl

asked_or : (b : Bool) (n : ℕ) → Refuses (if b then Err length_required else Ok n)
asked_or true n = refl
asked_or false n = tt

taken_one : (n : Option ℕ) → Refuses (taken_length n)
taken_one None = refl
taken_one (Some n) = taken_or (nat_le n 65536) n

by_one : (method : List ℕ) (values : List (List ℕ)) → Refuses (length_by method values)
by_one method [] = asked_or (is_post method || is_put method) 0
by_one method (value ∷ []) = taken_one (said_number value)
by_one method (value ∷ other ∷ more) = refl

unless_one : (codings : List (List ℕ)) (length : Result ℕ ℕ) → Refuses length →
    Refuses (length_unless codings length)
unless_one [] length says = says
unless_one (coding ∷ codings) length says = refl

length_one : (head : RequestHead) → Refuses (length_of head)
length_one head =
    let fields = fields_of head in
    let lengths = values_of (codes "Content-Length") fields in
    unless_one (values_of (codes "Transfer-Encoding") fields) (length_by head.method lengths)
    (by_one head.method lengths)

cut_or : (b : Bool) (next : Next) → IsOfHead next → IsOfHead (if b then ended else next)
cut_or true next says = tt
cut_or false next says = says

after_one : (head : RequestHead) (length : Result ℕ ℕ) (rest : List ℕ) → Refuses length →
    IsOfHead (after_length head length rest)
after_one head (Err status) rest says = says
after_one head (Ok n) rest says =
    cut_or (nat_lt (length rest) n) (asks (ask_of head (take n rest)) (drop n rest)) tt

-- rule: http-refusals
pub next_of_head : (part : Part) (next : Next) → IsNextOf part next → IsOfHead next
next_of_head (whole part rest) next (inl h) =
    subst IsOfHead (sym h.2) (after_one h.0 (length_of h.0) rest (length_one h.0))
next_of_head (whole part rest) next (inr h) = subst IsOfHead (sym h.1) refl
next_of_head too_long next h = subst IsOfHead (sym h) refl
next_of_head cut next h = subst IsOfHead (sym h) tt

-- ---- as it is heard

pub refused_heard : (next : Next) (left : Option (List ℕ)) (status : ℕ) (why : HttpRefusal)
    (heard : Heard) → why ≡ refusal_of status → heard.asked ≡ told.Refused why →
    heard.closes ≡ true → IsOfHead next → IsNextTaken next (taken.Refused status) left →
    HearsNext next (Some heard) left
refused_heard (asks ask rest) left status why heard is asked closes of tells = absurd tells
refused_heard (refused code) left status why heard is asked closes of tells = (
  subst (λ a. IsAskingGiven (refuses code) a) (sym asked)
      (ap refusal_status is ∙ ap (λ s. refusal_status (refusal_of s)) tells ∙ of),
  closes,
)
refused_heard ended left status why heard is asked closes of tells = absurd tells

pub heard_next : (old left : Option (List ℕ)) (taken : Taken) (heard : Option Heard) →
    IfSome old (λ stream. TellsNext (first_part stream) taken left) →
    ((next : Next) (l : Option (List ℕ)) → IsOfHead next → IsNextTaken next taken l →
    HearsNext next heard l) → IfSome old (λ stream. Hears stream heard left)
heard_next None left taken heard tells hears = tt
heard_next (Some stream) left taken heard tells hears = record {
  next = tells.next;
  is_next = tells.is_next;
  hears = hears tells.next left (next_of_head (first_part stream) tells.next tells.is_next)
      tells.tells;
}
