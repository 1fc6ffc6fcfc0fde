-- The next request, by what the stream begins with.
use Rattle.std.proofs.Common.{◌≡◌, ℕ, List, refl, subst, Option, Some, None, IfSome, IfOk, inl, inr}
use Rattle.std.specs.Prelude.{Result, Ok, Err, Vec}
use Rattle.std.specs.Global.{Global}
use Rattle.httparse.specs.Grammar.{RequestHead}
use Rattle.http_messages.specs.declared.head.HttpHead.{HttpHead}
use Rattle.http_messages.specs.declared.head_part.HeadPart.{HeadPart}
use Rattle.http_messages.specs.declared.head_part.HeadPart.TheVariants as head_part
use Rattle.http_messages.specs.declared.requests.Taken.{Taken}
use Rattle.http_messages.specs.declared.requests.Taken.TheVariants as taken
use Rattle.http_messages.specs.Statuses.{bad_request, fields_too_large}
use Rattle.http_messages.specs.Parts.{Part, whole, too_long, cut, IsHeadPart}
use Rattle.http_messages.specs.Requests.{after_head, refused, ended}
use Rattle.http_messages.specs.RequestsGiven.{IsHeadIn, IsHeadOf, IsNextTaken}
use Rattle.http_messages.specs.RequestsGiven.{TellsNext}

long_next : (begun : Part) (left right : Option (List ℕ)) →
    IsHeadPart begun head_part.TooLong left → TellsNext begun (taken.Refused fields_too_large) right
long_next (whole part rest) left right h = absurd h
long_next too_long left right h =
    record { next = refused fields_too_large; is_next = refl; tells = refl }
long_next cut left right h = absurd h

-- rule: http-head
pub next_long : (part : HeadPart) (begun : Part) (left right : Option (List ℕ)) →
    part ≡ head_part.TooLong → IsHeadPart begun part left →
    TellsNext begun (taken.Refused fields_too_large) right
next_long part begun left right e h =
    long_next begun left right (subst (λ p. IsHeadPart begun p left) e h)

ended_next : (begun : Part) (left right : Option (List ℕ)) → IsHeadPart begun head_part.Ended left →
    TellsNext begun taken.Ended right
ended_next (whole part rest) left right h = absurd h
ended_next too_long left right h = absurd h
ended_next cut left right h = record { next = ended; is_next = refl; tells = tt }

-- rule: http-head, http-body
pub next_ended : (part : HeadPart) (begun : Part) (left right : Option (List ℕ)) →
    part ≡ head_part.Ended → IsHeadPart begun part left → TellsNext begun taken.Ended right
next_ended part begun left right e h =
    ended_next begun left right (subst (λ p. IsHeadPart begun p left) e h)

some_next : (rest : List ℕ) (left : Option (List ℕ)) (P : List ℕ → Type 0) → left ≡ Some rest →
    IfSome left P → P rest
some_next rest left P e h = subst (λ (o : Option (List ℕ)). IfSome o P) e h

whole_next : (begun : Part) (told : Taken) (bytes : Vec ℕ Global) (left right : Option (List ℕ)) →
    IsHeadPart begun (head_part.Whole bytes) left →
    IfSome left (λ rest. TellsNext (whole bytes.items rest) told right) → TellsNext begun told right
whole_next (whole part rest) told bytes left right h next =
    subst (λ p. TellsNext (whole p rest) told right) h.0
    (some_next rest left (λ r. TellsNext (whole bytes.items r) told right) h.1 next)
whole_next too_long told bytes left right h next = absurd h
whole_next cut told bytes left right h next = absurd h

-- a head part is whole
-- rule: http-head
pub next_whole : {E : Type 0} (result : Result Taken E) (part : HeadPart) (bytes : Vec ℕ Global)
    (given : List ℕ) (left right : Option (List ℕ)) → part ≡ head_part.Whole bytes →
    given ≡ bytes.items →
    IfOk result (λ told. IfSome left (λ rest. TellsNext (whole given rest) told right)) →
    IfOk result (λ told. (begun : Part) → IsHeadPart begun part left → TellsNext begun told right)
next_whole (Err e) part bytes given left right is same h = tt
next_whole (Ok told) part bytes given left right is same h = λ begun k.
    whole_next begun told bytes left right (subst (λ p. IsHeadPart begun p left) is k)
    (subst (λ p. IfSome left (λ rest. TellsNext (whole p rest) told right)) same h)

-- it is no head
pub next_none : (part : List ℕ) (o : Option HttpHead) (left right : Option (List ℕ)) →
    o ≡ None → IsHeadIn part o →
    IfSome left (λ rest. TellsNext (whole part rest) (taken.Refused bad_request) right)
next_none part o None right e h = tt
next_none part o (Some rest) right e h = record {
  next = refused bad_request;
  is_next = inr (subst (IsHeadIn part) e h, refl);
  tells = refl;
}

-- it is one
pub next_some : {E : Type 0} (result : Result Taken E) (part : List ℕ) (o : Option HttpHead)
    (head : HttpHead) (left right : Option (List ℕ)) → o ≡ Some head → IsHeadIn part o →
    IfOk result (λ told. IfSome left
    (λ rest. (said : RequestHead) → IsHeadOf said head →
    IsNextTaken (after_head said rest) told right)) →
    IfOk result (λ told. IfSome left (λ rest. TellsNext (whole part rest) told right))
next_some (Err x) part o head left right e h k = tt
next_some (Ok told) part o head None right e h k = tt
next_some (Ok told) part o head (Some rest) right e h k =
    let is = subst (IsHeadIn part) e h in
    record { next = after_head is.0 rest; is_next = inl (is.0, is.1, refl); tells = k is.0 is.2 }
