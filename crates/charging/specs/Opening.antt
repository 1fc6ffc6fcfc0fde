-- Whether an initial request opens a session: by the grants that are made, one after the other.
-- Source: RFC 8506 sections 5.2.1 and 8.3.
use Rattle.std.specs.Prelude.{◌≡◌, Bool, true, false, List, [], ◌∷◌, None}
use Rattle.std.specs.List.{list_any}
use Rattle.units.specs.Words.{Moment, CcRequestNumber}
use Rattle.identifiers.specs.Words.{SessionName, AccountName}
use Rattle.commands.specs.Services.{are_initial}
use Rattle.commands.specs.declared.answer.ServiceAnswer.{ServiceAnswer}
use Rattle.commands.specs.declared.answer.ServiceFailure.{ServiceFailure}
use Rattle.commands.specs.declared.answer.ServiceOutcome.{ServiceOutcome}
use Rattle.commands.specs.declared.answer.ServiceOutcome.TheVariants as service
use Rattle.commands.specs.declared.service.Service.{Service}
use Rattle.shelves.specs.Shelves.{Shelf, book_at}
use Rattle.ledger.specs.Ledger.{Ledger, is_barred, last_recording}
use Rattle.ledger.specs.Requests.{touched}
use Rattle.decisions.specs.Services.{any_grants, first_denial, grant_answers}
use Rattle.charging.specs.Accepted.{Accepted}
use Rattle.charging.specs.Served.{history}

-- units are granted
abbrev pub is_granted : ServiceOutcome → Bool
is_granted (service.Granted granted) = true
is_granted (service.Debited charged) = false
is_granted service.Settled = false
is_granted (service.Failed failure) = false

-- the first service isn't granted units for this reason
abbrev pub IsFirstDenial : ServiceFailure → List ServiceAnswer → Type 0
IsFirstDenial failure [] = Unit {0}
IsFirstDenial failure (x ∷ xs) = x.outcome ≡ service.Failed failure

-- the session opens exactly where some service is granted units, asked in the order of the request,
-- each on the ledger that the one before left; else the request is denied for the first one's
-- reason
-- rule: initial.opened-by-grants: an initial request opens a session exactly where one of its
--   grants is made, in order, each on what the one before left
pub record IsOpenedByGrants (b : Shelf) (t : Moment) (s : SessionName) (n : CcRequestNumber)
    (services : List Service) (ledger : Ledger) : Type 0 where
  pub opens : any_grants b t ledger services ≡
      list_any (λ x. is_granted x.outcome)
      (grant_answers b t s services (touched t s n ledger))
  pub denied : any_grants b t ledger services ≡ false →
      IsFirstDenial (first_denial (book_at b t) services)
      (grant_answers b t s services (touched t s n ledger))

-- so each initial request of a new name, of an account that isn't barred
-- rule: initial.opened-by-grants
abbrev pub SessionsOpenByGrants : Type 0
SessionsOpenByGrants =
    (b : Shelf) (a : AccountName) (list : List Accepted) (t : Moment) (s : SessionName)
    (n : CcRequestNumber)
    (services : List Service) → are_initial services ≡ true →
    last_recording s (history b a list).ledger ≡ None →
    is_barred (history b a list).ledger ≡ false →
    IsOpenedByGrants b t s n services (history b a list).ledger
