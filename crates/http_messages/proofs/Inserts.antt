-- What an insert leaves, by what its text reads as.
use Rattle.std.proofs.Common.{◌≡◌, ◌∙◌, sym, subst, refl, Result, Ok, Err}
use Rattle.std.proofs.lemmas.Option.{none-some}
use Rattle.matchit.specs.Route.{Scan}
use Rattle.matchit.specs.Router.{InsertsRead}
use Rattle.matchit.specs.declared.InsertError.{InsertError}
use Rattle.matchit.specs.declared.InsertError.TheVariants.{Conflict, InvalidParamSegment}
use Rattle.matchit.specs.declared.InsertError.TheVariants.{InvalidParam, InvalidCatchAll}
use Rattle.matchit.specs.declared.InsertError.TheVariants.{OutOfMemory}
use Rattle.http_messages.specs.declared.routes.Route.{Route}
use Rattle.http_messages.specs.Table.{RouteRows}
use Rattle.http_messages.specs.MessageParts.{fits_read}
use Rattle.http_messages.specs.Table.{added_read}

-- rule: http-path
pub inserts_read : (x : Result Scan InsertError) (value : Route) (old new : RouteRows)
    (r : Result (Unit {0}) InsertError) (u : Unit {0}) → InsertsRead x value old new r →
    r ≡ Ok u → new ≡ added_read x value old
inserts_read x value old new r u h is = inserted x (subst (InsertsRead x value old new) is h)
  where
    inserted : (x : Result Scan InsertError) → InsertsRead x value old new (Ok u) →
        new ≡ added_read x value old
    inserted (Ok s) h = h.1
    inserted (Err e) h = h.0

-- of a route that fits the one error is lack of memory
pub one_error : (x : Result Scan InsertError) (value : Route) (old new : RouteRows)
    (r : Result (Unit {0}) InsertError) (e : InsertError) → fits_read x old →
    InsertsRead x value old new r → r ≡ Err e → e ≡ OutOfMemory
one_error x value old new r e fits h is =
    refused x e fits (subst (InsertsRead x value old new) is h)
  where
    refused : (x : Result Scan InsertError) (e : InsertError) → fits_read x old →
        InsertsRead x value old new (Err e) → e ≡ OutOfMemory
    refused (Ok s) (Conflict with) fits h = absurd (none-some h.1.0 (sym fits ∙ h.1.1))
    refused (Ok s) InvalidParamSegment fits h = absurd h.1
    refused (Ok s) InvalidParam fits h = absurd h.1
    refused (Ok s) InvalidCatchAll fits h = absurd h.1
    refused (Ok s) OutOfMemory fits h = refl
    refused (Err f) e fits h = absurd fits
