-- A statement that is asked for, or the fault of its path, as it is given.
use Rattle.std.proofs.Common.{◌≡◌, Result, Ok, Err, refl, sym, subst}
use Rattle.json_fields.specs.declared.fault.WireFault.{WireFault}
use Rattle.json_fields.specs.Gives.{Fails}
use Rattle.http_messages.specs.declared.asking.HttpAsked.TheVariants as told
use Rattle.http_messages.specs.declared.asking.StatementAsked.{StatementAsked}
use Rattle.http_messages.specs.Asking.{IsAskingGiven}
use Rattle.http_messages.specs.MessageParts.{stated}

pub stated_is : (q : StatementAsked) (reading : Result StatementAsked WireFault) → reading ≡ Ok q →
    IsAskingGiven (stated reading) (told.States q)
stated_is q reading h = subst (λ r. IsAskingGiven (stated r) (told.States q)) (sym h) refl

pub unstated_is : (fault : WireFault) (reading : Result StatementAsked WireFault) →
    Fails fault reading → IsAskingGiven (stated reading) (told.Unread fault)
unstated_is fault (Ok q) h = h
unstated_is fault (Err e) h = λ other. let same = h other in cc same
