-- What a request may ask, how it is given, and what the parts of its path say.
-- Source: profile.
use Rattle.std.specs.Prelude.{◌≡◌, ℕ, zero, suc, ◌==◌, Result, Ok, Err, if◌then◌else◌}
use Rattle.std.specs.List.{before_first, after_first}
use Rattle.identifiers.specs.Words.{AccountName}
use Rattle.texts.specs.StreamWords.{Bytes}
use Rattle.identifiers.specs.Texts.{is_account_number}
use Rattle.commands.specs.declared.avp.Avp.TheVariants as avp
use Rattle.commands.specs.declared.command.Command.{Command}
use Rattle.json_fields.specs.declared.fault.WireFault.{WireFault}
use Rattle.json_fields.specs.declared.fault.WireFault.TheVariants.{Invalid}
use Rattle.json_fields.specs.Gives.{Fails}
use Rattle.http_messages.specs.declared.asking.HttpAsked.{HttpAsked}
use Rattle.http_messages.specs.declared.asking.HttpAsked.TheVariants as told
use Rattle.http_messages.specs.declared.asking.StatementAsked.{StatementAsked}
use Rattle.http_messages.specs.Refusals.{refusal_status}

-- a request is refused, read as a command or with a fault, or asks for a statement
pub data Asking : Type 0 where
  refuses : ℕ → Asking
  reads : Result Command WireFault → Asking
  states : StatementAsked → Asking

-- what is asked, as it is given
-- rule: http-path: what a request of HTTP asks
abbrev pub IsAskingGiven : Asking → HttpAsked → Type 0
IsAskingGiven (refuses status) (told.Refused given) = refusal_status given ≡ status
IsAskingGiven (refuses status) (told.Unread fault) = ⊥
IsAskingGiven (refuses status) (told.Does c) = ⊥
IsAskingGiven (refuses status) (told.States q) = ⊥
IsAskingGiven (reads read) (told.Refused given) = ⊥
IsAskingGiven (reads read) (told.Unread fault) = Fails fault read
IsAskingGiven (reads read) (told.Does c) = read ≡ Ok c
IsAskingGiven (reads read) (told.States q) = ⊥
IsAskingGiven (states asked) (told.Refused given) = ⊥
IsAskingGiven (states asked) (told.Unread fault) = Fails {Y = StatementAsked} fault (Ok asked)
IsAskingGiven (states asked) (told.Does c) = ⊥
IsAskingGiven (states asked) (told.States q) = asked ≡ q

-- ---- parts of a path

-- what is behind so many slashes of a path, up to the next one or the end
abbrev pub part_behind : ℕ → Bytes → Bytes
part_behind zero target = before_first (λ b. b == 47) target
part_behind (suc n) target = part_behind n (after_first (λ b. b == 47) target)

-- the number of an account in a path
abbrev pub account_in_path : Bytes → Result AccountName WireFault
account_in_path target = if is_account_number (part_behind 2 target) then Ok (part_behind 2 target)
    else Err (Invalid avp.SubscriptionIdData)
