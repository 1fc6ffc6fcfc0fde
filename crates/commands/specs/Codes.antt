-- The numbers and names by which answers and requests are written.
use Rattle.std.specs.Prelude.{ℕ, ◌==◌, List, [], ◌∷◌, Option, codes, nat_eq}
use Rattle.std.specs.List.{find}
use Rattle.std.specs.Cmp.Lexicographic.{pointwise}
use Rattle.commands.specs.declared.request.RequestKind.{RequestKind}
use Rattle.commands.specs.declared.request.RequestKind.TheVariants as kind
use Rattle.commands.specs.declared.request.EventAction.{EventAction}
use Rattle.commands.specs.declared.request.EventAction.TheVariants as action
use Rattle.commands.specs.declared.request.Ask.{Ask}
use Rattle.commands.specs.declared.request.Ask.TheVariants as ask
use Rattle.commands.specs.declared.answer.ServiceFailure.{ServiceFailure}
use Rattle.commands.specs.declared.answer.ServiceFailure.TheVariants.{EndUserServiceDenied}
use Rattle.commands.specs.declared.answer.ServiceFailure.TheVariants.{CreditLimitReached}
use Rattle.commands.specs.declared.answer.ServiceFailure.TheVariants.{RatingFailed}
use Rattle.commands.specs.declared.answer.Failure.{Failure}
use Rattle.commands.specs.declared.answer.Failure.TheVariants.{Denied, UnknownSessionId}
use Rattle.commands.specs.declared.answer.Failure.TheVariants.{InvalidAvpValue, UnableToComply}
use Rattle.commands.specs.declared.answer.Failure.TheVariants.{UserUnknown}
use Rattle.commands.specs.declared.answer.Balance.{Balance}
use Rattle.commands.specs.declared.answer.Balance.TheVariants.{EnoughCredit, NoCredit}
use Rattle.commands.specs.declared.answer.Refusal.{Refusal}
use Rattle.commands.specs.declared.answer.Refusal.TheVariants.{AccountExists, AccountUnknown}
use Rattle.commands.specs.declared.answer.Refusal.TheVariants.{VoucherUnknown, VoucherSpent}
use Rattle.commands.specs.declared.answer.Refusal.TheVariants.{ContentDiffers, OutOfRange}
use Rattle.commands.specs.declared.answer.Refusal.TheVariants.{ScopeUnknown}

-- CC-Request-Type (RFC 8506 section 8.3)
abbrev pub kind_number : RequestKind → ℕ
kind_number kind.Initial = 1
kind_number kind.Update = 2
kind_number kind.Termination = 3
kind_number kind.Event = 4

-- the one of this number
abbrev pub all_kinds : List RequestKind
all_kinds = kind.Initial ∷ kind.Update ∷ kind.Termination ∷ kind.Event ∷ []

abbrev pub kind_numbered : ℕ → Option RequestKind
kind_numbered n = find (λ x. kind_number x == n) all_kinds

abbrev pub kind_of_ask : Ask → RequestKind
kind_of_ask (ask.Initial services) = kind.Initial
kind_of_ask (ask.Update services) = kind.Update
kind_of_ask (ask.Termination services) = kind.Termination
kind_of_ask (ask.Event event) = kind.Event
kind_of_ask (ask.Refund refund) = kind.Event

-- Requested-Action (RFC 8506 section 8.41); 1 is REFUND_ACCOUNT
abbrev pub action_number : EventAction → ℕ
action_number action.DirectDebiting = 0
action_number action.CheckBalance = 2
action_number action.PriceEnquiry = 3

-- the one of this number
abbrev pub all_actions : List EventAction
all_actions = action.DirectDebiting ∷ action.CheckBalance ∷ action.PriceEnquiry ∷ []

abbrev pub action_numbered : ℕ → Option EventAction
action_numbered n = find (λ x. action_number x == n) all_actions

-- Result-Code (RFC 8506 section 9)
abbrev pub service_failure_number : ServiceFailure → ℕ
service_failure_number EndUserServiceDenied = 4010
service_failure_number CreditLimitReached = 4012
service_failure_number RatingFailed = 5031

-- the one of this number
abbrev pub all_service_failures : List ServiceFailure
all_service_failures = EndUserServiceDenied ∷ CreditLimitReached ∷ RatingFailed ∷ []

abbrev pub service_failure_numbered : ℕ → Option ServiceFailure
service_failure_numbered n = find (λ x. service_failure_number x == n) all_service_failures

-- Result-Code (RFC 8506 section 9, RFC 6733 section 7.1)
abbrev pub failure_number : Failure → ℕ
failure_number (Denied failure) = service_failure_number failure
failure_number UnknownSessionId = 5002
failure_number (InvalidAvpValue avp) = 5004
failure_number UnableToComply = 5012
failure_number UserUnknown = 5030

-- Check-Balance-Result (RFC 8506 section 8.6)
abbrev pub balance_number : Balance → ℕ
balance_number EnoughCredit = 0
balance_number NoCredit = 1

-- the one of this number
abbrev pub all_balances : List Balance
all_balances = EnoughCredit ∷ NoCredit ∷ []

abbrev pub balance_numbered : ℕ → Option Balance
balance_numbered n = find (λ x. balance_number x == n) all_balances

-- refusals of operators' commands (profile)
abbrev pub refusal_name : Refusal → List ℕ
refusal_name AccountExists = codes "O1"
refusal_name AccountUnknown = codes "O2"
refusal_name VoucherUnknown = codes "O3"
refusal_name VoucherSpent = codes "O4"
refusal_name ContentDiffers = codes "O5"
refusal_name OutOfRange = codes "O6"
refusal_name ScopeUnknown = codes "O7"

-- the one of this name
abbrev pub all_refusals : List Refusal
all_refusals =
    AccountExists ∷ AccountUnknown ∷ VoucherUnknown ∷ VoucherSpent ∷ ContentDiffers ∷ OutOfRange
    ∷ ScopeUnknown ∷ []

abbrev pub refusal_named : List ℕ → Option Refusal
refusal_named name = find (λ r. pointwise nat_eq (refusal_name r) name) all_refusals
