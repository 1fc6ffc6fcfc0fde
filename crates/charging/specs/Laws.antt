-- Laws of every list of accepted commands, as they are read aloud at `laws`.
-- Source: profile.
use Rattle.std.specs.Prelude.{◌≡◌, List}
use Rattle.units.specs.Words.{Moment}
use Rattle.identifiers.specs.Words.{AccountName, VoucherCode}
use Rattle.buckets.specs.declared.kind.BucketKind.{BucketKind}
use Rattle.shelves.specs.Shelves.{Shelf, IsShelf}
use Rattle.ledger.specs.Pricing.{validity_of}
use Rattle.ledger.specs.SoundLedger.{IsSoundLedger}
use Rattle.charging.specs.Accepted.{Accepted}
use Rattle.charging.specs.Collected.{charged_to_date, taken_to_date}
use Rattle.charging.specs.Isolation.{HasOwnCodes, IsIsolated}
use Rattle.charging.specs.Paid.{ArePaid, AreQuotasPaid, reports_of}
use Rattle.charging.specs.RedeemedCodes.{AreRedeemedOnce}
use Rattle.charging.specs.Served.{history}
use Rattle.charging.specs.declared.running.DatedCommand.{DatedCommand}

-- the ledger of each history is sound
abbrev pub LedgersAreSound : Type 0
LedgersAreSound = (b : Shelf) (a : AccountName) (list : List Accepted) →
    IsSoundLedger (history b a list).ledger

-- each report of it is paid
abbrev pub ReportsArePaid : Type 0
ReportsArePaid = (b : Shelf) (a : AccountName) (list : List Accepted) →
    ArePaid b (reports_of b a list) (history b a list).ledger

-- each quota of it is paid
abbrev pub QuotasArePaid : Type 0
QuotasArePaid = (b : Shelf) → IsShelf b → (a : AccountName) (list : List Accepted) →
    AreQuotasPaid b (history b a list).ledger

-- what its charges took of buckets of a kind is what these show as charged, at any moment
abbrev pub TakenIsCharged : Type 0
TakenIsCharged = (kind : BucketKind) (b : Shelf) (a : AccountName) (list : List Accepted)
    (t : Moment) → taken_to_date kind (history b a list).ledger ≡
    charged_to_date kind (validity_of b) t (history b a list).ledger

-- a code that a command redeemed is redeemed by no later one
abbrev pub CodesAreRedeemedOnce : Type 0
CodesAreRedeemedOnce = (shelf : Shelf) (code : VoucherCode) (list : List Accepted)
    (commands : List DatedCommand) → AreRedeemedOnce shelf code list commands

-- an account whose codes no other account redeems is as its own commands leave it
abbrev pub AccountsAreIsolated : Type 0
AccountsAreIsolated = (shelf : Shelf) → IsShelf shelf → (account : AccountName)
    (commands : List DatedCommand) →
    HasOwnCodes account commands → IsIsolated shelf account commands
