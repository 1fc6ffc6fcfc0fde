-- A request as it is heard: what it asks, and whether the connection ends after it.
use Rattle.std.specs.Prelude.{◌≡◌, true, Option, Some, None, ⊤}
use Rattle.texts.specs.StreamWords.{Bytes}
use Rattle.http_messages.specs.Requests.{Next, asks, refused, ended, IsNextRequest}
use Rattle.http_messages.specs.Asking.{refuses, IsAskingGiven}
use Rattle.http_messages.specs.Table.{asked_of}
use Rattle.http_messages.specs.Refusals.{refusal_status, refusal_of}
use Rattle.http_api.specs.declared.hearing.Heard.{Heard}

-- a refusal is one of a head or a length
abbrev pub IsOfHead : Next → Type 0
IsOfHead (asks ask rest) = ⊤
IsOfHead (refused status) = refusal_status (refusal_of status) ≡ status
IsOfHead ended = ⊤

-- a refusal ends the connection
abbrev pub HearsNext : Next → Option Heard → Option Bytes → Type 0
HearsNext (asks ask rest) (Some heard) left = IsAskingGiven (asked_of ask) heard.asked
    × (heard.closes ≡ ask.closes) × (left ≡ Some rest)
HearsNext (asks ask rest) None left = ⊥
HearsNext (refused status) (Some heard) left = IsAskingGiven (refuses status) heard.asked
    × (heard.closes ≡ true)
HearsNext (refused status) None left = ⊥
HearsNext ended (Some heard) left = ⊥
HearsNext ended None left = Unit {0}

-- the stream's next request is heard, and this is left
pub record Hears (stream : Bytes) (heard : Option Heard) (left : Option Bytes) : Type 0 where
  pub next : Next
  pub is_next : IsNextRequest stream next
  pub hears : HearsNext next heard left
