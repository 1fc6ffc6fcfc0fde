-- What is written of a statement that is asked for, by the charges that a source has.
-- Source: profile.
use Rattle.std.specs.Prelude.{◌≡◌, ◌≤◌, ◌⊎◌, Bool, List, Option, Result, Err, OnErr}
use Rattle.texts.specs.StreamWords.{Bytes}
use Rattle.texts.specs.declared.streams.StreamFault.{StreamFault}
use Rattle.texts.specs.declared.streams.StreamFault.TheVariants.{Write}
use Rattle.ledger.specs.Words.{ChargeNumber}
use Rattle.commands.specs.declared.answer.Answer.{Answer}
use Rattle.wire.specs.Spelled.{answer_text}
use Rattle.ledger.specs.ChargeColumns.{ChargeColumns}
use Rattle.keepers.specs.Rows.{AreCharges}
use Rattle.keepers.specs.Seen.{Seen}
use Rattle.keepers.specs.Tables.{Tables}
use Rattle.http_messages.specs.Statuses.{ok, service_unavailable}
use Rattle.http_messages.specs.declared.text.Media.TheVariants.{Text}
use Rattle.http_messages.specs.Texts.{response, response_of, unable}

-- an answer is written, or that there is no memory for its text
abbrev pub TellsAnswer : Answer → Bool → (Bytes → Type 0) → Type 0
TellsAnswer answer closes Writes = Writes (response ok closes (answer_text answer))
    ⊎ Writes (response service_unavailable closes unable)

-- the body is written, or that there is no memory or no store
abbrev pub IsBodyTold : Bool → Bytes → Bytes → Type 0
IsBodyTold closes body text = (text ≡ response_of Text ok closes body)
    ⊎ (text ≡ response service_unavailable closes unable)

-- a text is written, and it is the body that is made of an account's charges
pub record TellsCharges (charges : ChargeNumber → Option ChargeColumns)
    (body : List ChargeColumns → Bytes) (closes : Bool) (Writes : Bytes → Type 0) : Type 0 where
  pub text : Bytes
  pub written : Writes text
  pub told : (rows : List ChargeColumns) → AreCharges charges rows →
      IsBodyTold closes (body rows) text

-- what was read alone is written, and the writer alone fails: the tables are as before, and so is
-- what a stop leaves
pub record TellsByRead {A : Type 0} (old new : Seen) (result : Result A StreamFault) : Type 0 where
  pub fault : OnErr result (result ≡ Err Write)
  pub same : new.clean → new.tables ≡ old.tables
  pub cleanness : new.clean → old.clean
  pub honesty : new.honest → old.honest
  pub left : new.honest → (t : Tables) → new.left t → old.left t
  pub failures : old.failed ≤ new.failed
