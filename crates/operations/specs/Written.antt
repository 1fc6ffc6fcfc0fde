-- What is written of a text, also at a fault.
-- Source: profile.
use Rattle.std.specs.Prelude.{◌≢◌, Option, Result, IfErr, OnErr, OnOk}
use Rattle.std.specs.Io.KnownBytes.{Appends}
use Rattle.texts.specs.StreamWords.{Bytes}
use Rattle.texts.specs.declared.streams.StreamFault.{StreamFault}
use Rattle.texts.specs.declared.streams.StreamFault.TheVariants.{Read as ReadFailed}
pub use Rattle.statements.specs.Texts.{WritesBeginning}

-- a text is written, or a beginning of it; nothing is read
pub record PrintsText {A : Type 0} (text : Bytes) (old new : Option Bytes)
    (result : Result A StreamFault) : Type 0 where
  pub written : OnOk result (Appends old new text)
  pub err : OnErr result (WritesBeginning old new text)
  pub fault : IfErr result (λ fault. fault ≢ ReadFailed)
