-- What answering the lines of a reader leaves of a keeper and a writer.
-- Source: profile.
use Rattle.std.specs.Prelude.{◌≡◌, ◌≢◌, ◌⊎◌, Option, IfSome, Result, Err, OnOk, OnErr}
use Rattle.units.specs.Words.{Micros}
use Rattle.texts.specs.StreamWords.{Bytes}
use Rattle.texts.specs.declared.streams.StreamFault.{StreamFault}
use Rattle.texts.specs.declared.streams.StreamFault.TheVariants.{Read as ReadFailed}
use Rattle.shelves.specs.Shelves.{Shelf}
use Rattle.keepers.specs.Seen.{Seen}
use Rattle.keepers.specs.Tables.{Tables}
use Rattle.operations.specs.Imports.{HoldsBeginning}
use Rattle.operations.specs.LinesServed.{AnswersLines, BeginsLines, TellsLines, commands_of}
use Rattle.operations.specs.declared.lines_fault.LinesFault.{LinesFault}
use Rattle.operations.specs.declared.lines_fault.LinesFault.TheVariants.{Read, Write}

-- each line is answered, or a beginning of them is, and the fault says which; a stop leaves what
-- was there, or that with a beginning of the requests
-- rule: request-lines
pub record LinesOver {A K W : Type 0} (seen : K → Seen) (contents : W → Option Bytes)
    (b : Shelf) (opening : Option Micros) (bytes : Option Bytes) (old new : K) (before after : W)
    (result : Result A LinesFault) : Type 0 where
  -- rule: request-lines
  pub answers : AnswersLines b opening bytes (contents before) (contents after) (seen old)
      (seen new) result
  -- rule: request-lines
  pub told : OnOk result (IfSome bytes (TellsLines (contents before) (contents after)))
  pub begun : OnErr result (IfSome bytes (BeginsLines (contents before) (contents after)))
  -- rule: request-lines
  pub unread : (fault : StreamFault) → result ≡ Err (Read fault) → new ≡ old
  -- rule: request-lines
  pub unwritten : (fault : StreamFault) → result ≡ Err (Read fault) → after ≡ before
  pub fault : (fault : StreamFault) → result ≡ Err (Write fault) → fault ≢ ReadFailed
  -- rule: request-lines
  pub left : (seen old).clean → (seen new).honest → (t : Tables) → (seen new).left t →
      (seen old).left t ⊎ IfSome bytes (λ stream.
      HoldsBeginning b (commands_of opening stream) (seen old).tables t)
