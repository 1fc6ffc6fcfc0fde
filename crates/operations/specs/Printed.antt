-- What is printed, whatever a keeper holds.
-- Source: profile.
use Rattle.std.specs.Prelude.{◌≡◌, ◌≢◌, Err, IfOk, Option, Result}
use Rattle.std.specs.Io.KnownBytes.{Appends}
use Rattle.texts.specs.StreamWords.{Bytes}
use Rattle.texts.specs.declared.streams.StreamFault.{StreamFault}
use Rattle.texts.specs.declared.streams.StreamFault.TheVariants.{Read as ReadFailed}
use Rattle.commands.specs.declared.answer.Answer.{Answer}
use Rattle.keepers.specs.declared.fault.StoreFault.{StoreFault}
use Rattle.operations.specs.Told.{answer_line, status_of}
use Rattle.operations.specs.declared.fault.OfficeFault.{OfficeFault}
use Rattle.operations.specs.declared.fault.OfficeFault.TheVariants.{Store, Write}
use Rattle.operations.specs.declared.status.Status.{Status}
use Rattle.operations.specs.declared.status.Status.TheVariants.{Done, Failed, Unread}

-- it ends well, or is refused where this is so
-- rule: office-commands
abbrev pub IsEnded : Type 0 → Status → Type 0
IsEnded Refused Done = Unit {0}
IsEnded Refused Failed = Refused
IsEnded Refused Unread = ⊥

-- the line of some answer, with which a command ends so
-- rule: office-commands
pub record PrintsAnswer (ends : Status) (old new : Option Bytes) : Type 0 where
  pub answer : Answer
  pub is : ends ≡ status_of answer
  pub printed : Appends old new (answer_line answer)

-- a call that ends well has printed a line, one whose keeper failed has written nothing, and a
-- fault of the writer is none of reading
pub record PrintsLine {A W : Type 0} (Line : A → Type 0) (before after : W)
    (result : Result A OfficeFault) : Type 0 where
  pub printed : IfOk result Line
  pub unwritten : (fault : StoreFault) → result ≡ Err (Store fault) → after ≡ before
  pub fault : (fault : StreamFault) → result ≡ Err (Write fault) → fault ≢ ReadFailed
