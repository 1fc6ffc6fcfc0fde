-- A command that was carried out, for every list of accepted commands whose tables a keeper holds.
-- Source: profile.
use Rattle.std.specs.Prelude.{◌≡◌, List, Option, Result, Err, IfNone, IfOk}
use Rattle.std.specs.Io.KnownBytes.{Appends}
use Rattle.units.specs.Words.{Moment}
use Rattle.texts.specs.StreamWords.{Bytes}
use Rattle.texts.specs.declared.streams.StreamFault.{StreamFault}
use Rattle.commands.specs.declared.answer.Answer.{Answer}
use Rattle.commands.specs.declared.command.Command.{Command}
use Rattle.shelves.specs.Shelves.{Shelf}
use Rattle.keepers.specs.Seen.{Seen}
use Rattle.keepers.specs.Tables.{Tables}
use Rattle.keepers.specs.declared.fault.StoreFault.{StoreFault}
use Rattle.charging.specs.Accepted.{Accepted, IsInTime}
use Rattle.charging.specs.Parts.{Leaves}
use Rattle.charging.specs.Promise.{Carries}
use Rattle.charging.specs.Served.{AreTables, IsServed, Writes, answer_to, moment_of}
use Rattle.operations.specs.Faults.{office_store_fault}
use Rattle.operations.specs.Printed.{PrintsAnswer, PrintsLine}
use Rattle.operations.specs.Told.{answer_line, status_of}
use Rattle.operations.specs.Written.{WritesBeginning}
use Rattle.operations.specs.declared.fault.OfficeFault.{OfficeFault}
use Rattle.operations.specs.declared.fault.OfficeFault.TheVariants.{Store, Write}
use Rattle.operations.specs.declared.status.Status.{Status}

-- the tables are those of the list with the command where it is accepted, and this is so of the
-- command's answer
pub record IsCarriedOutOn (b : Shelf) (c : Command) (t : Moment) (old new : Tables)
    (tells : Answer → Type 0) (list : List Accepted) : Type 0 where
  pub served : IsServed b list c (moment_of list t) old new (answer_to b list c (moment_of list t))
  pub told : tells (answer_to b list c (moment_of list t))

-- rule: office-commands: an operator's command is carried out, and answered as a line
abbrev pub IsCarriedOut : Shelf → Command → Moment → Tables → Tables → (Answer → Type 0) → Type 0
IsCarriedOut b c t old new tells =
    (list : List Accepted) → IsInTime list → AreTables b list old →
    IsCarriedOutOn b c t old new tells list

-- a command is carried out and its answer written as a line; where the line isn't written, the
-- command was carried out; where the store failed, nothing was
-- rule: office-commands
pub record ServesOffice {W : Type 0} (contents : W → Option Bytes)
    (b : Shelf) (c : Command) (t : Moment) (old new : Seen) (before after : W)
    (result : Result Status OfficeFault) : Type 0 where
  -- rule: office-commands
  pub done : new.clean → IfOk result (λ status.
      IsCarriedOut b c t old.tables new.tables (λ answer. (status ≡ status_of answer)
      × Appends (contents before) (contents after) (answer_line answer)))
  -- rule: office-commands
  pub untold : (fault : StreamFault) → result ≡ Err (Write fault) → new.clean →
      IsCarriedOut b c t old.tables new.tables
      (λ answer. WritesBeginning (contents before) (contents after) (answer_line answer))
  -- rule: office-commands
  pub unserved : (fault : StoreFault) → result ≡ Err (Store fault) → new.clean →
      new.tables ≡ old.tables
  pub prints : PrintsLine (λ status. PrintsAnswer status (contents before) (contents after))
      before after result
  pub left : Leaves old new (λ held. old.clean × Writes b c t old.tables held)
  pub keeper : Carries old new (office_store_fault result)
  -- each command asks the store, so one that is honest after it can be asked again, whatever it was
  -- before
  pub stands : new.honest → IfNone (office_store_fault result) new.clean
