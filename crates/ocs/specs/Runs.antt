-- What a run of the program's words leaves of its streams, and how it ends.
-- Source: profile.
use Rattle.std.specs.Prelude.{◌≡◌, List, Option, IfSome}
use Rattle.std.specs.Io.KnownBytes.{Appends}
use Rattle.texts.specs.StreamWords.{Bytes}
use Rattle.clap.specs.Words.{Text}
use Rattle.tariffs.specs.OnceBook.{once_book}
use Rattle.operator.specs.Read.{IsSaid}
use Rattle.operator.specs.declared.parsed.OnceWords.{OnceWords}
use Rattle.operator.specs.declared.parsed.ProgramWords.{ProgramWords}
use Rattle.operator.specs.declared.parsed.ProgramWords.TheVariants.{Once}
use Rattle.operations.specs.Written.{WritesBeginning}
use Rattle.operations.specs.declared.status.Status.{Status}
use Rattle.operations.specs.declared.status.Status.TheVariants.{Done, Failed, Unread}
use Rattle.ocs.specs.Ends.{HasBegun, HasPrinted, IfOnce, IsEnd}
use Rattle.operations.specs.Once.{BeginsOnce, WritesOnce}
use Rattle.ocs.specs.Told.{IsTold, done_line}

-- what words that are read print: all that they ask for where it is done, and where it fails a
-- beginning of that; `once` by the lines of this stream
pub record PrintsSaid {File : Type 0} (bytes : File → Option Bytes) (said : ProgramWords)
    (stream old new : Option Bytes) (status : Status) : Type 0 where
  pub printed : status ≡ Done → IfSome (done_line said) (Appends old new)
  pub begun : status ≡ Failed → IfSome (done_line said) (WritesBeginning old new)
  pub answered : status ≡ Done → HasPrinted bytes said old new Done
  pub started : status ≡ Failed → HasBegun bytes said old new
  pub done : status ≡ Done → IfOnce said (λ once.
      WritesOnce (once_book once.price once.block) once.credit stream old new)
  pub fault : status ≡ Failed → IfOnce said (λ once.
      BeginsOnce (once_book once.price once.block) once.credit stream old new)

-- it ends as the words say, what they ask for is printed or a beginning of it, and a fault is
-- reported
pub record RunsProgram {F I O E : Type 0} (bytes : F → Option Bytes) (remaining : I → Option Bytes)
    (contents : O → Option Bytes) (faults : E → Option Bytes) (texts : List Text) (input rest : I)
    (old new : O) (before after : E) (status : Status) : Type 0 where
  pub end : IsEnd texts status
  pub told : IsTold texts (contents old) (contents new) status (faults before) (faults after)
  pub unread : ((once : OnceWords) → IsSaid texts (Once once) → ⊥) → rest ≡ input
  pub unwritten : status ≡ Unread → new ≡ old
  pub prints : (said : ProgramWords) → IsSaid texts said →
      PrintsSaid bytes said (remaining input) (contents old) (contents new) status
