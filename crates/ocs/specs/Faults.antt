-- Which faults the program comes to, by what its words say.
-- Source: profile.
use Rattle.std.specs.Prelude.{◌≡◌, ◌⊎◌, List, Option}
use Rattle.units.specs.Words.{Moment}
use Rattle.texts.specs.declared.streams.StreamFault.TheVariants as stream
use Rattle.clap.specs.Words.{Text}
use Rattle.operator.specs.Read.{IsSaid}
use Rattle.operator.specs.declared.parsed.ProgramWords.{ProgramWords}
use Rattle.operator.specs.declared.parsed.ProgramWords.TheVariants as words
use Rattle.operations.specs.LinesFaults.{IsReachedByLines}
use Rattle.service.specs.Adding.{IsAdditionFault}
use Rattle.service.specs.CivilClock.{IsClockFault}
use Rattle.service.specs.Making.{IsInitFault}
use Rattle.service.specs.Opening.{IsCommandFault, IsUnopened}
use Rattle.service.specs.declared.fault.DatabaseFault.{DatabaseFault}
use Rattle.service.specs.declared.importing.ImportFault.{ImportFault}
use Rattle.service.specs.declared.importing.ImportFault.TheVariants as importing
use Rattle.service.specs.ServingTold.{IsServeFault}
use Rattle.ocs.specs.Ends.{SaysSo}
use Rattle.ocs.specs.declared.fault.ProgramFault.{ProgramFault}
use Rattle.ocs.specs.declared.fault.ProgramFault.TheVariants as program

-- why the vouchers of a file weren't all added and reported
abbrev pub of_import : ImportFault → ProgramFault
of_import (importing.Vouchers fault) = program.Vouchers fault
of_import (importing.Database fault) = program.Database fault

-- ---- by what is done

-- one of lines over memory
abbrev pub IsOnceFault : ProgramFault → Type 0
IsOnceFault (program.Lines fault) = IsReachedByLines ⊥ fault
IsOnceFault _ = ⊥

-- one of a database of which this is so
abbrev pub OnlyDatabase : (DatabaseFault → Type 0) → ProgramFault → Type 0
OnlyDatabase says (program.Database fault) = says fault
OnlyDatabase says _ = ⊥

-- or of the writer to which it is printed that all is done
abbrev pub OnlyDone : (DatabaseFault → Type 0) → ProgramFault → Type 0
OnlyDone says (program.Database fault) = says fault
OnlyDone says (program.Stream fault) = fault ≡ stream.Write
OnlyDone says _ = ⊥

-- one of a file of vouchers, or of a command over a database
abbrev pub IsImportFault : Option Moment → ProgramFault → Type 0
IsImportFault at (program.Vouchers fault) = Unit {0}
IsImportFault at (program.Database fault) = IsCommandFault at fault
IsImportFault at _ = ⊥

-- one of a file or a database, of lines over that, or of memory to read them
abbrev pub IsReplayFault : ProgramFault → Type 0
IsReplayFault (program.Lines fault) = IsReachedByLines (Unit {0}) fault
IsReplayFault (program.Stream fault) = fault ≡ stream.Memory
IsReplayFault (program.Database fault) = IsUnopened fault
IsReplayFault (program.Vouchers fault) = ⊥

-- ---- by what the words say

-- the words come to the fault
-- rule: exit-status
abbrev pub IsFaultOf : ProgramWords → ProgramFault → Type 0
IsFaultOf (words.Once once) = IsOnceFault
IsFaultOf (words.Init init) = OnlyDone IsInitFault
IsFaultOf (words.Migrate migrate) = OnlyDone IsUnopened
IsFaultOf (words.Book book) = OnlyDone IsAdditionFault
IsFaultOf (words.Serve serve) = OnlyDatabase IsServeFault
IsFaultOf (words.Import import) = IsImportFault import.at
IsFaultOf (words.Office office) = OnlyDatabase (IsCommandFault office.at)
IsFaultOf (words.Statement statement) = OnlyDatabase (IsCommandFault statement.at)
IsFaultOf (words.Clock clock) = OnlyDatabase IsClockFault
IsFaultOf (words.Replay replay) = IsReplayFault

-- memory was refused
abbrev pub IsMemoryFault : ProgramFault → Type 0
IsMemoryFault fault = fault ≡ program.Stream stream.Memory

-- the writer failed
abbrev pub IsWriteFault : ProgramFault → Type 0
IsWriteFault fault = fault ≡ program.Stream stream.Write

-- so it is of what these words say; or memory was refused to read them; or they say no command, and
-- the text that they ask for wasn't written
-- rule: exit-status
abbrev pub IsFaultIn : List Text → ProgramFault → Type 0
IsFaultIn texts fault = SaysSo texts (λ said. IsFaultOf said fault)
    ⊎ (IsMemoryFault fault ⊎ (((said : ProgramWords) → ¬ IsSaid texts said) × IsWriteFault fault))
