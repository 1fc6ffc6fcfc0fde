-- Which faults a call reports.
-- Source: profile.
use Rattle.std.specs.Prelude.{◌≡◌, Option, None}
use Rattle.units.specs.Words.{Moment}
use Rattle.sql_tables.specs.declared.fault.OpenFault.{OpenFault}
use Rattle.operations.specs.declared.fault.OfficeFault.{OfficeFault}
use Rattle.operations.specs.declared.fault.OfficeFault.TheVariants as office
use Rattle.service.specs.declared.fault.DatabaseFault.{DatabaseFault}
use Rattle.service.specs.declared.fault.DatabaseFault.TheVariants.{File, Clock, Open}
use Rattle.service.specs.declared.fault.DatabaseFault.TheVariants.{Memory, Office}

-- this is so of why the tables weren't opened, which is reported as the fault
-- rule: database-words
pub record IsNotFound (left : OpenFault → Type 0) (fault : DatabaseFault) : Type 0 where
  pub opened : OpenFault
  pub is : fault ≡ Open opened
  pub was : left opened

-- one of a file, of the tables of its database, or of memory
-- rule: database-words
abbrev pub IsUnopened : DatabaseFault → Type 0
IsUnopened File = Unit {0}
IsUnopened (Open fault) = Unit {0}
IsUnopened Memory = Unit {0}
IsUnopened _ = ⊥

-- one of the office's
abbrev pub IsOfficeFault : DatabaseFault → Type 0
IsOfficeFault (Office fault) = Unit {0}
IsOfficeFault _ = ⊥

-- one of a command over a database: of the clock only where the words say no moment
abbrev pub IsCommandFault : Option Moment → DatabaseFault → Type 0
IsCommandFault at File = Unit {0}
IsCommandFault at Clock = at ≡ None
IsCommandFault at (Open fault) = Unit {0}
IsCommandFault at Memory = Unit {0}
IsCommandFault at (Office fault) = Unit {0}
IsCommandFault at _ = ⊥

-- the command wasn't carried out, so it has no answer
abbrev pub IsUncarried : OfficeFault → Type 0
IsUncarried (office.Store fault) = Unit {0}
IsUncarried (office.Write fault) = ⊥

abbrev pub IsUnanswered : DatabaseFault → Type 0
IsUnanswered (Office fault) = IsUncarried fault
IsUnanswered _ = Unit {0}

-- it came before the office was asked
abbrev pub IsUnasked : DatabaseFault → Type 0
IsUnasked (Office fault) = ⊥
IsUnasked _ = Unit {0}
