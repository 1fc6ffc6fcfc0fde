-- What holds of every list of accepted commands that a keeper's tables may be of, and that the list
-- goes on.
-- Source: profile.
use Rattle.std.specs.Prelude.{◌≤◌, List}
use Rattle.shelves.specs.Shelves.{Shelf}
use Rattle.keepers.specs.Seen.{Seen}
use Rattle.keepers.specs.Tables.{Tables}
use Rattle.charging.specs.declared.running.DatedCommand.{DatedCommand}
use Rattle.charging.specs.Accepted.{Accepted, IsInTime}
use Rattle.charging.specs.Parts.{Leaves}
use Rattle.charging.specs.Runs.{after_commands}
use Rattle.charging.specs.Served.{AreTables}

-- this is so of every list of accepted commands whose tables these are
abbrev pub ForEachList : Shelf → Tables → (List Accepted → Type 0) → Type 0
ForEachList b tables says = (list : List Accepted) → IsInTime list →
    AreTables b list tables → says list

-- some dated commands came to the list, in time, and these are its tables then
-- rule: http-end, request-lines, port
pub record IsContinued (b : Shelf) (content : Tables) (list : List Accepted) : Type 0 where
  pub commands : List DatedCommand
  pub tables : AreTables b (after_commands b list commands) content
  pub time : IsInTime (after_commands b list commands)

-- whatever list the tables before are of, commands came to it, and the tables after are those of
-- the longer list
abbrev pub Continues : Shelf → Tables → Tables → Type 0
Continues b old new = ForEachList b old (IsContinued b new)

-- a stop leaves what it left before, or, of a keeper that was clean before, tables to which more
-- commands came
abbrev pub LeavesOn : Shelf → Seen → Seen → Type 0
LeavesOn b old new = Leaves old new (λ t. old.clean × Continues b old.tables t)

-- requests leave a keeper so, also where its store fails
-- rule: http-end
pub record GoesOn (b : Shelf) (old new : Seen) : Type 0 where
  pub continued : new.clean → Continues b old.tables new.tables
  pub cleanness : new.clean → old.clean
  pub honesty : new.honest → old.honest
  pub left : LeavesOn b old new
  pub failures : old.failed ≤ new.failed
