-- What a step leaves of a keeper, and what it answers.
-- Source: profile.
use Rattle.std.specs.Prelude.{IfOk, OnOk, Result}
use Rattle.units.specs.Words.{Moment}
use Rattle.commands.specs.declared.answer.Answer.{Answer}
use Rattle.commands.specs.declared.command.Command.{Command}
use Rattle.shelves.specs.Shelves.{Shelf}
use Rattle.keepers.specs.Seen.{Seen}
use Rattle.keepers.specs.declared.fault.StoreFault.{StoreFault}
use Rattle.charging.specs.Parts.{Leaves, PartKeeps}
use Rattle.charging.specs.Repeats.{IsAnsweredAgain}
use Rattle.charging.specs.Served.{Serves, Writes}
use Rattle.charging.specs.Stepping.{LeavesRefused}

-- the command is served, or a store fault changes nothing; over an honest store an answer leaves
-- one that can be asked, and a stop leaves what was there, or that with the command
-- rule: runs.serves
pub record StepsOver (b : Shelf) (command : Command) (moment : Moment) (old new : Seen)
    (result : Result Answer StoreFault) : Type 0 where
  -- rule: runs.serves
  pub served : new.clean → Serves b command moment old.tables new.tables result
  -- rule: refused
  pub refused : new.clean → LeavesRefused old.tables new.tables result
  pub kept : PartKeeps old new result
  -- rule: stop-run.writes
  pub stands : new.honest → OnOk result new.clean
  -- rule: stop-run.writes
  pub left : Leaves old new (λ t. old.clean × Writes b command moment old.tables t)
  -- rule: repeat.answers-once
  pub again : new.clean → IfOk result (IsAnsweredAgain b command old.tables new.tables)
