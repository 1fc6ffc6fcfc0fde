-- A run of dated commands: the answers, and the list of accepted commands after it.
-- Source: profile.
use Rattle.std.specs.Prelude.{◌≡◌, ◌≤◌, ◌<◌, ◌+◌, ℕ, List, [], ◌∷◌, ◌++◌, Some, take, length, min}
use Rattle.std.specs.Prelude.{IfNone, IfSome}
use Rattle.commands.specs.declared.answer.Answer.{Answer}
use Rattle.charging.specs.declared.answers.Run.{Run}
use Rattle.charging.specs.declared.running.DatedCommand.{DatedCommand}
use Rattle.shelves.specs.Shelves.{Shelf}
use Rattle.keepers.specs.Faults.{max_failures}
use Rattle.keepers.specs.Seen.{Seen}
use Rattle.keepers.specs.Tables.{Tables}
use Rattle.keepers.specs.declared.fault.StoreFault.TheVariants.{Store}
use Rattle.charging.specs.Accepted.{Accepted, IsInTime}
use Rattle.charging.specs.Parts.{Leaves}
use Rattle.charging.specs.Served.{AreTables, moment_of, answer_to, with_command}

-- the list after a command that is handed in with a moment
abbrev pub after_command : Shelf → List Accepted → DatedCommand → List Accepted
after_command b list d = with_command b list d.command (moment_of list d.moment)

-- the answers to dated commands, each after those before it
-- rule: store-faults
abbrev pub answers_to : Shelf → List Accepted → List DatedCommand → List Answer
answers_to b list [] = []
answers_to b list (d ∷ ds) = answer_to b list d.command (moment_of list d.moment)
    ∷ answers_to b (after_command b list d) ds

-- the list of accepted commands after them
-- rule: store-faults
abbrev pub after_commands : Shelf → List Accepted → List DatedCommand → List Accepted
after_commands b list [] = list
after_commands b list (d ∷ ds) = after_commands b (after_command b list d) ds

-- the answers are those of a beginning of the commands, and the tables are those of the list after
-- it
pub record IsRun (b : Shelf) (list : List Accepted) (commands : List DatedCommand) (new : Tables)
    (given : List Answer) : Type 0 where
  pub answers : given ≡ answers_to b list (take (length given) commands)
  pub tables : AreTables b (after_commands b list (take (length given) commands)) new
  pub time : IsInTime (after_commands b list (take (length given) commands))

-- for every list of accepted commands whose tables a keeper holds
-- rule: store-faults
abbrev pub Runs : Shelf → List DatedCommand → Tables → Tables → List Answer → Type 0
Runs b commands old new given = (list : List Accepted) → IsInTime list → AreTables b list old →
    IsRun b list commands new given

-- so are the answers, whatever became of the tables
abbrev pub AreAnswered : Shelf → List DatedCommand → Tables → List Answer → Type 0
AreAnswered b commands old given = (list : List Accepted) → IsInTime list → AreTables b list old →
    given ≡ answers_to b list (take (length given) commands)

-- tables are those of a beginning of the commands that has each one answered, and at most one more
-- rule: stop-run
pub record IsHeld (b : Shelf) (list : List Accepted) (commands : List DatedCommand)
    (given : List Answer) (held : Tables) : Type 0 where
  pub count : ℕ
  pub all : length given ≤ count
  pub one_more : count ≤ length given + 1
  pub tables : AreTables b (after_commands b list (take count commands)) held

-- rule: stop-run
abbrev pub AreHeld : Shelf → List DatedCommand → Tables → List Answer → Tables → Type 0
AreHeld b commands old given held = (list : List Accepted) → IsInTime list → AreTables b list old →
    IsHeld b list commands given held

-- one run after another is a run: of the commands that the first one answered, and of the second
-- one's
-- rule: runs.run-of-both: one run after another is a run
abbrev pub IsRunOfBoth : Type 0
IsRunOfBoth =
    (b : Shelf) (list : List Accepted) (first second : List DatedCommand) (between new : Tables)
    (given more : List Answer) → IsRun b list first between given →
    Runs b second between new more →
    IsRun b list (take (length given) first ++ second) new (given ++ more)

-- what a run leaves of a keeper, and where it stops
pub record RunsOver (b : Shelf) (commands : List DatedCommand) (old new : Seen)
    (run : Run) : Type 0 where
  pub runs : new.clean → Runs b commands old.tables new.tables run.answers.items
  pub beginning : length run.answers.items ≤ length commands
  pub whole : IfNone run.fault (length run.answers.items ≡ length commands)
  pub stopped : IfSome run.fault (λ fault. length run.answers.items < length commands)
  pub unchanged : new.clean → run.answers.items ≡ [] → new.tables ≡ old.tables
  pub cleanness : new.clean → old.clean
  pub honesty : new.honest → old.honest
  pub answered : new.honest → AreAnswered b commands old.tables run.answers.items
  pub stands : new.honest → old.clean → IfNone run.fault new.clean
  pub held : new.honest → old.clean → (t : Tables) → new.left t →
      AreHeld b commands old.tables run.answers.items t
  pub left : Leaves old new (AreHeld b commands old.tables run.answers.items)
  pub failures : old.failed ≤ new.failed
  pub cause : run.fault ≡ Some Store → min (old.failed + 1) max_failures ≤ new.failed
