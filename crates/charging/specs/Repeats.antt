-- Repeats: a command that comes again with equal content gets its first answer and changes nothing,
-- whatever came between (RFC 8506 section 8.2: CC-Request-Number; references of operators'
-- commands and codes of vouchers: profile).
use Rattle.std.specs.Prelude.{◌≡◌, Bool, true, false, List, ◌∷◌}
use Rattle.units.specs.Words.{Moment}
use Rattle.commands.specs.declared.command.Command.{Command}
use Rattle.shelves.specs.Shelves.{Shelf}
use Rattle.commands.specs.declared.answer.Answer.{Answer}
use Rattle.keepers.specs.Tables.{Tables}
use Rattle.charging.specs.Accepted.{Accepted, IsInTime, about}
use Rattle.charging.specs.declared.running.DatedCommand.{DatedCommand}
use Rattle.charging.specs.Served.{AreTables, answer_to, accepts}
use Rattle.charging.specs.Runs.{after_commands}

-- commands that can be repeated: requests that aren't reads, credits, allowances and redemptions by
-- their keys, and additions of vouchers by their codes
abbrev pub has_key : Command → Bool
has_key c = (about c).keyed

-- the command comes again after these
pub record IsRepeated (b : Shelf) (before after : List Accepted) (c : Command) (t u : Moment)
    : Type 0 where
  pub answer : answer_to b after c u ≡ answer_to b before c t
  pub accepted : accepts b after c u ≡ false

-- once a command with a key is accepted it has one answer for good
-- rule: repeat.answers-once: a repeat has one answer for good
abbrev pub AnswersOnce : Type 0
AnswersOnce =
    (b : Shelf) (list : List Accepted) (c : Command) (t : Moment) (between : List DatedCommand)
    (u : Moment) →
    has_key c ≡ true → accepts b list c t ≡ true →
    IsRepeated b list (after_commands b (record { moment = t; command = c } ∷ list) between) c t u

-- a command that was accepted before gets its first answer, and no table changes
-- rule: repeat.answers-once
abbrev pub IsAnsweredAgain : Shelf → Command → Tables → Tables → Answer → Type 0
IsAnsweredAgain b c old new given =
    (before : List Accepted) (t : Moment) (between : List DatedCommand) → has_key c ≡ true →
    accepts b before c t ≡ true →
    IsInTime (after_commands b (record { moment = t; command = c } ∷ before) between) →
    AreTables b (after_commands b (record { moment = t; command = c } ∷ before) between) old →
    (given ≡ answer_to b before c t) × (new ≡ old)
