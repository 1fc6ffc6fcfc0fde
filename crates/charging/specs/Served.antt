-- What a command is answered after a list of accepted commands, and the list after it.
-- Source: profile.
use Rattle.std.specs.Prelude.{◌≡◌, Bool, true, false, List, ◌∷◌, Option, Result, if◌then◌else◌, max}
use Rattle.std.specs.Prelude.{MatchResult}
use Rattle.units.specs.Words.{Moment}
use Rattle.identifiers.specs.Words.{AccountName, VoucherCode}
use Rattle.commands.specs.declared.answer.Answer.{Answer}
use Rattle.commands.specs.declared.answer.Answer.TheVariants.{Swept}
use Rattle.commands.specs.declared.command.Command.{Command}
use Rattle.voucher_rules.specs.declared.voucher.Voucher.{Voucher}
use Rattle.shelves.specs.Shelves.{Shelf}
use Rattle.keepers.specs.declared.fault.StoreFault.{StoreFault}
use Rattle.keepers.specs.Tables.{Tables}
use Rattle.charging.specs.Histories.{History, no_history}
use Rattle.charging.specs.Accepted.{Accepted, Concerned, one, each, none, concerned_by, last_moment}
use Rattle.charging.specs.Accepted.{account_count, IsInTime}
use Rattle.charging.specs.Accepted as accepted
use Rattle.charging.specs.Outcomes.{book_days, outcome}
use Rattle.commands.specs.declared.command.Command.TheVariants as command

-- the history of an account after a list of accepted commands
abbrev pub history : Shelf → AccountName → List Accepted → History
history b a list = accepted.history_of (book_days b) (outcome b) a list

-- what is under a code after it
abbrev pub voucher : Shelf → VoucherCode → List Accepted → Option Voucher
voucher b code list = accepted.voucher_under (book_days b) code list

-- and under the code that a command names
abbrev pub standing : Shelf → Command → List Accepted → Option Voucher
standing b c list = accepted.standing_for (book_days b) c list

-- the tables are those of the accepted commands
-- rule: runs.tables: a run before any command
abbrev pub AreTables : Shelf → List Accepted → Tables → Type 0
AreTables b list tables = accepted.AreTablesOf (book_days b) (outcome b) b list tables

-- the moment of a command: the later of the one handed in and that of the last accepted command
-- rule: command-moment: the moment of a command
abbrev pub moment_of : List Accepted → Moment → Moment
moment_of list t = max t (last_moment list)

-- a command's answer at its moment: by what is under the code that it names, and the history of
-- the account that it names, where it names one; a sweep's is the number of accounts
-- rule: runs.serves
abbrev pub answer_to : Shelf → List Accepted → Command → Moment → Answer
answer_to b list c t = answer_on (concerned_by c)
  where
    answer_on : Concerned → Answer
    answer_on each = Swept (account_count list)
    answer_on none = (outcome b (standing b c list) no_history c t).answer
    answer_on (one a) = (outcome b (standing b c list) (history b a list) c t).answer

-- rule: runs.serves
abbrev pub accepts : Shelf → List Accepted → Command → Moment → Bool
accepts b list c t = accepts_on (concerned_by c)
  where
    accepts_on : Concerned → Bool
    accepts_on each = true
    accepts_on none = (outcome b (standing b c list) no_history c t).accepted
    accepts_on (one a) = (outcome b (standing b c list) (history b a list) c t).accepted

-- the list with the command where it is accepted
abbrev pub with_command : Shelf → List Accepted → Command → Moment → List Accepted
with_command b list c t = if accepts b list c t then record { moment = t; command = c } ∷ list
    else list

-- ---- a step

-- the answer is the definition's, and the tables are those of the list with the command where it is
-- accepted, which is in time again; a command that isn't accepted changes no table
pub record IsServed (b : Shelf) (list : List Accepted) (c : Command) (t : Moment) (old new : Tables)
    (given : Answer) : Type 0 where
  pub answer : given ≡ answer_to b list c t
  pub tables : AreTables b (with_command b list c t) new
  pub time : IsInTime (with_command b list c t)
  pub same : accepts b list c t ≡ false → new ≡ old

-- for every list of accepted commands whose tables a keeper holds: the command is served, or the
-- tables are as before
-- rule: runs.serves: one command is served
abbrev pub Serves : Shelf → Command → Moment → Tables → Tables → Result Answer StoreFault → Type 0
Serves b c t old new result =
    (list : List Accepted) → IsInTime list → AreTables b list old →
    MatchResult result (λ given. IsServed b list c (moment_of list t) old new given) (λ fault. new ≡
    old)

-- for every such list: tables are those of the list with the command where it is accepted
-- rule: stop-run.writes: a command over a store that stops answering
abbrev pub Writes : Shelf → Command → Moment → Tables → Tables → Type 0
Writes b c t old new = (list : List Accepted) → IsInTime list → AreTables b list old →
    AreTables b (with_command b list c (moment_of list t)) new
