-- What the tables of a run say of an account, and of a command that comes again.
use Rattle.std.proofs.Common.{◌≡◌, ℕ, List, ◌∷◌, sym, subst, ◌∙◌, take, length, Some}
use Rattle.std.specs.Prelude.{Result, Ok, Err, IfOk}
use Rattle.commands.specs.declared.answer.Answer.{Answer}
use Rattle.commands.specs.declared.command.Command.{Command}
use Rattle.shelves.specs.Shelves.{Shelf, IsShelf}
use Rattle.reserving.proofs.Lists.{some_of}
use Rattle.keepers.specs.declared.fault.StoreFault.{StoreFault}
use Rattle.keepers.specs.Tables.{Head, Tables, head_of}
use Rattle.keepers.specs.Change.{AreRowsAt}
use Rattle.keepers.proofs.Told.{buckets_told}
use Rattle.charging.specs.Accepted.{Accepted, as_of, IsInTime}
use Rattle.charging.specs.declared.running.DatedCommand.{DatedCommand}
use Rattle.charging.specs.Served.{AreTables, history, moment_of, IsServed, Serves}
use Rattle.charging.specs.Runs.{after_commands, IsRun, Runs}
use Rattle.charging.specs.Paid.{reports_of}
use Rattle.charging.specs.Headline.{IsAccounted, AreAccounted}
use Rattle.charging.specs.Repeats.{IsAnsweredAgain}
use Rattle.charging.proofs.runs.AcceptedTables.{row_some}
use Rattle.charging.proofs.charges.Paying.{IsPaying, paying_none, keeps_paying}
use Rattle.charging.proofs.grants.Guaranteed.{IsGuaranteed, guaranteed_none, keeps_guaranteed}
use Rattle.charging.proofs.steps.KeptHistories.{kept_history}
use Rattle.charging.proofs.repeating.Repeated.{answers-once}

-- after a run from a list of accepted commands on
pub accounted_from : (b : Shelf) (list : List Accepted) (commands : List DatedCommand)
    (new : Tables) (given : List Answer) → IsShelf b → IsRun b list commands new given →
    (a : List ℕ) (head : Head) → (new.rows a).head ≡ Some head →
    IsAccounted b (reports_of b a (after_commands b list (take (length given) commands)))
    (history b a (after_commands b list (take (length given) commands))).ledger head.as_of
    (new.rows a) (new.charges a)
accounted_from b list commands new given ranges run a head found =
    let after : List Accepted = after_commands b list (take (length given) commands) in
    let row = row_some b (as_of a after) (history b a after) (new.rows a) head found
    (run.tables.accounts a) in
    let same : head ≡ head_of row.1.listed =
    some_of head (head_of row.1.listed) (sym found ∙ row.1.are.head) in
    let moment : as_of a after ≡ head.as_of = sym row.1.moment ∙ (λ i. (sym same i).as_of) in
    let told = buckets_told b (history b a after).ledger head.as_of (new.rows a)
    (subst (λ m. AreRowsAt b (history b a after).ledger m (new.rows a)) moment row.1) in
    record {
      buckets = told.0;
      balanced = told.1;
      charges = run.tables.charges a;
      paid = (kept_history b (IsPaying b) (keeps_paying b) (paying_none b) a after).paid;
      quotas = (kept_history b (IsGuaranteed b) (keeps_guaranteed b ranges)
          (guaranteed_none b) a after).quotas;
    }

-- rule: ledger.runs-over
pub accounted : (b : Shelf) (commands : List DatedCommand) (old new : Tables)
    (given : List Answer) →
    IsShelf b → Runs b commands old new given → AreAccounted b commands old new given
accounted b commands old new given ranges runs list time tables =
    accounted_from b list commands new given ranges (runs list time tables)

-- rule: repeat.answers-once
pub answered_again : (b : Shelf) (c : Command) (t : ℕ) (old new : Tables) (given : Answer) →
    ((list : List Accepted) → IsInTime list → AreTables b list old →
    IsServed b list c (moment_of list t) old new given) →
    IsAnsweredAgain b c old new given
answered_again b c t old new given served before first between key taken time tables =
    let list : List Accepted =
    after_commands b (record { moment = first; command = c } ∷ before) between in
    let now : IsServed b list c (moment_of list t) old new given = served list time tables in (
      now.answer ∙ (answers-once b before c first between (moment_of list t) key taken).answer,
      now.same (answers-once b before c first between (moment_of list t) key taken).accepted,
    )

pub served_again : (b : Shelf) (c : Command) (t : ℕ) (old new : Tables)
    (result : Result Answer StoreFault) → Serves b c t old new result →
    IfOk result (IsAnsweredAgain b c old new)
served_again b c t old new (Ok given) served = answered_again b c t old new given served
served_again b c t old new (Err fault) served = tt
