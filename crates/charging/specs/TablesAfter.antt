-- The tables of accepted commands are a function of them: each row is what its account's ledger
-- sums to.
-- Source: profile.
use Rattle.std.specs.Prelude.{◌≡◌, List, [], Some, option_map, take, length}
use Rattle.units.specs.Words.{Moment, Seconds}
use Rattle.commands.specs.declared.answer.Answer.{Answer}
use Rattle.shelves.specs.Shelves.{Shelf}
use Rattle.ledger.specs.Ledger.{Ledger, is_barred, next_bucket, next_charge}
use Rattle.ledger.specs.Pricing.{cycle_at, validity_of}
use Rattle.ledger.specs.Balance.{buckets_at}
use Rattle.reserving.specs.Left.{bucket_in}
use Rattle.reserving.specs.Sessions.{session_at, group_at, counter_at}
use Rattle.keepers.specs.Tables.{Rows, Tables, no_tables, group_row, held_of}
use Rattle.charging.specs.declared.running.DatedCommand.{DatedCommand}
use Rattle.charging.specs.Accepted.{Accepted, as_of}
use Rattle.charging.specs.Served.{AreTables}
use Rattle.charging.specs.Runs.{Runs, answers_to, after_commands}
use Rattle.charging.specs.Promise.{tables_after}

-- the rows of an account that is there, at a moment
abbrev pub rows_at : Shelf → Moment → Ledger → Rows
rows_at shelf t ledger = record {
  head = Some (record {
    as_of = t;
    barred = is_barred ledger;
    next_bucket = next_bucket ledger;
    next_charge = next_charge ledger;
  });
  buckets = λ n. bucket_in n (buckets_at v t ledger);
  counters = λ g c. counter_at (cycle_at shelf g) ledger g c;
  sessions = λ s. session_at v t ledger s;
  groups = λ s g. option_map group_row (group_at v t ledger s g);
  holds = λ s g n. held_of n (group_at v t ledger s g);
}
  where
    v : Moment → Seconds
    v = validity_of shelf

-- tables of accepted commands are these
abbrev pub TablesAreAFunction : Type 0
TablesAreAFunction = (shelf : Shelf) (list : List Accepted) (tables : Tables) →
    AreTables shelf list tables → tables ≡ tables_after shelf list

-- a run from nothing: its answers and its tables are functions of the shelf and of those commands
-- that it answered
pub record IsRunFromNothing (shelf : Shelf) (commands : List DatedCommand) (new : Tables)
    (given : List Answer) : Type 0 where
  pub answers : given ≡ answers_to shelf [] (take (length given) commands)
  pub tables : new
      ≡ tables_after shelf (after_commands shelf [] (take (length given) commands))

abbrev pub RunsFromNothing : Type 0
RunsFromNothing = (shelf : Shelf) (commands : List DatedCommand) (new : Tables)
    (given : List Answer) → Runs shelf commands no_tables new given →
    IsRunFromNothing shelf commands new given
