-- What a run promises in equations, from what it says of each list of accepted commands whose
-- tables a keeper held; and back.
use Rattle.std.proofs.Common.{◌≡◌, ℕ, List, Option, Some, None, ◌⊎◌, inl, inr, ◌≤◌, ◌<◌, arith}
use Rattle.std.specs.Prelude.{IfNone, IfSome, length, take}
use Rattle.shelves.specs.Shelves.{Shelf, IsShelf}
use Rattle.keepers.specs.Seen.{Seen}
use Rattle.keepers.specs.Tables.{Tables}
use Rattle.charging.specs.declared.answers.Run.{Run}
use Rattle.charging.specs.declared.running.DatedCommand.{DatedCommand}
use Rattle.charging.specs.Runs as relation
use Rattle.charging.specs.Headline.{AreAccounted}
use Rattle.charging.specs.Promise.{From, IsFound, RunsOver}
use Rattle.charging.proofs.lists.InRange.{equations_are_enough, ranges_of}
use Rattle.charging.proofs.runs.RunLemmas.{time_after}
use Rattle.charging.proofs.runs.TablesAfter.{tables_are_a_function}

found : (shelf : Shelf) → IsShelf shelf → (commands : List DatedCommand) (old left : Tables)
    (run : Run) → relation.AreHeld shelf commands old run.answers.items left →
    From shelf old (IsFound shelf commands run left)
found shelf is commands old left run h list time ranges e =
    let held = h list time (equations_are_enough shelf is list time old ranges e) in
    record {
      count = held.count;
      all = held.all;
      one_more = held.one_more;
      tables = tables_are_a_function shelf _ left held.tables;
      ranges = ranges_of shelf _ left held.tables;
    }

-- rule: ledger.runs-over
pub promised : (shelf : Shelf) → IsShelf shelf → (commands : List DatedCommand) (old new : Seen)
    (run : Run) → relation.RunsOver shelf commands old new run →
    (new.clean → AreAccounted shelf commands old.tables new.tables run.answers.items) →
    RunsOver shelf commands old new run
promised shelf is commands old new run h accounted = record {
  ends = record { whole = h.whole; stopped = h.stopped };
  answers = λ honest list time ranges e.
      h.answered honest list time (equations_are_enough shelf is list time old.tables ranges e);
  tables = λ clean list time ranges e.
      let run = h.runs clean list time (equations_are_enough shelf is list time old.tables ranges e)
      in
      record {
        are = tables_are_a_function shelf _ new.tables run.tables;
        ranges = ranges_of shelf _ new.tables run.tables;
        time = run.time;
      };
  paid = λ clean list time ranges e a head there.
      let paid = accounted clean list time
      (equations_are_enough shelf is list time old.tables ranges e) a head there in
      record { balanced = paid.balanced; uses = paid.paid; quotas = paid.quotas };
  unchanged = h.unchanged;
  stop = λ honest left stopped. (
    λ clean. found shelf is commands old.tables left run (h.held honest clean left stopped),
    either left (h.left honest left stopped),
  );
  keeper = record {
    clean = h.cleanness;
    honest = h.honesty;
    stands = h.stands;
    failures = h.failures;
    cause = h.cause;
  };
}
  where
    either : (left : Tables) → old.left left ⊎ relation.AreHeld shelf commands old.tables
        run.answers.items left →
        old.left left ⊎ From shelf old.tables (IsFound shelf commands run left)
    either left (inl was) = inl was
    either left (inr x) = inr (found shelf is commands old.tables left run x)

-- ---- and back

held_back : (shelf : Shelf) → IsShelf shelf → (commands : List DatedCommand) (old left : Tables)
    (run : Run) → From shelf old (IsFound shelf commands run left) →
    relation.AreHeld shelf commands old run.answers.items left
held_back shelf is commands old left run h list time tables =
    let found = h list time (ranges_of shelf list old tables)
    (tables_are_a_function shelf list old tables) in
    record {
      count = found.count;
      all = found.all;
      one_more = found.one_more;
      tables = equations_are_enough shelf is _
          (time_after shelf list (take found.count commands) time) left found.ranges found.tables;
    }

no_more : {F : Type 0} (fault : Option F) (n m : ℕ) → IfNone fault (n ≡ m) →
    IfSome fault (λ _. n < m) → n ≤ m
no_more None n m all few = omega (arith, all)
no_more (Some f) n m all few = omega (arith, few)

-- rule: ledger.runs-over
pub related : (shelf : Shelf) → IsShelf shelf → (commands : List DatedCommand) (old new : Seen)
    (run : Run) → (new.clean → new.honest) → RunsOver shelf commands old new run →
    relation.RunsOver shelf commands old new run
related shelf is commands old new run honest h = record {
  runs = λ clean list time tables.
      let ranges = ranges_of shelf list old.tables tables in
      let are = tables_are_a_function shelf list old.tables tables in
      let after = h.tables clean list time ranges are in
      record {
        answers = h.answers (honest clean) list time ranges are;
        tables = equations_are_enough shelf is _ after.time new.tables after.ranges after.are;
        time = after.time;
      };
  beginning = no_more run.fault (length run.answers.items) (length commands) h.ends.whole
      h.ends.stopped;
  whole = h.ends.whole;
  stopped = h.ends.stopped;
  unchanged = h.unchanged;
  cleanness = h.keeper.clean;
  honesty = h.keeper.honest;
  answered = λ honest list time tables.
      h.answers honest list time (ranges_of shelf list old.tables tables)
      (tables_are_a_function shelf list old.tables tables);
  stands = h.keeper.stands;
  held = λ honest clean left stopped.
      held_back shelf is commands old.tables left run ((h.stop honest left stopped).0 clean);
  left = λ honest left stopped. either left (h.stop honest left stopped).1;
  failures = h.keeper.failures;
  cause = h.keeper.cause;
}
  where
    either : (left : Tables) →
        old.left left ⊎ From shelf old.tables (IsFound shelf commands run left) →
        old.left left ⊎ relation.AreHeld shelf commands old.tables run.answers.items left
    either left (inl was) = inl was
    either left (inr x) = inr (held_back shelf is commands old.tables left run x)
