-- A run before books are added to the shelf and one after it are one run over the shelf after it.
use Rattle.std.proofs.Common.{◌≡◌, ℕ, ◌≤◌, ◌<◌, Bool, true, false, List, [], ◌∷◌, ◌++◌, refl}
use Rattle.std.proofs.Common.{sym, ap, subst, ◌∙◌, arith, drop, length}
use Rattle.std.specs.Prelude.{if◌then◌else◌}
use Rattle.std.proofs.lemmas.List.{append_assoc, take-append-drop}
use Rattle.shelves.specs.Shelves.{Shelf}
use Rattle.shelves.specs.Laws.{GoesOnFrom}
use Rattle.charging.specs.Accepted.{Accepted, last_moment, IsInTime}
use Rattle.charging.specs.declared.running.DatedCommand.{DatedCommand}
use Rattle.charging.specs.Served.{AreTables, moment_of, accepts}
use Rattle.charging.specs.Runs.{after_command, answers_to, after_commands, IsRun}
use Rattle.charging.specs.LaterBooks.{LeaveTheSame, AnsweredRun, answered_of, AreBefore, AreInTurn}
use Rattle.charging.specs.LaterBooks.{AreOneRun}
use Rattle.charging.proofs.runs.RunLemmas.{time-more, commands_after, answers_after, answers_count}
use Rattle.charging.proofs.runs.RunLemmas.{IsSoFar, run-of}
use Rattle.charging.proofs.runs.Accounted.{accounted_from}
use Rattle.charging.proofs.added_books.EarlyHistories.{accepted_before, leave_the_same}

-- ---- a run's moments don't fall

last_grows : (b : Shelf) (list : List Accepted) (ds : List DatedCommand) →
    last_moment list ≤ last_moment (after_commands b list ds)
last_grows b list [] = omega arith
last_grows b list (d ∷ ds) =
    let one : last_moment list ≤ last_moment (after_command b list d) =
    at (accepts b list d.command (moment_of list d.moment)) in
    let rest : last_moment (after_command b list d) ≤ last_moment (after_commands b list (d ∷ ds)) =
    last_grows b (after_command b list d) ds in
    omega (arith, one, rest)
  where
    at : (v : Bool) → last_moment list ≤ last_moment
        (if v then record { moment = moment_of list d.moment; command = d.command } ∷ list
        else list)
    at true = omega arith
    at false = omega arith

-- ---- a run before the new books begin

-- the answers are the same, and what is accepted
record IsSameRun (b u : Shelf) (list : List Accepted) (ds : List DatedCommand) : Type 0 where
  answers : answers_to b list ds ≡ answers_to u list ds
  after : after_commands b list ds ≡ after_commands u list ds

module _ (from : ℕ) (b u : Shelf) (on : GoesOnFrom from b u) where
  last_before : (list : List Accepted) (d : DatedCommand) → last_moment list < from →
      d.moment < from → last_moment (after_command b list d) < from
  last_before list d last early = at (accepts b list d.command (moment_of list d.moment))
    where
      at : (v : Bool) → last_moment
          (if v then record { moment = moment_of list d.moment; command = d.command } ∷ list
          else list) < from
      at true = omega (arith, last, early)
      at false = last

  run_same : (list : List Accepted) (ds : List DatedCommand) → IsInTime list →
      last_moment list < from → AreBefore from ds → IsSameRun b u list ds
  run_same list [] time last before = record { answers = refl; after = refl }
  run_same list (d ∷ ds) time last before =
      let t : ℕ = moment_of list d.moment in
      let early : t < from = omega (arith, last, before.0) in
      let same : LeaveTheSame from b u list =
      leave_the_same from b u on list (accepted_before from list time last) in
      let next : after_command b list d ≡ after_command u list d =
      ap (λ v. if v then record { moment = t; command = d.command } ∷ list else list)
      (same.acceptance d.command t early) in
      let rest : IsSameRun b u (after_command b list d) ds =
      run_same (after_command b list d) ds (time-more b list d time)
      (last_before list d last before.0) before.1 in
      let answers : answers_to b (after_command b list d) ds ≡
      answers_to u (after_command u list d) ds =
      rest.answers ∙ ap (λ (l : List Accepted). answers_to u l ds) next in
      record {
        answers = λ i. same.answers d.command t early i ∷ answers i;
        after = rest.after ∙ ap (λ (l : List Accepted). after_commands u l ds) next;
      }

-- ---- both runs

-- the list before the first run is before the new books, too
begun : (list : List Accepted) (x y : AnsweredRun) (h : AreInTurn list x y) →
    last_moment list < h.books.from
begun list x y h =
    let grows : last_moment list ≤ last_moment (after_commands x.shelf list (answered_of x)) =
    last_grows x.shelf list (answered_of x) in
    let last : last_moment (after_commands x.shelf list (answered_of x)) < h.books.from =
    subst (λ m. m < h.books.from) h.first.tables.last h.books.later in
    omega (arith, last, grows)

-- the second run goes on from the list after the first, over its own shelf
second_run : (list : List Accepted) (x y : AnsweredRun) → AreInTurn list x y →
    IsRun y.shelf (after_commands x.shelf list (answered_of x)) y.commands y.new y.given
second_run list x y h =
    let mid : List Accepted = after_commands x.shelf list (answered_of x) in
    let last : last_moment mid < h.books.from =
    subst (λ m. m < h.books.from) h.first.tables.last h.books.later in
    let same : LeaveTheSame h.books.from x.shelf y.shelf mid =
    leave_the_same h.books.from x.shelf y.shelf h.books.goes_on mid
    (accepted_before h.books.from mid h.first.time last) in
    h.second mid h.first.time ((same.tables x.new).0 h.first.tables)

-- the answers of both are those of the commands together, and so are the tables
both_so_far : (list : List Accepted) (x y : AnsweredRun) → AreInTurn list x y →
    IsSoFar y.shelf list (answered_of x ++ answered_of y) y.new (x.given ++ y.given)
both_so_far list x y h =
    let u : Shelf = y.shelf in
    let ds : List DatedCommand = answered_of x in
    let es : List DatedCommand = answered_of y in
    let mid : List Accepted = after_commands x.shelf list ds in
    let same : IsSameRun x.shelf u list ds =
    run_same h.books.from x.shelf u h.books.goes_on list ds h.time (begun list x y h) h.before in
    let second : IsRun u mid y.commands y.new y.given = second_run list x y h in
    let after : after_commands u mid es ≡ after_commands u list (ds ++ es) =
    ap (λ (l : List Accepted). after_commands u l es) same.after
    ∙ sym (commands_after u list ds es) in
    record {
      answers = (λ i. h.first.answers i ++ second.answers i)
          ∙ (λ i. same.answers i ++ answers_to u (same.after i) es)
          ∙ sym (answers_after u list ds es);
      tables = subst (λ (l : List Accepted). AreTables u l y.new) after second.tables;
      time = subst IsInTime after second.time;
    }

-- the commands of both that were answered are a beginning of all
-- rule: joined-runs
both_runs : (list : List Accepted) (x y : AnsweredRun) → AreInTurn list x y →
    IsRun y.shelf list (answered_of x ++ y.commands) y.new (x.given ++ y.given)
both_runs list x y h =
    let ds : List DatedCommand = answered_of x in
    let es : List DatedCommand = answered_of y in
    let rest : List DatedCommand = drop (length y.given) y.commands in
    let so : IsSoFar y.shelf list (ds ++ es) y.new (x.given ++ y.given) = both_so_far list x y h in
    let all : (ds ++ es) ++ rest ≡ ds ++ y.commands = append_assoc ds es rest
    ∙ ap (λ (cs : List DatedCommand). ds ++ cs) (take-append-drop (length y.given) y.commands) in
    run-of y.shelf list (ds ++ y.commands) (ds ++ es) rest y.new (x.given ++ y.given) all
    (ap length so.answers ∙ answers_count y.shelf list (ds ++ es)) so

-- rule: joined-runs
pub one_run : (list : List Accepted) (x y : AnsweredRun) → AreOneRun list x y
one_run list x y h =
    let same : LeaveTheSame h.books.from x.shelf y.shelf list =
    leave_the_same h.books.from x.shelf y.shelf h.books.goes_on list
    (accepted_before h.books.from list h.time (begun list x y h)) in
    record {
      tables = (same.tables x.old).0 h.tables;
      run = both_runs list x y h;
      accounted = accounted_from y.shelf list (answered_of x ++ y.commands) y.new
          (x.given ++ y.given) h.shelf (both_runs list x y h);
    }
