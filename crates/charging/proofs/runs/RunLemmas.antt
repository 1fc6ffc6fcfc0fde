-- The answers and the list of accepted commands as a run goes on.
use Rattle.std.proofs.Common.{◌≡◌, ◌+◌, ◌≤◌, Bool, true, false, List, [], ◌∷◌, ◌++◌, length, take}
use Rattle.std.proofs.Common.{refl, sym, ap, subst, ◌∙◌, arith, suc, drop}
use Rattle.std.proofs.lemmas.List.{length-append, append_assoc, take-append-drop}
use Rattle.std.proofs.Math.Seq.{take-append_seam}
use Rattle.std.proofs.Math.Nat.{le-max_right}
use Rattle.std.specs.Prelude.{if◌then◌else◌}
use Rattle.commands.specs.declared.answer.Answer.{Answer}
use Rattle.shelves.specs.Shelves.{Shelf}
use Rattle.keepers.specs.Tables.{Tables}
use Rattle.charging.specs.Accepted.{Accepted, last_moment, IsInTime}
use Rattle.charging.specs.declared.running.DatedCommand.{DatedCommand}
use Rattle.charging.specs.Served.{AreTables, moment_of, answer_to, accepts, IsServed}
use Rattle.charging.specs.Runs.{after_command, answers_to, after_commands, IsRun, IsRunOfBoth}

-- ---- one command more

-- rule: command-moment
pub time-more : (b : Shelf) (list : List Accepted) (d : DatedCommand) → IsInTime list →
    IsInTime (after_command b list d)
time-more b list d time = at (accepts b list d.command (moment_of list d.moment))
  where
    at : (v : Bool) → IsInTime
        (if v then record { moment = moment_of list d.moment; command = d.command } ∷ list
        else list)
    at true = (le-max_right d.moment (last_moment list), time)
    at false = time

pub time_after : (b : Shelf) (list : List Accepted) (ds : List DatedCommand) → IsInTime list →
    IsInTime (after_commands b list ds)
time_after b list [] time = time
time_after b list (d ∷ ds) time = time_after b (after_command b list d) ds (time-more b list d time)

answers-more : (b : Shelf) (list : List Accepted) (ds : List DatedCommand) (d : DatedCommand) →
    answers_to b list (ds ++ d ∷ []) ≡
    answers_to b list ds ++ answer_to b (after_commands b list ds) d.command
    (moment_of (after_commands b list ds) d.moment) ∷ []
answers-more b list [] d = refl
answers-more b list (e ∷ ds) d =
    ap (λ (given : List Answer). answer_to b list e.command (moment_of list e.moment) ∷ given)
    (answers-more b (after_command b list e) ds d)

pub commands_after : (b : Shelf) (list : List Accepted) (xs ys : List DatedCommand) →
    after_commands b list (xs ++ ys) ≡ after_commands b (after_commands b list xs) ys
commands_after b list [] ys = refl
commands_after b list (x ∷ xs) ys = commands_after b (after_command b list x) xs ys

pub commands-more : (b : Shelf) (list : List Accepted) (ds : List DatedCommand) (d : DatedCommand) →
    after_commands b list (ds ++ d ∷ []) ≡ after_command b (after_commands b list ds) d
commands-more b list ds d = commands_after b list ds (d ∷ [])

-- ---- so far

-- the answers are those of these commands, and the tables those of the list after them
pub record IsSoFar (b : Shelf) (list : List Accepted) (ds : List DatedCommand) (new : Tables)
    (given : List Answer) : Type 0 where
  pub answers : given ≡ answers_to b list ds
  pub tables : AreTables b (after_commands b list ds) new
  pub time : IsInTime (after_commands b list ds)

abbrev pub RunsSoFar : Shelf → List DatedCommand → Tables → Tables → List Answer → Type 0
RunsSoFar b ds old new given = (list : List Accepted) → IsInTime list → AreTables b list old →
    IsSoFar b list ds new given

-- rule: store-faults
pub so-far-more : (b : Shelf) (list : List Accepted) (ds : List DatedCommand) (d : DatedCommand)
    (mid new : Tables) (given all : List Answer) (x : Answer) → IsSoFar b list ds mid given →
    IsServed b (after_commands b list ds) d.command (moment_of (after_commands b list ds) d.moment)
    mid new x → all ≡ given ++ x ∷ [] → IsSoFar b list (ds ++ d ∷ []) new all
so-far-more b list ds d mid new given all x so served grown = record {
  answers = grown ∙ (λ i. so.answers i ++ served.answer i ∷ []) ∙ sym (answers-more b list ds d);
  tables = subst (λ (l : List Accepted). AreTables b l new)
      (sym (commands-more b list ds d)) served.tables;
  time = subst IsInTime (sym (commands-more b list ds d))
      (time-more b (after_commands b list ds) d so.time);
}

-- the commands that were answered are a beginning of all
-- rule: store-faults
pub run-of : (b : Shelf) (list : List Accepted) (commands ds rest : List DatedCommand)
    (new : Tables)
    (given : List Answer) → ds ++ rest ≡ commands → length given ≡ length ds →
    IsSoFar b list ds new given → IsRun b list commands new given
run-of b list commands ds rest new given all count so =
    let begun : take (length given) commands ≡ ds = (λ i. take (count i) (sym all i))
    ∙ take-append_seam ds rest in
    record {
      answers = so.answers ∙ ap (answers_to b list) (sym begun);
      tables = subst (λ (x : List DatedCommand). AreTables b (after_commands b list x) new)
          (sym begun) so.tables;
      time = subst (λ (x : List DatedCommand). IsInTime (after_commands b list x))
          (sym begun) so.time;
    }

pub begun-length : (commands ds rest : List DatedCommand) (given : List Answer) →
    ds ++ rest ≡ commands → length given ≡ length ds → length given ≤ length commands
begun-length commands ds rest given all count =
    let long : length ds + length rest ≡ length commands = sym (length-append ds rest)
    ∙ ap length all in
    omega (arith, long, count)

-- ---- one run after another

pub answers_after : (b : Shelf) (list : List Accepted) (xs ys : List DatedCommand) →
    answers_to b list (xs ++ ys) ≡
    answers_to b list xs ++ answers_to b (after_commands b list xs) ys
answers_after b list [] ys = refl
answers_after b list (x ∷ xs) ys =
    ap (λ (given : List Answer). answer_to b list x.command (moment_of list x.moment) ∷ given)
    (answers_after b (after_command b list x) xs ys)

pub answers_count : (b : Shelf) (list : List Accepted) (ds : List DatedCommand) →
    length (answers_to b list ds) ≡ length ds
answers_count b list [] = refl
answers_count b list (d ∷ ds) = ap suc (answers_count b (after_command b list d) ds)

both_so_far : (b : Shelf) (list : List Accepted) (xs ys : List DatedCommand) (new : Tables)
    (given more : List Answer) → given ≡ answers_to b list xs →
    IsSoFar b (after_commands b list xs) ys new more →
    IsSoFar b list (xs ++ ys) new (given ++ more)
both_so_far b list xs ys new given more first second = record {
  answers = (λ i. first i ++ second.answers i) ∙ sym (answers_after b list xs ys);
  tables = subst (λ (l : List Accepted). AreTables b l new) (sym (commands_after b list xs ys))
      second.tables;
  time = subst IsInTime (sym (commands_after b list xs ys)) second.time;
}

-- rule: runs.run-of-both
pub run_of_both : IsRunOfBoth
run_of_both b list first second between new given more h runs =
    let xs : List DatedCommand = take (length given) first in
    let ys : List DatedCommand = take (length more) second in
    let rest : List DatedCommand = drop (length more) second in
    let next : IsRun b (after_commands b list xs) second new more =
    runs (after_commands b list xs) h.time h.tables in
    let so : IsSoFar b list (xs ++ ys) new (given ++ more) =
    both_so_far b list xs ys new given more h.answers
    (record { answers = next.answers; tables = next.tables; time = next.time }) in
    let all : (xs ++ ys) ++ rest ≡ xs ++ second = append_assoc xs ys rest
    ∙ ap (λ (cs : List DatedCommand). xs ++ cs) (take-append-drop (length more) second) in
    run-of b list (xs ++ second) (xs ++ ys) rest new (given ++ more) all
    (ap length so.answers ∙ answers_count b list (xs ++ ys)) so
