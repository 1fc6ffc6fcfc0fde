-- What the first selection of a load gives once a change is written.
use Rattle.std.proofs.Common.{◌≡◌, ℕ, Bool, true, false, List, Option, Some, None, refl, sym, ap}
use Rattle.std.proofs.Common.{subst, ◌∙◌}
use Rattle.std.specs.Prelude.{◌==◌, ◌++◌, if◌then◌else◌, filter, is_some, not}
use Rattle.std.specs.Option.{option_or}
use Rattle.std.proofs.lemmas.List.Folds.{find-append}
use Rattle.sqlite_trees.specs.Tree.{Trees}
use Rattle.reserving.specs.declared.session.Counter.{Counter}
use Rattle.reserving.specs.Left.{first_of}
use Rattle.reserving.specs.Sessions.{counter_in, is_counter}
use Rattle.reserving.proofs.Keys.{first_true, same_number, second_true}
use Rattle.keepers.specs.Change.{over}
use Rattle.keepers.specs.Tables.{Rows}
use Rattle.keepers.specs.declared.loaded.Change.{Change}
use Rattle.sql_rows.specs.Content.{TableRows, rows_in}
use Rattle.sql_rows.specs.Lists.{AreCountersIn}
use Rattle.sql_rows.specs.declared.head_counter_rows.HeadCycles.{HeadCycles}
use Rattle.sql_keeper.specs.Content.{Names, told_rows}
use Rattle.sql_keeper.specs.FirstOver.{counters_over, IsFirstOver, IsSeenOver, stays_counter}
use Rattle.sql_keeper.specs.KeptRows.{BecomesOver}
use Rattle.sql_keeper.specs.SeenFirst.{IsFirstRead}
use Rattle.sql_keeper.specs.declared.seen_first.AskedCycles.{AskedCycles}
use Rattle.sql_keeper.specs.declared.seen_first.SeenFirst.{SeenFirst}
use Rattle.sql_keeper.proofs.kept.KeptRows.{told_of}
use Rattle.sql_keeper.proofs.kept.SeenRows.{head_back}
use Rattle.sql_keeper.proofs.loads.LiveRows.{find_kept}

-- ---- the counters of one cycle

-- one that is named is the first, and one that isn't is as it was
first_kept : (t : Bool) (n o : Option Counter)
    → option_or (if t then n else None) (if not (is_some n) then (if t then o else None) else None)
    ≡ (if t then first_of n o else None)
first_kept true None o = refl
first_kept true (Some y) o = refl
first_kept false None o = refl
first_kept false (Some y) o = refl

counters_told : (cycle : ℕ) (old new : TableRows) (ws xs ys : List Counter)
    → ((g c : ℕ) → new.counters g c ≡ first_of (counter_in g c ws) (old.counters g c))
    → ys ≡ counters_over cycle ws xs → AreCountersIn cycle old xs → AreCountersIn cycle new ys
counters_told cycle old new ws xs ys told is read g c =
    ap (counter_in g c) is
    ∙ find-append (is_counter g c) (filter (λ (x : Counter). x.cycle == cycle) ws)
    (filter (stays_counter ws) xs)
    ∙ (λ i. option_or (named i) (others i))
    ∙ first_kept (c == cycle) (counter_in g c ws) (old.counters g c)
    ∙ ap (λ o. if c == cycle then o else None) (sym (told g c))
  where
    named : counter_in g c (filter (λ (x : Counter). x.cycle == cycle) ws)
        ≡ (if c == cycle then counter_in g c ws else None)
    named = find_kept (is_counter g c) (λ x. x.cycle == cycle) (c == cycle)
        (λ x e. ap (λ n. n == cycle)
        (same_number x.cycle c (second_true (x.group == g) (x.cycle == c) e))) ws

    others : counter_in g c (filter (stays_counter ws) xs)
        ≡ (if not (is_some (counter_in g c ws)) then (if c == cycle then old.counters g c else None)
        else None)
    others = find_kept (is_counter g c) (stays_counter ws) (not (is_some (counter_in g c ws)))
        (λ x e. λ i. not (is_some (counter_in
        (same_number x.group g (first_true (x.group == g) (x.cycle == c) e) i)
        (same_number x.cycle c (second_true (x.group == g) (x.cycle == c) e) i) ws))) xs
        ∙ ap (λ o. if not (is_some (counter_in g c ws)) then o else None) (read g c)

-- ---- all of it

-- rule: database-loads.first
first_changed : (names : Names) (text : List ℕ) (change : Change) (old new : Trees)
    (k : AskedCycles) (x y : HeadCycles) → BecomesOver names text change old new
    → IsFirstOver k change.rows x y → IsFirstRead k (rows_in old change.number) x
    → IsFirstRead k (rows_in new change.number) y
first_changed names text change old new k x y becomes is read = record {
  head = is.head ∙ sym (head_back (rows_in new change.number).head change.rows
      (ap (λ (r : Rows). r.head) told));
  never = counters_told k.never (rows_in old change.number) (rows_in new change.number)
      change.rows.counters x.never.items y.never.items counters is.never read.never;
  daily = λ asked. counters_told k.day (rows_in old change.number) (rows_in new change.number)
      change.rows.counters x.daily.items y.daily.items counters is.daily (read.daily asked);
  monthly = λ asked. counters_told k.month (rows_in old change.number)
      (rows_in new change.number) change.rows.counters x.monthly.items y.monthly.items counters
      is.monthly (read.monthly asked);
}
  where
    told : told_rows names (rows_in new change.number)
        ≡ over change.rows (told_rows names (rows_in old change.number))
    told = told_of names text change old new becomes

    counters : (g c : ℕ) → (rows_in new change.number).counters g c
        ≡ first_of (counter_in g c change.rows.counters) ((rows_in old change.number).counters g c)
    counters g c = ap (λ (r : Rows). r.counters g c) told

pub seen_changed : (names : Names) (text : List ℕ) (change : Change) (old new : Trees)
    (x y : SeenFirst) → BecomesOver names text change old new → IsSeenOver change.rows x y
    → IsFirstRead x.asked (rows_in old change.number) x.read
    → IsFirstRead y.asked (rows_in new change.number) y.read
seen_changed names text change old new x y becomes is read =
    subst (λ k. IsFirstRead k (rows_in new change.number) y.read) (sym is.cycles)
    (first_changed names text change old new x.asked x.read y.read becomes is.over read)
