-- What the first selection of a load would give once a change is written, made of what it gave
-- before.
-- Source: TS 32.296, counters.
use Rattle.std.specs.Prelude.{◌≡◌, ◌==◌, ◌++◌, Bool, List, Some, filter, is_some, not}
use Rattle.units.specs.Words.{CycleNumber}
use Rattle.reserving.specs.declared.session.Counter.{Counter}
use Rattle.reserving.specs.Sessions.{counter_in}
use Rattle.reserving.specs.Stored.{StoredRows}
use Rattle.sql_rows.specs.declared.head_counter_rows.HeadCycles.{HeadCycles}
use Rattle.sql_keeper.specs.Writes.{head_columns_of}
use Rattle.sql_keeper.specs.declared.seen_first.AskedCycles.{AskedCycles}
use Rattle.sql_keeper.specs.declared.seen_first.SeenFirst.{SeenFirst}

-- a counter stays as it is if none of its rating group and cycle is named
abbrev pub stays_counter : List Counter → Counter → Bool
stays_counter ws x = not (is_some (counter_in x.group x.cycle ws))

-- the counters of a cycle: those of it that are named, and the others that there were
abbrev pub counters_over : CycleNumber → List Counter → List Counter → List Counter
counters_over cycle ws xs = filter (λ x. x.cycle == cycle) ws ++ filter (stays_counter ws) xs

-- the head is as the change leaves it, and the counters of each cycle are those over which it names
-- some
-- rule: database-loads.first
pub record IsFirstOver (k : AskedCycles) (w : StoredRows) (x y : HeadCycles) : Type 0 where
  pub head : y.head ≡ Some (head_columns_of w)
  pub never : y.never.items ≡ counters_over k.never w.counters x.never.items
  pub daily : y.daily.items ≡ counters_over k.day w.counters x.daily.items
  pub monthly : y.monthly.items ≡ counters_over k.month w.counters x.monthly.items

-- for the same cycles
pub record IsSeenOver (w : StoredRows) (x y : SeenFirst) : Type 0 where
  pub cycles : y.asked ≡ x.asked
  pub over : IsFirstOver x.asked w x.read y.read
