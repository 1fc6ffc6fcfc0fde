-- The rows that the fields of a store in memory are, and what it keeps.
use Rattle.std.specs.Prelude.{◌≡◌, ◌+◌, ◌≤◌, vec_len, vec_capacity}
use Rattle.keepers.specs.Parts.{Parts, AreParts}
use Rattle.keepers.specs.Named.{AreLeftBuckets, AreLeftCounters, AreLeftSessions, AreLeftGroups}
use Rattle.reserving.specs.Stored.{StoredRows}
use Rattle.keepers.specs.declared.left_rows.LeftStore.{LeftStore}
use Rattle.keepers.specs.declared.known.Known.{Known}
use Rattle.keepers.specs.declared.store.Store.TheInside.{Inside as Fields}

abbrev pub parts_by : StoredRows → LeftStore → Parts
parts_by live left = record {
  live = live;
  left = record {
    buckets = left.buckets.items;
    counters = left.counters.items;
    sessions = left.sessions.items;
    groups = left.groups.items;
  };
}

abbrev pub parts_of : Fields → Parts
parts_of s = parts_by s.live s.left

-- what was left can't change, is known, and with what is live no row has the key of another
pub record AreKeptBy (live : StoredRows) (left : LeftStore) (known : Known) : Type 0 where
  pub parts : AreParts (parts_by live left)
  pub buckets : AreLeftBuckets known.numbers left.buckets.items
  pub counters : AreLeftCounters known.cycles left.counters.items
  pub sessions : AreLeftSessions known.names left.sessions.items
  pub groups : AreLeftGroups known.names left.groups.items

abbrev pub AreKept : Fields → Type 0
AreKept s = AreKeptBy s.live s.left s.known

-- ---- room

pub record AreSameRows (old new : LeftStore) : Type 0 where
  pub buckets : new.buckets.items ≡ old.buckets.items
  pub counters : new.counters.items ≡ old.counters.items
  pub sessions : new.sessions.items ≡ old.sessions.items
  pub groups : new.groups.items ≡ old.groups.items

pub record HasRoom (left rows : LeftStore) : Type 0 where
  pub buckets : vec_len left.buckets + vec_len rows.buckets ≤ vec_capacity left.buckets
  pub counters : vec_len left.counters + vec_len rows.counters ≤ vec_capacity left.counters
  pub sessions : vec_len left.sessions + vec_len rows.sessions ≤ vec_capacity left.sessions
  pub groups : vec_len left.groups + vec_len rows.groups ≤ vec_capacity left.groups
