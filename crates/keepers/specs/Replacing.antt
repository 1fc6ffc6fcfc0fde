-- What a store in memory does, step by step, where rows are put in the place of those that were
-- live.
use Rattle.std.specs.Prelude.{◌≡◌, ◌++◌, true, filter}
use Rattle.units.specs.Words.{CycleNumber}
use Rattle.identifiers.specs.Words.{SessionName}
use Rattle.buckets.specs.Words.{BucketNumber}
use Rattle.ledger.specs.Lists.{EachIn}
use Rattle.reserving.specs.Stored.{StoredRows}
use Rattle.keepers.specs.declared.left_rows.LeftStore.{LeftStore}
use Rattle.keepers.specs.declared.known.Known.{Known}
use Rattle.keepers.specs.Parts.{leaves_bucket, leaves_counter, leaves_session, leaves_group}
use Rattle.keepers.specs.Named.{is_numbered, is_named, AreLeftBuckets, AreLeftCounters}
use Rattle.keepers.specs.Named.{AreLeftSessions, AreLeftGroups}

-- those of the live rows that leave, by the rows after
pub record IsLeaving (after live : StoredRows) (rows : LeftStore) : Type 0 where
  pub buckets : rows.buckets.items ≡ filter (leaves_bucket after) live.buckets
  pub counters : rows.counters.items ≡ filter (leaves_counter after) live.counters
  pub sessions : rows.sessions.items ≡ filter (leaves_session after) live.sessions
  pub groups : rows.groups.items ≡ filter (leaves_group after) live.groups

-- what was known is known
pub record KnowsMore (old new : Known) : Type 0 where
  pub numbers : (n : BucketNumber) → is_numbered old.numbers n ≡ true →
      is_numbered new.numbers n ≡ true
  pub names : (s : SessionName) → is_named old.names s ≡ true → is_named new.names s ≡ true
  pub cycles : (c : CycleNumber) → is_numbered old.cycles c ≡ true →
      is_numbered new.cycles c ≡ true

-- so is what these rows name
pub record AreNoted (rows : LeftStore) (known : Known) : Type 0 where
  pub buckets : EachIn (λ b. is_numbered known.numbers b.number ≡ true) rows.buckets.items
  pub counters : AreLeftCounters known.cycles rows.counters.items
  pub sessions : EachIn (λ r. is_named known.names r.id ≡ true) rows.sessions.items
  pub groups : EachIn (λ r. is_named known.names r.session ≡ true) rows.groups.items

-- these rows are behind the others
pub record IsAppended (old rows new : LeftStore) : Type 0 where
  pub buckets : new.buckets.items ≡ old.buckets.items ++ rows.buckets.items
  pub counters : new.counters.items ≡ old.counters.items ++ rows.counters.items
  pub sessions : new.sessions.items ≡ old.sessions.items ++ rows.sessions.items
  pub groups : new.groups.items ≡ old.groups.items ++ rows.groups.items

-- each row that was left can't change, and is known
pub record AreKnown (known : Known) (left : LeftStore) : Type 0 where
  pub buckets : AreLeftBuckets known.numbers left.buckets.items
  pub counters : AreLeftCounters known.cycles left.counters.items
  pub sessions : AreLeftSessions known.names left.sessions.items
  pub groups : AreLeftGroups known.names left.groups.items

-- what there are rows of again, after, is gone
pub record IsFiltered (after : StoredRows) (old new : LeftStore) : Type 0 where
  pub buckets : new.buckets.items ≡ filter (leaves_bucket after) old.buckets.items
  pub counters : new.counters.items ≡ filter (leaves_counter after) old.counters.items
  pub sessions : new.sessions.items ≡ filter (leaves_session after) old.sessions.items
  pub groups : new.groups.items ≡ filter (leaves_group after) old.groups.items
