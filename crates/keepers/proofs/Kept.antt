-- What a store in memory keeps while its rows are put in the place of others.
use Rattle.std.proofs.Common.{◌≡◌, true, false, sym, subst}
use Rattle.reserving.specs.Stored.{StoredRows, IsStored}
use Rattle.reserving.proofs.LeftTests.{each_filter}
use Rattle.reserving.specs.Sessions.{is_open}
use Rattle.reserving.specs.Left.{is_dead}
use Rattle.reserving.proofs.Lists.{EachIn-weaker}
use Rattle.std.specs.Prelude.{is_some}
use Rattle.keepers.specs.declared.left_rows.LeftStore.{LeftStore}
use Rattle.keepers.specs.declared.known.Known.{Known}
use Rattle.keepers.specs.Parts.{AreParts, with_live, leaves_bucket, leaves_counter, leaves_session}
use Rattle.keepers.specs.Parts.{leaves_group}
use Rattle.keepers.specs.Named.{is_numbered, is_named, AreLeftBuckets, AreLeftCounters}
use Rattle.keepers.specs.Named.{AreLeftSessions, AreLeftGroups}
use Rattle.keepers.specs.Inside.{parts_by, AreKeptBy, AreSameRows}
use Rattle.keepers.specs.Replacing.{IsLeaving, KnowsMore, AreNoted, IsAppended, AreKnown}
use Rattle.keepers.specs.Replacing.{IsFiltered}
use Rattle.keepers.proofs.PartsKept.{parts_replaced}
use Rattle.keepers.proofs.Replaced.{left_is, buckets_known, counters_known, sessions_known}
use Rattle.keepers.proofs.Replaced.{groups_known}

pub same_parts : (live : StoredRows) (old new : LeftStore) → AreSameRows old new →
    parts_by live new ≡ parts_by live old
same_parts live old new e = λ i.
    record {
      live = live;
      left = record {
        buckets = e.buckets i;
        counters = e.counters i;
        sessions = e.sessions i;
        groups = e.groups i;
      };
    }

-- more is known
pub kept_known : (live : StoredRows) (left : LeftStore) (was is : Known) → AreKeptBy live left was →
    KnowsMore was is → AreKeptBy live left is
kept_known live left was is h more = record {
  parts = h.parts;
  buckets = EachIn-weaker (λ b. (is_dead b ≡ true) × (is_numbered was.numbers b.number ≡ true))
      (λ b. (is_dead b ≡ true) × (is_numbered is.numbers b.number ≡ true)) left.buckets.items
      (λ b r. (r.0, more.numbers b.number r.1)) h.buckets;
  counters = EachIn-weaker (λ c. is_numbered was.cycles c.cycle ≡ true)
      (λ c. is_numbered is.cycles c.cycle ≡ true) left.counters.items
      (λ c r. more.cycles c.cycle r) h.counters;
  sessions = EachIn-weaker (λ r. (is_open r.state ≡ false) × (is_named was.names r.id ≡ true))
      (λ r. (is_open r.state ≡ false) × (is_named is.names r.id ≡ true)) left.sessions.items
      (λ r x. (x.0, more.names r.id x.1)) h.sessions;
  groups = EachIn-weaker (λ r. (is_some r.reservation ≡ false)
      × (is_named was.names r.session ≡ true))
      (λ r. (is_some r.reservation ≡ false) × (is_named is.names r.session ≡ true))
      left.groups.items (λ r x. (x.0, more.names r.session x.1)) h.groups;
}

-- there is room for more
pub kept_roomy : (live : StoredRows) (old new : LeftStore) (known : Known) →
    AreKeptBy live old known → AreSameRows old new → AreKeptBy live new known
kept_roomy live old new known h e = record {
  parts = subst AreParts (sym (same_parts live old new e)) h.parts;
  buckets = subst (AreLeftBuckets known.numbers) (sym e.buckets) h.buckets;
  counters = subst (AreLeftCounters known.cycles) (sym e.counters) h.counters;
  sessions = subst (AreLeftSessions known.names) (sym e.sessions) h.sessions;
  groups = subst (AreLeftGroups known.names) (sym e.groups) h.groups;
}

module _ (w live : StoredRows) (old roomy back new rows : LeftStore) (was is : Known)
    (h : AreKeptBy live old was)
    (more : KnowsMore was is)
    (leaving : IsLeaving w live rows) (noted : AreNoted rows is) (room : AreSameRows old roomy)
    (behind : IsAppended roomy rows back) where
  -- what is behind is known, too
  pub known_behind : AreKnown is back
  known_behind = record {
    buckets = buckets_known w was.numbers is.numbers old.buckets.items live.buckets
        roomy.buckets.items rows.buckets.items back.buckets.items more.numbers h.buckets
        noted.buckets room.buckets leaving.buckets behind.buckets;
    counters = counters_known was.cycles is.cycles old.counters.items roomy.counters.items
        rows.counters.items back.counters.items more.cycles h.counters noted.counters
        room.counters behind.counters;
    sessions = sessions_known w was.names is.names old.sessions.items live.sessions
        roomy.sessions.items rows.sessions.items back.sessions.items more.names h.sessions
        noted.sessions room.sessions leaving.sessions behind.sessions;
    groups = groups_known w was.names is.names old.groups.items live.groups roomy.groups.items
        rows.groups.items back.groups.items more.names h.groups noted.groups room.groups
        leaving.groups behind.groups;
  }

  -- and what is kept of it is what is left once the rows are others
  pub replaced_parts : IsFiltered w back new → parts_by w new ≡ with_live w (parts_by live old)
  replaced_parts e = λ i. record {
    live = w;
    left = record {
      buckets = left_is (leaves_bucket w) old.buckets.items live.buckets roomy.buckets.items
          rows.buckets.items back.buckets.items new.buckets.items room.buckets leaving.buckets
          behind.buckets e.buckets i;
      counters = left_is (leaves_counter w) old.counters.items live.counters roomy.counters.items
          rows.counters.items back.counters.items new.counters.items room.counters leaving.counters
          behind.counters e.counters i;
      sessions = left_is (leaves_session w) old.sessions.items live.sessions roomy.sessions.items
          rows.sessions.items back.sessions.items new.sessions.items room.sessions leaving.sessions
          behind.sessions e.sessions i;
      groups = left_is (leaves_group w) old.groups.items live.groups roomy.groups.items
          rows.groups.items back.groups.items new.groups.items room.groups leaving.groups
          behind.groups e.groups i;
    };
  }

  pub kept_replaced : IsStored w → IsStored live → IsFiltered w back new → AreKeptBy w new is
  kept_replaced stored before e = record {
    parts = subst AreParts (sym (replaced_parts e))
        (parts_replaced w (parts_by live old) stored before h.parts);
    buckets = subst (AreLeftBuckets is.numbers) (sym e.buckets)
        (each_filter (λ b. (is_dead b ≡ true) × (is_numbered is.numbers b.number ≡ true))
        (leaves_bucket w) back.buckets.items known_behind.buckets);
    counters = subst (AreLeftCounters is.cycles) (sym e.counters)
        (each_filter (λ c. is_numbered is.cycles c.cycle ≡ true) (leaves_counter w)
        back.counters.items known_behind.counters);
    sessions = subst (AreLeftSessions is.names) (sym e.sessions)
        (each_filter (λ r. (is_open r.state ≡ false) × (is_named is.names r.id ≡ true))
        (leaves_session w) back.sessions.items known_behind.sessions);
    groups = subst (AreLeftGroups is.names) (sym e.groups)
        (each_filter (λ r. (is_some r.reservation ≡ false) × (is_named is.names r.session ≡ true))
        (leaves_group w) back.groups.items known_behind.groups);
  }
