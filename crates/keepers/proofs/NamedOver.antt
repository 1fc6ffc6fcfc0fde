-- To name the rows that differ from those loaded is to name all; and what is named of the rows of
-- an account.
use Rattle.std.proofs.Common.{Some}
use Rattle.std.specs.Prelude.{◌==◌}
use Rattle.buckets.specs.Row.{IsBalanced}
use Rattle.reserving.specs.Sessions.{is_session, is_counter}
use Rattle.reserving.specs.Stored.{StoredRows, IsStored}
use Rattle.reserving.proofs.LeftParted.{one_session, one_counter}
use Rattle.reserving.proofs.LeftTests.{apart_filter, differing_over, each_filter}
use Rattle.keepers.specs.Tables.{head_of}
use Rattle.keepers.specs.Keyed.{same_bucket, same_session, same_group, same_counter}
use Rattle.keepers.specs.Differing.{equal_bucket, equal_counter, equal_session, named_rows}
use Rattle.keepers.specs.Differing.{IsNamedOver}
use Rattle.keepers.specs.Naming.{AreRowsApart, IsNamed}
use Rattle.keepers.proofs.Found.{one_bucket, distinct_apart}
use Rattle.keepers.proofs.Equal.{bucket_from, counter_from, session_from}
use Rattle.keepers.proofs.GroupsOverlaid.{rows_overlaid, holds_overlaid}
use Rattle.keepers.proofs.PartsKept.{each_in}

-- rule: database-writes
pub named_over : IsNamedOver
named_over before after r hb ha there = λ i. record {
  head = Some (head_of after);
  buckets = λ n. differing_over same_bucket (λ b. b.number == n) (one_bucket n) equal_bucket
      bucket_from before.buckets after.buckets (r.buckets n) hb.buckets ha.buckets
      (there.buckets n) i;
  counters = λ g c. differing_over same_counter (is_counter g c) (one_counter g c) equal_counter
      counter_from before.counters after.counters (r.counters g c) hb.counters ha.counters
      (there.counters g c) i;
  sessions = λ s. differing_over same_session (is_session s) (one_session s) equal_session
      session_from before.sessions after.sessions (r.sessions s) hb.sessions ha.sessions
      (there.sessions s) i;
  groups = λ s g. rows_overlaid before.groups after.groups (r.groups s g) s g hb.groups ha.groups
      (there.groups s g) i;
  holds = λ s g n. holds_overlaid before.groups after.groups (r.holds s g n) s g n hb.groups
      ha.groups (there.holds s g n) i;
}

pub apart_stored : (w : StoredRows) → IsStored w → AreRowsApart w
apart_stored w h = record {
  buckets = distinct_apart w.buckets h.sound.distinct;
  counters = h.counters;
  sessions = h.sessions;
  groups = h.groups;
}

-- rule: database-writes
pub named_kept : (before after : StoredRows) → IsStored after → IsNamed (named_rows before after)
named_kept before after h = record {
  apart = record {
    buckets = apart_filter same_bucket _ after.buckets (distinct_apart after.buckets
        h.sound.distinct);
    counters = apart_filter same_counter _ after.counters h.counters;
    sessions = apart_filter same_session _ after.sessions h.sessions;
    groups = apart_filter same_group _ after.groups h.groups;
  };
  balanced = each_filter IsBalanced _ after.buckets
      (each_in IsBalanced after.buckets h.sound.balanced);
  next_bucket = h.next_bucket;
  next_charge = h.next_charge;
}
