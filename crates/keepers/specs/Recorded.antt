-- What the keeper in memory does with the sessions' rows of a change that can't change any more:
-- they go straight to the rows that were left. Of private functions alone.
use Rattle.std.specs.Prelude.{◌≡◌, ◌&&◌, ◌++◌, Bool, [], List, not, is_some, nat_le}
use Rattle.std.specs.List.{list_all}
use Rattle.units.specs.Words.{most_used}
use Rattle.buckets.specs.Row.{BucketRow}
use Rattle.reserving.specs.declared.session.SessionGroup.{SessionGroup}
use Rattle.reserving.specs.declared.restoring.GivenRows.{GivenRows}
use Rattle.reserving.specs.Sessions.{session_in, group_in}
use Rattle.reserving.specs.Others.{own_groups}
use Rattle.reserving.specs.Stored.{StoredRows}
use Rattle.reserving.specs.Written.{rows_written}
use Rattle.keepers.specs.declared.left_rows.LeftStore.{LeftStore}
use Rattle.keepers.specs.Change.{over}
use Rattle.keepers.specs.Naming.{IsNamed}
use Rattle.keepers.specs.Parts.{Parts, rows_of_parts, leaves_session}
use Rattle.keepers.specs.Overlaying.{IsGivenOver}

-- a group without a reservation, whose session has neither a row nor this group among these
abbrev pub is_past_group : StoredRows → SessionGroup → Bool
is_past_group live r =
    (not (is_some r.reservation) && nat_le r.used most_used)
    && (not (is_some (session_in r.session live.sessions))
    && not (is_some (group_in r.session r.group (own_groups r.session live.groups))))

-- so it is of each group, and each session isn't open and has no row among these
-- rule: database-writes.past: in memory the rows of sessions that can't change any more, as those
--   of a recorded event, are left at once
abbrev pub are_past : StoredRows → StoredRows → Bool
are_past w live =
    list_all (leaves_session live) w.sessions && list_all (is_past_group live) w.groups

-- the rows beside those of sessions
abbrev pub rest_of : StoredRows → StoredRows
rest_of w = record w { sessions = []; groups = [] }

-- rows are written over the live ones, and others are behind those that were left
-- rule: database-writes.past
abbrev pub recorded : StoredRows → LeftStore → Parts → Parts
recorded w rows p = record {
  live = rows_written w p.live;
  left = record {
    buckets = p.left.buckets ++ rows.buckets.items;
    counters = p.left.counters ++ rows.counters.items;
    sessions = p.left.sessions ++ rows.sessions.items;
    groups = p.left.groups ++ rows.groups.items;
  };
}

-- the rows are those of a change
pub record IsChange (live : List BucketRow) (rows : GivenRows) : Type 0 where
  pub named : StoredRows
  pub is : IsNamed named
  pub of : IsGivenOver named live rows

-- the change of these rows is made
-- rule: database-writes.past
abbrev pub IsPut : GivenRows → Parts → Parts → Type 0
IsPut rows old new = (named : StoredRows) → IsNamed named →
    IsGivenOver named old.live.buckets rows →
    rows_of_parts new ≡ over named (rows_of_parts old)
