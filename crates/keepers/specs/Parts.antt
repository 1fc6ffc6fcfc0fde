-- An account as the keeper in memory has it: what was live after its last command, and the rows
-- that were left.
-- Source: profile.
use Rattle.std.specs.Prelude.{◌≡◌, ◌&&◌, ◌++◌, ◌≤◌, Bool, true, false, not}
use Rattle.std.specs.Prelude.{Some, is_some, option_map, filter}
use Rattle.units.specs.Words.{Moment, most_used, most_counted}
use Rattle.buckets.specs.Row.{BucketRow, IsBalanced}
use Rattle.shelves.specs.Shelves.{Shelf}
use Rattle.reserving.specs.declared.session.Session.{Session}
use Rattle.reserving.specs.declared.session.SessionGroup.{SessionGroup}
use Rattle.reserving.specs.declared.session.Counter.{Counter}
use Rattle.reserving.specs.Sessions.{is_open, session_in, group_in}
use Rattle.reserving.specs.Sessions.{counter_in}
use Rattle.ledger.specs.Lists.{EachIn}
use Rattle.reserving.specs.Rows.{AreApart}
use Rattle.reserving.specs.Stored.{StoredRows, advanced_stored}
use Rattle.reserving.specs.Left.{LeftRows, is_dead, bucket_in}
use Rattle.keepers.specs.Tables.{Rows, head_of, group_row, held_of}
use Rattle.keepers.specs.Keyed.{same_bucket, same_session, same_group, same_counter}

pub record Parts : Type 0 where
  pub live : StoredRows
  pub left : LeftRows

-- the rows of both
abbrev pub rows_of_parts : Parts → Rows
rows_of_parts p = record {
  head = Some (head_of p.live);
  buckets = λ n. bucket_in n (p.left.buckets ++ p.live.buckets);
  counters = λ g c. counter_in g c (p.left.counters ++ p.live.counters);
  sessions = λ s. session_in s (p.left.sessions ++ p.live.sessions);
  groups = λ s g. option_map group_row (group_in s g (p.left.groups ++ p.live.groups));
  holds = λ s g n. held_of n (group_in s g (p.left.groups ++ p.live.groups));
}

-- what was left can't change any more, and no row has the key of another
pub record AreParts (p : Parts) : Type 0 where
  pub buckets : AreApart same_bucket (p.left.buckets ++ p.live.buckets)
  pub counters : AreApart same_counter (p.left.counters ++ p.live.counters)
  pub sessions : AreApart same_session (p.left.sessions ++ p.live.sessions)
  pub groups : AreApart same_group (p.left.groups ++ p.live.groups)
  pub dead : EachIn (λ b. is_dead b ≡ true) p.left.buckets
  pub over : EachIn (λ r. is_open r.state ≡ false) p.left.sessions
  pub free : EachIn (λ r. is_some r.reservation ≡ false) p.left.groups
  pub others : EachIn (λ r. is_some (session_in r.session p.live.sessions) ≡ false) p.left.groups
  pub balanced : EachIn IsBalanced p.left.buckets
  pub used : EachIn (λ r. r.used ≤ most_used) p.left.groups
  pub counted : EachIn (λ c. c.blocks ≤ most_counted) p.left.counters

-- ---- what is left once the rows are others

abbrev pub leaves_bucket : StoredRows → BucketRow → Bool
leaves_bucket w b = is_dead b && not (is_some (bucket_in b.number w.buckets))

abbrev pub leaves_counter : StoredRows → Counter → Bool
leaves_counter w c = not (is_some (counter_in c.group c.cycle w.counters))

abbrev pub leaves_session : StoredRows → Session → Bool
leaves_session w r = not (is_open r.state) && not (is_some (session_in r.id w.sessions))

abbrev pub leaves_group : StoredRows → SessionGroup → Bool
leaves_group w r = not (is_some r.reservation) &&
    (not (is_some (session_in r.session w.sessions)) && not
    (is_some (group_in r.session r.group w.groups)))

abbrev pub left_after : StoredRows → Parts → LeftRows
left_after w p = record {
  buckets = filter (leaves_bucket w) (p.left.buckets ++ p.live.buckets);
  counters = filter (leaves_counter w) (p.left.counters ++ p.live.counters);
  sessions = filter (leaves_session w) (p.left.sessions ++ p.live.sessions);
  groups = filter (leaves_group w) (p.left.groups ++ p.live.groups);
}

abbrev pub with_live : StoredRows → Parts → Parts
with_live w p = record { live = w; left = left_after w p }

abbrev pub advanced_parts : Shelf → Moment → Parts → Parts
advanced_parts shelf t p = record { live = advanced_stored shelf t p.live; left = p.left }
