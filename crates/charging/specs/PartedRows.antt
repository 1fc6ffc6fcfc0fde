-- Rows that are loaded and rows that were left, together: under each key is the row of one of
-- both, and none has a row in both.
-- Source: profile.
use Rattle.std.specs.Prelude.{◌≡◌, false, ◌&&◌, List, Option, None, is_some}
use Rattle.units.specs.Words.{GroupId, CycleNumber}
use Rattle.identifiers.specs.Words.{SessionName, AccountName}
use Rattle.buckets.specs.Words.{BucketNumber}
use Rattle.shelves.specs.Shelves.{Shelf}
use Rattle.ledger.specs.Ledger.{last_recording}
use Rattle.reserving.specs.Sessions.{session_in, group_in, counter_in}
use Rattle.reserving.specs.Rows.{AccountRows}
use Rattle.reserving.specs.Left.{LeftRows, IsLeft, IsJoined, NotLeft, joined, bucket_in, first_of}
use Rattle.charging.specs.Accepted.{Accepted}
use Rattle.charging.specs.Served.{history}

-- what is found is what one of two lists has, and no other row
-- rule: database-loads.in-one: each row is loaded or left, and none is both; of a new session none
--   was left
pub record IsInOne {A : Type 0} (found left loaded : Option A) : Type 0 where
  pub one : found ≡ first_of left loaded
  pub apart : (is_some left && is_some loaded) ≡ false

-- so of each kind of rows
-- rule: database-loads.in-one
pub record AreParted (left : LeftRows) (a : AccountRows) : Type 0 where
  pub buckets : (n : BucketNumber) → IsInOne (bucket_in n (joined left a).buckets)
      (bucket_in n left.buckets) (bucket_in n a.buckets)
  pub counters : (g : GroupId) (c : CycleNumber) → IsInOne (counter_in g c (joined left a).counters)
      (counter_in g c left.counters) (counter_in g c a.counters)
  pub sessions : (s : SessionName) → IsInOne (session_in s (joined left a).sessions)
      (session_in s left.sessions) (session_in s a.sessions)
  pub groups : (s : SessionName) (g : GroupId) → IsInOne (group_in s g (joined left a).groups)
      (group_in s g left.groups) (group_in s g a.groups)

abbrev pub RowsAreParted : Type 0
RowsAreParted = (left : LeftRows) (a : AccountRows) → IsLeft left a → AreParted left a

-- of a session without a recorded request no row was left: one that begins needs no look at those
-- rule: database-loads.in-one
abbrev pub NewSessionsAreNotLeft : Type 0
NewSessionsAreNotLeft = (b : Shelf) (account : AccountName) (list : List Accepted) (left : LeftRows)
    (a : AccountRows) (s : SessionName) → IsJoined (history b account list).ledger left a →
    last_recording s (history b account list).ledger ≡ None → NotLeft s left
