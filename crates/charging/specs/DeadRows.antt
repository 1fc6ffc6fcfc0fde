-- Rows that nothing can change any more: dead for good.
-- Source: profile.
use Rattle.std.specs.Prelude.{◌≡◌, ◌≤◌, false, List, Some}
use Rattle.units.specs.Words.{Moment, Seconds, GroupId}
use Rattle.identifiers.specs.Words.{SessionName, AccountName}
use Rattle.buckets.specs.Words.{BucketNumber}
use Rattle.buckets.specs.Row.{BucketRow}
use Rattle.shelves.specs.Shelves.{Shelf}
use Rattle.reserving.specs.declared.session.Session.{Session}
use Rattle.ledger.specs.Ledger.{Ledger}
use Rattle.ledger.specs.Balance.{buckets_at}
use Rattle.ledger.specs.Laws.{IsDead}
use Rattle.reserving.specs.Left.{bucket_in}
use Rattle.ledger.specs.Pricing.{validity_of}
use Rattle.reserving.specs.Sessions.{is_open, session_at, group_at}
use Rattle.charging.specs.Accepted.{Accepted, last_moment}
use Rattle.charging.specs.declared.running.DatedCommand.{DatedCommand}
use Rattle.charging.specs.Served.{history}
use Rattle.charging.specs.Runs.{after_commands}

-- the rows of a ledger at a moment that are dead are those of a later ledger at a later moment
-- rule: dead-rows.dead-for-good: dead rows are dead for good: buckets, sessions and their groups,
--   whatever commands come
pub record AreDeadForGood (v : Moment → Seconds) (t u : Moment) (old new : Ledger) : Type 0 where
  -- a bucket that has nothing available and nothing reserved
  pub buckets : (n : BucketNumber) (x : BucketRow) → bucket_in n (buckets_at v t old) ≡ Some x →
      IsDead x →
      bucket_in n (buckets_at v u new) ≡ Some x
  -- a session that is over, or that was never opened
  pub sessions : (s : SessionName) (x : Session) → session_at v t old s ≡ Some x →
      is_open x.state ≡ false → session_at v u new s ≡ Some x
  -- what it used of each group
  pub groups : (s : SessionName) (g : GroupId) (x : Session) → session_at v t old s ≡ Some x →
      is_open x.state ≡ false → group_at v u new s g ≡ group_at v t old s g

-- so each account's, from the last of some accepted commands on, whatever commands come
-- rule: dead-rows.dead-for-good
abbrev pub DeadRowsStay : Type 0
DeadRowsStay =
    (b : Shelf) (a : AccountName) (list : List Accepted) (between : List DatedCommand)
    (u : Moment) →
    last_moment (after_commands b list between) ≤ u →
    AreDeadForGood (validity_of b) (last_moment list) u (history b a list).ledger
    (history b a (after_commands b list between)).ledger
