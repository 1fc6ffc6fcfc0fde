-- The rows of an account's other sessions: a command on one session leaves them as they are, where
-- nothing of them ends by its moment.
-- Source: profile.
use Rattle.std.specs.Prelude.{◌≡◌, List, filter, Bool, false, None}
use Rattle.std.specs.Ordering.{nat_cmp, is_lt, is_gt}
use Rattle.std.specs.Cmp.Lexicographic.{slice_cmp}
use Rattle.units.specs.Words.{Moment}
use Rattle.identifiers.specs.Words.{SessionName}
use Rattle.shelves.specs.Shelves.{Shelf}
use Rattle.reserving.specs.declared.session.Session.{Session}
use Rattle.reserving.specs.declared.session.SessionGroup.{SessionGroup}
use Rattle.ledger.specs.Ledger.{is_same}
use Rattle.ledger.specs.Pricing.{validity_of}
use Rattle.reserving.specs.Sessions.{is_session, is_live_in}
use Rattle.reserving.specs.Changes.{is_other, lapse}
use Rattle.ledger.specs.Lists.{EachIn}
use Rattle.reserving.specs.Rows.{AccountRows}

-- the rows of the sessions beside one, with the shelf that says their validity
pub record OtherRows : Type 0 where
  pub shelf : Shelf
  pub sessions : List Session
  pub groups : List SessionGroup

abbrev pub other_sessions : SessionName → List Session → List Session
other_sessions s rows = filter (λ r. is_other s r.id) rows

abbrev pub other_groups : SessionName → List SessionGroup → List SessionGroup
other_groups s rows = filter (λ r. is_other s r.session) rows

abbrev pub other_rows : SessionName → AccountRows → OtherRows
other_rows s a = record {
  shelf = a.shelf;
  sessions = other_sessions s a.sessions;
  groups = other_groups s a.groups;
}

-- nothing of them ends by a moment
-- rule: database-writes.quiet-at
pub record AreStill (t : Moment) (rows : OtherRows) : Type 0 where
  pub sessions : EachIn (λ r. lapse (validity_of rows.shelf) t r ≡ r) rows.sessions
  pub groups : EachIn
      (λ r. is_live_in (validity_of rows.shelf) t rows.sessions r.session ≡ false →
      r.reservation ≡ None) rows.groups

-- ---- the rows of one session

abbrev pub own_sessions : SessionName → List Session → List Session
own_sessions s rows = filter (is_session s) rows

-- where groups are in the order of their keys, its own are behind those of earlier sessions and
-- before those of later ones

-- rule: database-writes.quiet-at
abbrev pub own_groups : SessionName → List SessionGroup → List SessionGroup
own_groups s rows = filter (λ r. is_same r.session s) rows

abbrev pub is_earlier : SessionName → SessionGroup → Bool
is_earlier s r = is_lt (slice_cmp nat_cmp r.session s)

abbrev pub is_later : SessionName → SessionGroup → Bool
is_later s r = is_gt (slice_cmp nat_cmp r.session s)

-- ---- what calls leave

-- a call on a session at a moment leaves the others' rows as they are, where nothing of them ends
-- rule: database-writes.quiet-at
abbrev pub OthersStay : SessionName → Moment → AccountRows → AccountRows → Type 0
OthersStay s t before after = AreStill t (other_rows s before) →
    other_rows s after ≡ other_rows s before
