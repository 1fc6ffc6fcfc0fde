-- The rows of an account as they were before a command: all, or those of one session with the
-- buckets and counters.
-- Source: profile.
use Rattle.std.specs.Prelude.{Option, Some, None, List, [], ◌∷◌}
use Rattle.identifiers.specs.Words.{SessionName}
use Rattle.buckets.specs.Spend.{IsSound}
use Rattle.reserving.specs.declared.session.Session.{Session}
use Rattle.reserving.specs.Others.{own_sessions, own_groups}
use Rattle.reserving.specs.Rows.{AreApart, AreInKeyOrder}
use Rattle.reserving.specs.Sessions.{is_session, is_of, is_counter}
use Rattle.reserving.specs.Stored.{StoredRows}

-- the row of a session as a list
abbrev pub rows_in : Option Session → List Session
rows_in None = []
rows_in (Some x) = x ∷ []

-- the rows without those of other sessions
abbrev pub own_stored : SessionName → StoredRows → StoredRows
own_stored s r = record r {
  sessions = own_sessions s r.sessions;
  groups = own_groups s r.groups;
}

-- the rows of all sessions, or of one alone where no other may change
-- rule: database-writes.quiet-at
abbrev pub earlier_of : Option SessionName → StoredRows → StoredRows
earlier_of None r = r
earlier_of (Some s) r = own_stored s r

-- what such rows keep: the buckets are sound, no two rows have one key, and they are in the order
-- of their keys
pub record AreEarlier (r : StoredRows) : Type 0 where
  pub sound : IsSound r.buckets
  pub sessions : AreApart (λ x y. is_session x.id y) r.sessions
  pub groups : AreApart (λ x y. is_of x.session x.group y) r.groups
  pub counters : AreApart (λ x y. is_counter x.group x.cycle y) r.counters
  pub keys : AreInKeyOrder r.sessions r.groups r.counters
