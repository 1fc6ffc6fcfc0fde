-- The rows of an account that a change names, and what a change keeps of them.
-- Source: profile.
use Rattle.std.specs.Prelude.{◌≤◌}
use Rattle.units.specs.Words.{end_of_numbers}
use Rattle.buckets.specs.Row.{IsBalanced}
use Rattle.ledger.specs.Lists.{EachIn}
use Rattle.reserving.specs.Rows.{AreApart}
use Rattle.reserving.specs.Stored.{StoredRows}
use Rattle.keepers.specs.Keyed.{same_bucket, same_session, same_group, same_counter}
use Rattle.keepers.specs.declared.named_rows.NamedRows.TheInside.{Inside as Fields}

-- what is kept of the account once, and the rows that are named
abbrev pub named_of : Fields → StoredRows
named_of r = record {
  as_of = r.as_of;
  barred = r.barred;
  buckets = r.buckets.items;
  counters = r.counters.items;
  sessions = r.sessions.items;
  groups = r.groups.items;
  next_bucket = r.next_bucket;
  next_charge = r.next_charge;
}

-- no two rows have one key
pub record AreRowsApart (w : StoredRows) : Type 0 where
  pub buckets : AreApart same_bucket w.buckets
  pub counters : AreApart same_counter w.counters
  pub sessions : AreApart same_session w.sessions
  pub groups : AreApart same_group w.groups

-- so it is of the rows of a change; each bucket balances, and each number is in its range
pub record IsNamed (w : StoredRows) : Type 0 where
  pub apart : AreRowsApart w
  pub balanced : EachIn IsBalanced w.buckets
  pub next_bucket : w.next_bucket ≤ end_of_numbers
  pub next_charge : w.next_charge ≤ end_of_numbers
