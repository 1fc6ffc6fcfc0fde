-- What may still change of an account, read from the rows of its tables.
-- Source: profile.
use Rattle.std.specs.Prelude.{◌≡◌, ◌==◌, not, List, Option, Some, None, Result, Ok, Err}
use Rattle.std.specs.Prelude.{if◌then◌else◌}
use Rattle.units.specs.Words.{Moment, GroupId, CycleNumber}
use Rattle.identifiers.specs.Words.{AccountName}
use Rattle.buckets.specs.Words.{BucketNumber}
use Rattle.buckets.specs.Row.{BucketRow}
use Rattle.shelves.specs.Shelves.{Shelf}
use Rattle.reserving.specs.declared.session.Session.{Session}
use Rattle.reserving.specs.declared.session.SessionGroup.{SessionGroup}
use Rattle.reserving.specs.declared.session.Counter.{Counter}
use Rattle.reserving.specs.Left.{is_dead, only, bucket_in}
use Rattle.ledger.specs.Pricing.{cycle_at}
use Rattle.reserving.specs.Sessions.{is_open, counter_in}
use Rattle.reserving.specs.Stored.{StoredRows, priced}
use Rattle.keepers.specs.Change.{IsLoad, IsLoadedFrom}
use Rattle.keepers.specs.declared.loaded.Loaded.{Loaded}
use Rattle.reserving.specs.Rows.{AccountRows}
use Rattle.sql_rows.specs.Content.{TableRows}
use Rattle.sql_rows.specs.Lists.{AreSessions}
use Rattle.sql_rows.specs.declared.head.HeadColumns.{HeadColumns}
use Rattle.sql_keeper.specs.Content.{told_buckets, told_rows, Names}
use Rattle.sql_keeper.specs.LiveGroups.{AreGrantsStored, AreToldGroups}
use Rattle.sql_keeper.specs.Writes.{head_columns_of}
use Rattle.sql_keeper.specs.declared.live_rows.LiveRows.{LiveRows}
use Rattle.sql_keeper.specs.declared.live_rows.ReadRows.{ReadRows}

-- the buckets that aren't dead, with what they count: each by its number, and no other
abbrev pub AreLiveBuckets : TableRows → List BucketRow → Type 0
AreLiveBuckets rows bs = (n : BucketNumber) → bucket_in n bs
    ≡ only (λ b. not (is_dead b)) (told_buckets rows n)

-- the counters of the cycles at the moment: each by its rating group and cycle, and no other
abbrev pub AreCountersAt : Shelf → Moment → TableRows → List Counter → Type 0
AreCountersAt shelf t rows cs = (g : GroupId) (c : CycleNumber) →
    counter_in g c cs ≡ (if c == cycle_at shelf g t then rows.counters g c else None)

-- all that may still change whatever the moment: the buckets that aren't dead, the open sessions,
-- and what they have of rating groups; the names are those of the periods of reservations
pub record AreToldRows (names : Names) (rows : TableRows) (bs : List BucketRow) (ss : List Session)
    (xs : List SessionGroup) : Type 0 where
  pub buckets : AreLiveBuckets rows bs
  pub sessions : AreSessions (λ x. is_open x.state) rows ss
  pub groups : AreToldGroups names rows xs

-- and how the reservations among them are stored
-- rule: database-loads.live-account
pub record AreLiveRows (names : Names) (rows : TableRows) (bs : List BucketRow) (ss : List Session)
    (xs : List SessionGroup) : Type 0 where
  pub told : AreToldRows names rows bs ss xs
  pub grants : AreGrantsStored rows xs

-- the rows of an account with this head
abbrev pub account_with : HeadColumns → LiveRows → List Counter → StoredRows
account_with h x cs = record {
  as_of = h.as_of;
  barred = h.barred;
  buckets = x.purse;
  counters = cs;
  sessions = x.sessions.items;
  groups = x.groups.items;
  next_bucket = h.next_bucket;
  next_charge = h.next_charge;
}

-- what is read of an account: its head, and all of it that may still change at the moment; there is
-- none where it has no head
abbrev pub IsReadAccount : Names → Shelf → Moment → TableRows → Option ReadRows → Type 0
IsReadAccount names shelf t rows None = rows.head ≡ None
IsReadAccount names shelf t rows (Some x) =
    (rows.head ≡ Some x.head)
    × AreLiveRows names rows x.rows.purse x.rows.sessions.items x.rows.groups.items
    × AreCountersAt shelf t rows x.counters.items

-- the account, with all of it that may still change at the moment
-- rule: database-loads.live-account
abbrev pub IsToldAccount : Names → Shelf → Moment → TableRows → StoredRows → Type 0
IsToldAccount names shelf t rows w =
    (rows.head ≡ Some (head_columns_of w)) × AreToldRows names rows w.buckets w.sessions w.groups
    × AreCountersAt shelf t rows w.counters

-- and how its reservations are stored; there is none where it has no head
-- rule: database-loads.live-account: what may still change of an account is read from a database
-- rule: database-loads.load: what is read of an account is loaded and viewed
abbrev pub IsLiveAccount : Names → Shelf → Moment → TableRows → Option StoredRows → Type 0
IsLiveAccount names shelf t rows None = rows.head ≡ None
IsLiveAccount names shelf t rows (Some w) =
    IsToldAccount names shelf t rows w × AreGrantsStored rows w.groups

-- an account's rows without its counters, which a sweep neither reads nor changes
abbrev pub without_counters : TableRows → TableRows
without_counters rows = record rows { counters = λ g c. None }

-- what is read of an account without its counters, whatever the shelf and the moment
abbrev pub IsReadUncounted : Names → TableRows → Option ReadRows → Type 0
IsReadUncounted names rows o =
    (shelf : Shelf) (t : Moment) → IsReadAccount names shelf t (without_counters rows) o

-- the account without its counters
abbrev pub IsToldUncounted : Names → TableRows → StoredRows → Type 0
IsToldUncounted names rows w =
    (shelf : Shelf) (t : Moment) → IsToldAccount names shelf t (without_counters rows) w

-- and how its reservations are stored
abbrev pub IsLiveUncounted : Names → TableRows → Option StoredRows → Type 0
IsLiveUncounted names rows o =
    (shelf : Shelf) (t : Moment) → IsLiveAccount names shelf t (without_counters rows) o

-- it is what a load asks of the account's rows, once the shelf prices it
abbrev pub AreLiveRowsLoaded : Type 0
AreLiveRowsLoaded =
    (names : Names) (shelf : Shelf) (t : Moment) (rows : TableRows) (w : StoredRows)
    → IsToldAccount names shelf t rows w
    → IsLoadedFrom shelf t (told_rows names rows) (priced shelf w)

-- ---- once they are read

-- the account's number, the account priced by the shelf, and the same rows once more
abbrev pub IsLoadOf : Shelf → AccountName → Option StoredRows → Option Loaded → Type 0
IsLoadOf shelf a None None = Unit {0}
IsLoadOf shelf a None (Some l) = ⊥
IsLoadOf shelf a (Some w) None = ⊥
IsLoadOf shelf a (Some w) (Some l) = (l.number ≡ a) × (l.account ≡ priced shelf w) × (l.before ≡ w)

-- the account alone, or the same fault
abbrev pub IsAccountOf : {E : Type 0} → Result (Option Loaded) E →
    Result (Option AccountRows) E → Type 0
IsAccountOf (Ok None) (Ok None) = Unit {0}
IsAccountOf (Ok None) (Ok (Some a)) = ⊥
IsAccountOf (Ok (Some l)) (Ok None) = ⊥
IsAccountOf (Ok (Some l)) (Ok (Some a)) = a ≡ l.account
IsAccountOf (Ok o) (Err f) = ⊥
IsAccountOf (Err e) (Ok o) = ⊥
IsAccountOf (Err e) (Err f) = f ≡ e

-- what is loaded is all that may still change of the tables' rows
abbrev pub AreLoadedRows : Names → TableRows → Option Loaded → Type 0
AreLoadedRows names r None = Unit {0}
AreLoadedRows names r (Some l) =
    AreLiveRows names r l.before.buckets l.before.sessions l.before.groups

pub record IsLoadStored (names : Names) (shelf : Shelf) (t : Moment) (a : AccountName)
    (r : TableRows)
    (o : Option Loaded) : Type 0 where
  pub load : IsLoad shelf t a (told_rows names r) o
  pub rows : AreLoadedRows names r o
