-- What is tested of a change before it is written, so that what is written reads as the change.
-- Source: profile.
use Rattle.std.specs.Prelude.{◌≡◌, ◌⊎◌, ℕ, ◌+◌, ◌==◌, ◌||◌, Bool, true, not, List, [], ◌∷◌, Option}
use Rattle.std.specs.Prelude.{Some, None, IsTrue, is_some, nat_le, nat_lt, ◌&&◌}
use Rattle.std.specs.List.{list_all}
use Rattle.std.specs.Prelude.{if◌then◌else◌}
use Rattle.units.specs.Words.{GroupId, Moment}
use Rattle.identifiers.specs.Words.{SessionName}
use Rattle.ledger.specs.Words.{ChargeNumber}
use Rattle.buckets.specs.Row.{BucketRow}
use Rattle.buckets.specs.Words.{BucketNumber}
use Rattle.calendar.specs.declared.week.Period.{Period}
use Rattle.tariffs.specs.Names.{period_named}
use Rattle.buckets.specs.Holding.{AreHolds}
use Rattle.ledger.specs.declared.charge.ChargeRow.{ChargeRow}
use Rattle.reserving.specs.declared.session.Session.{Session}
use Rattle.reserving.specs.declared.session.SessionGroup.{SessionGroup}
use Rattle.reserving.specs.declared.session.Reservation.{Reservation}
use Rattle.reserving.specs.Sessions.{is_open, session_in, group_in}
use Rattle.ledger.specs.Lists.{EachIn}
use Rattle.reserving.specs.Left.{first_of, is_open_row}
use Rattle.reserving.specs.Stored.{StoredRows}
use Rattle.keepers.specs.declared.loaded.Change.{Change}
use Rattle.sql_rows.specs.declared.head.HeadColumns.{HeadColumns}
use Rattle.sql_rows.specs.Values.{Group}
use Rattle.sql_rows.specs.Lists.{AreCoveredBeside, GroupAt, HasNoGroups}
use Rattle.sql_rows.specs.Content.{TableRows}
use Rattle.sql_keeper.specs.Content.{Names, names_numbered}
use Rattle.sql_keeper.specs.Numbers.{AreFree, first_bucket}
use Rattle.sql_keeper.specs.RuledRows.{is_ruled_change}
use Rattle.sql_keeper.specs.Seen.{IsUnknown}
use Rattle.sql_keeper.specs.Writes.{name_at}
use Rattle.sql_keeper.specs.declared.settling.NamedSessions.{NamedSessions}

-- the name at the period's place is its own
abbrev pub IsPeriodNamed : List (List ℕ) → Period → Type 0
IsPeriodNamed names p = period_named names (name_at names p) ≡ Some p

-- a reservation is in an open session, its periods have names in its book, and it holds of each
-- bucket once
pub record IsWritable (names : Names) (sessions : List Session) (s : SessionName) (r : Reservation)
    : Type 0 where
  pub live : is_open_row (session_in s sessions) ≡ true
  pub before : IsPeriodNamed (names_numbered names r.terms.book) r.terms.periods.before
  pub after : IsPeriodNamed (names_numbered names r.terms.book) r.terms.periods.after
  pub holds : AreHolds r.holds

abbrev pub MayStand : Names → List Session → SessionName → Option Reservation → Type 0
MayStand names sessions s None = Unit {0}
MayStand names sessions s (Some r) = IsWritable names sessions s r

-- rule: database-writes.writable: a commit writes only what passes its tests
abbrev pub AreWritable : Names → List Session → List SessionGroup → Type 0
AreWritable names sessions groups =
    EachIn (λ r. MayStand names sessions r.session r.reservation) groups

-- charges numbered one after another, from one number to below another
-- rule: database-writes.writable
abbrev pub AreNumbered : ChargeNumber → ChargeNumber → List ChargeRow → Type 0
AreNumbered from next [] = from ≡ next
AreNumbered from next (c ∷ cs) = (c.number ≡ from) × AreNumbered (from + 1) next cs

-- the number of the next charge of an account, and of its first one where it isn't there yet
abbrev pub first_number : Option HeadColumns → ChargeNumber
first_number None = 1
first_number (Some h) = if h.next_charge == 0 then 1 else h.next_charge

-- the number of an account's next bucket doesn't fall below this one, and each bucket that is named
-- is below it
-- rule: database-writes.writable
abbrev pub are_buckets_numbered : BucketNumber → StoredRows → Bool
are_buckets_numbered first w =
    nat_le first w.next_bucket
    && list_all (λ (b : BucketRow). nat_lt b.number w.next_bucket) w.buckets

-- the moment of an account; of one that isn't there yet, the first of all
abbrev pub first_moment : Option HeadColumns → Moment
first_moment None = 0
first_moment (Some h) = h.as_of

-- ---- sessions that a change opens or ends

-- whether a session is open by the rows of a change over those that are stored
abbrev pub is_open_over : List Session → TableRows → SessionName → Bool
is_open_over sessions r s = is_open_row (first_of (session_in s sessions) (r.sessions s))

-- whether a session is open by its row as it was before
abbrev pub is_as : Session → Bool → Bool
is_as x before = if is_open x.state then before else not before

-- of a session that is opened or ended no group that isn't named has a reservation
-- rule: database-writes.writable
abbrev pub AreSettled : List Session → List SessionGroup → TableRows → Type 0
AreSettled sessions groups r =
    (s : SessionName) (g : GroupId) (y : Group) → r.groups s g ≡ Some y →
    group_in s g groups ≡ None →
    (is_open_over sessions r s ≡ is_open_row (r.sessions s)) ⊎ (y.periods ≡ None)

-- the same of one session that is named; a change is tested by this, and `AreSettled` follows from
-- it of each
-- rule: database-writes.writable
abbrev pub IsSettled : List SessionGroup → TableRows → Session → Type 0
IsSettled groups r x =
    (is_open x.state ≡ is_open_row (r.sessions x.id))
    ⊎ ((g : GroupId) (y : Group) → r.groups x.id g ≡ Some y → group_in x.id g groups ≡ None →
    y.periods ≡ None)

-- a stored group of a session is named, or has no reservation
abbrev pub is_beside : List SessionGroup → SessionName → GroupAt → Bool
is_beside groups s x = is_some (group_in s x.group groups) || not (is_some x.row.periods)

abbrev pub are_beside : List SessionGroup → SessionName → List GroupAt → Bool
are_beside groups s xs = list_all (is_beside groups s) xs

-- what is found of a session that is named: whether it is settled, both ways, and whether it is new
pub record IsFound (groups : List SessionGroup) (r : TableRows) (x : Session)
    (y : NamedSessions) : Type 0 where
  pub settled : IsTrue y.are_settled → IsSettled groups r x
  pub back : IsSettled groups r x → IsTrue y.are_settled
  pub new : IsTrue y.are_new → IsUnknown r x.id

-- the sessions have no row, and nothing of rating groups
-- rule: database-writes.writable
abbrev pub AreUnknown : TableRows → List Session → Type 0
AreUnknown r sessions = EachIn (λ (x : Session). IsUnknown r x.id) sessions

-- and of all of them
pub record AreFound (sessions : List Session) (groups : List SessionGroup) (r : TableRows)
    (y : NamedSessions) : Type 0 where
  pub settled : IsTrue y.are_settled → EachIn (IsSettled groups r) sessions
  pub back : EachIn (IsSettled groups r) sessions → IsTrue y.are_settled
  pub new : IsTrue y.are_new → AreUnknown r sessions

-- each group is of one of the sessions
abbrev pub are_among : List Session → List SessionGroup → Bool
are_among sessions groups =
    list_all (λ (x : SessionGroup). is_some (session_in x.session sessions)) groups

-- nothing is there of the groups' sessions
abbrev pub AreNewGroups : TableRows → List SessionGroup → Type 0
AreNewGroups r groups = EachIn (λ (x : SessionGroup). HasNoGroups r x.session) groups

-- ---- all that is tested

-- a change may be made of what is stored of its account
pub record MayBeMade (names : Names) (change : Change) (r : TableRows) : Type 0 where
  pub reservations : AreWritable names change.rows.sessions change.rows.groups
  pub numbers : AreNumbered (first_number r.head) change.rows.next_charge change.charges.items
  pub buckets : IsTrue (are_buckets_numbered (first_bucket r.head) change.rows)
  -- the account's moment doesn't fall
  pub moment : IsTrue (nat_le (first_moment r.head) change.rows.as_of)
  pub settled : EachIn (IsSettled change.rows.groups r) change.rows.sessions
  pub ruled : IsTrue (is_ruled_change names change)

-- what is found of a change: whether it may be made, both ways, and whether its sessions and groups
-- are new
pub record IsChangeFound (names : Names) (change : Change) (r : TableRows) (y : NamedSessions)
    : Type 0
  where
    pub made : IsTrue y.are_settled → MayBeMade names change r
    pub back : MayBeMade names change r → IsTrue y.are_settled
    pub new : IsTrue y.are_new → AreNewGroups r change.rows.groups
    pub unknown : IsTrue y.are_new → AreUnknown r change.rows.sessions

-- it may be made, and whether its sessions and groups are new; covered blocks are beside a charge,
-- and the numbers of new buckets are free
pub record IsTested (names : Names) (change : Change) (r : TableRows) (are_new : Bool)
    : Type 0 where
  pub made : MayBeMade names change r
  pub new : IsTrue are_new → AreNewGroups r change.rows.groups
  pub unknown : IsTrue are_new → AreUnknown r change.rows.sessions
  pub covered : AreCoveredBeside r
  pub free : AreFree (first_bucket r.head) r change.rows.buckets
