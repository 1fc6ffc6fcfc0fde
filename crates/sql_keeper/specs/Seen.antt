-- What a keeper has seen of an account since its tables were last written.
-- Source: profile.
use Rattle.std.specs.Prelude.{◌≡◌, ◌≤◌, true, false, Bool, Option, Some, None, IsTrue, is_some}
use Rattle.std.specs.Prelude.{if◌then◌else◌, IfSome}
use Rattle.units.specs.Words.{Moment}
use Rattle.identifiers.specs.Words.{AccountName, SessionName}
use Rattle.sqlite_trees.specs.Tree.{Trees}
use Rattle.sqlite_trees.specs.declared.store.Store.{Ghosts}
use Rattle.sqlite.specs.Held.{state}
use Rattle.sqlite.specs.State.{State, HasCleanDisk}
use Rattle.reserving.specs.Left.{is_open_row}
use Rattle.reserving.specs.declared.session.Session.{Session}
use Rattle.reserving.specs.Sessions.{is_open, session_in}
use Rattle.reserving.specs.Stored.{StoredRows}
use Rattle.sql_rows.specs.Content.{TableRows, rows_in, tables_content}
use Rattle.sql_rows.specs.Lists.{HasNoGroups}
use Rattle.sql_rows.specs.Values.{Meta}
use Rattle.sql_rows.specs.declared.head.HeadColumns.{HeadColumns}
use Rattle.sql_keeper.specs.Content.{last_in}
use Rattle.sql_keeper.specs.Grants.{IsGrantIn, IsGrantSeen, is_name}
use Rattle.sql_keeper.specs.Inside.{IsKeeper, KeeperState, names_in}
use Rattle.sql_keeper.specs.KeptRows.{AreKept}
use Rattle.sql_keeper.specs.SeenFirst.{IsFirstRead}
use Rattle.sql_keeper.specs.Writes.{head_columns_of}
use Rattle.sql_keeper.specs.declared.kept_rows.KeptRows.{KeptRows}
use Rattle.sql_keeper.specs.declared.seen.SeenAccount.{SeenAccount}
use Rattle.sql_keeper.specs.declared.seen.SeenGrant.{SeenGrant}
use Rattle.sql_keeper.specs.declared.seen.Standing.{Standing}
use Rattle.sql_keeper.specs.declared.seen.Standing.TheVariants.{Unknown, Open, Over}
use Rattle.sql_keeper.specs.declared.seen_first.SeenFirst.{SeenFirst}

-- ---- what is known of a session

-- it has no row, and nothing of rating groups
pub record IsUnknown (r : TableRows) (s : SessionName) : Type 0 where
  pub row : r.sessions s ≡ None
  pub groups : HasNoGroups r s

abbrev pub IsStanding : TableRows → SessionName → Standing → Type 0
IsStanding r s Unknown = IsUnknown r s
IsStanding r s Open = is_open_row (r.sessions s) ≡ true
IsStanding r s Over = is_open_row (r.sessions s) ≡ false

-- whether it is open so
abbrev pub stands_open : Standing → Bool
stands_open Unknown = false
stands_open Open = true
stands_open Over = false

abbrev pub is_unknown : Standing → Bool
is_unknown Unknown = true
is_unknown Open = false
is_unknown Over = false

-- by its row
abbrev pub standing_of : Option Session → Standing
standing_of None = Unknown
standing_of (Some x) = if is_open x.state then Open else Over

-- whether it has a row; where it has none, it has nothing of rating groups
pub record IsKnown (r : TableRows) (s : SessionName) (known : Bool) : Type 0 where
  pub row : known ≡ is_some (r.sessions s)
  pub groups : known ≡ false → HasNoGroups r s

-- ---- what is seen

-- of the rows of an account
pub record IsSeenOf (a : AccountName) (w : StoredRows) (x : SeenAccount) : Type 0 where
  pub account : x.account ≡ a
  pub head : x.head ≡ Some (head_columns_of w)
  pub live : (s : SessionName) → x.live ≡ Some s → is_open_row (session_in s w.sessions) ≡ true
  pub grant : (s : SessionName) (y : SeenGrant) → x.live ≡ Some s → x.grant ≡ Some y
      → IsGrantIn w.groups s y
  pub unknown : x.unknown ≡ None
  pub first : x.first ≡ None

-- of an account of which a session has no row
pub record IsUnknownAlone (a : AccountName) (s : SessionName) (x : SeenAccount) : Type 0 where
  pub account : x.account ≡ a
  pub head : x.head ≡ None
  pub live : x.live ≡ None
  pub grant : x.grant ≡ None
  pub unknown : (z : SessionName) → x.unknown ≡ Some z → z ≡ s
  pub first : x.first ≡ None

-- of an account of which nothing but the first selection was read
pub record IsFirstAlone (a : AccountName) (f : SeenFirst) (x : SeenAccount) : Type 0 where
  pub account : x.account ≡ a
  pub head : x.head ≡ None
  pub live : x.live ≡ None
  pub grant : x.grant ≡ None
  pub unknown : x.unknown ≡ None
  pub first : x.first ≡ Some f

-- what was seen later, with the session that had no row before, and with what the first selection
-- gave before
pub record IsJoined (older newer x : SeenAccount) : Type 0 where
  pub account : x.account ≡ newer.account
  pub head : x.head ≡ newer.head
  pub live : x.live ≡ newer.live
  pub grant : x.grant ≡ newer.grant
  pub unknown : x.unknown ≡ older.unknown
  pub first : x.first ≡ older.first

-- the same with a session that has no row, or without one
pub record IsSeenWith (s : SessionName) (x y : SeenAccount) : Type 0 where
  pub account : y.account ≡ x.account
  pub head : y.head ≡ x.head
  pub live : y.live ≡ x.live
  pub grant : y.grant ≡ x.grant
  pub unknown : (z : SessionName) → y.unknown ≡ Some z → z ≡ s
  pub first : y.first ≡ x.first

-- the same with what the first selection gave now
pub record IsSeenFirst (f : SeenFirst) (x y : SeenAccount) : Type 0 where
  pub account : y.account ≡ x.account
  pub head : y.head ≡ x.head
  pub live : y.live ≡ x.live
  pub grant : y.grant ≡ x.grant
  pub unknown : y.unknown ≡ x.unknown
  pub first : y.first ≡ Some f

-- what is known of a session by what is seen of its account
abbrev pub standing_in : SeenAccount → SessionName → Option Standing
standing_in x s =
    if is_name s x.unknown then Some Unknown else (if is_name s x.live then Some Open else None)

-- it is what the account's rows are
-- rule: database-writes.seen: what was read of an account before its change isn't read again for
--   its tests, while nothing is written
pub record IsSeen (r : TableRows) (x : SeenAccount) : Type 0 where
  pub head : (h : HeadColumns) → x.head ≡ Some h → r.head ≡ Some h
  pub live : (s : SessionName) → x.live ≡ Some s → is_open_row (r.sessions s) ≡ true
  pub grant : (s : SessionName) (y : SeenGrant) → x.live ≡ Some s → x.grant ≡ Some y
      → IsGrantSeen r s y
  pub unknown : (s : SessionName) → x.unknown ≡ Some s → IsUnknown r s
  pub first : IfSome x.first (λ (y : SeenFirst). IsFirstRead y.asked r y.read)

abbrev pub Sees : Option SeenAccount → Trees → Type 0
Sees None trees = Unit {0}
Sees (Some x) trees = IsSeen (rows_in trees x.account) x

-- while the disk returned what was written and the connection is open
abbrev pub AreSeen : Option SeenAccount → State → Type 0
AreSeen o s = HasCleanDisk s → IsTrue s.is_open → Sees o s.now.trees

-- what is kept once is there with this version and this text, of a moment that isn't after this one,
-- and where it is said, of this one
pub record IsKeptOnce (told : Bool) (m : Meta) (o : Option Meta) : Type 0 where
  pub last : Moment
  pub later : last ≤ m.last
  pub row : o ≡ Some (record m { last = last })
  pub moment : told ≡ true → last ≡ m.last

-- while the disk returned what was written and the connection is open
abbrev pub Stands : Bool → Meta → State → Type 0
Stands told m s = HasCleanDisk s → IsTrue s.is_open →
    IsKeptOnce told m (tables_content s.now.trees).meta

-- the last moment isn't after this one
abbrev pub IsUpTo : Moment → State → Type 0
IsUpTo t s = HasCleanDisk s → IsTrue s.is_open → last_in (tables_content s.now.trees).meta ≤ t

-- what a keeper keeps between calls, with what it has seen, and the rows that it keeps
-- rule: database-writes.seen
pub record IsSeeing {S : Type 0} (g : Ghosts S) (k : KeeperState S) (o : Option SeenAccount)
    (p : Option KeptRows) : Type 0 where
  pub keeper : IsKeeper g k
  pub seen : AreSeen o (state g k.connection)
  pub kept : AreKept (names_in k) p (state g k.connection)
