-- The rows of one account that a keeper keeps: all of it that may still change, as they were read
-- or written last.
-- Source: profile.
use Rattle.std.specs.Prelude.{◌≡◌, ◌&&◌, ◌||◌, ℕ, Bool, true, false, not, filter, List, Option}
use Rattle.std.specs.Prelude.{Some, None, IsTrue, is_some, map, option_map, unwrap_or}
use Rattle.std.specs.Prelude.{if◌then◌else◌}
use Rattle.std.specs.List.{insert, list_all}
use Rattle.units.specs.Words.{GroupId}
use Rattle.identifiers.specs.Words.{AccountName, SessionName}
use Rattle.buckets.specs.Words.{BucketNumber}
use Rattle.sqlite_trees.specs.Tree.{Trees}
use Rattle.sqlite.specs.State.{State, HasCleanDisk}
use Rattle.buckets.specs.Row.{BucketRow}
use Rattle.reserving.specs.declared.session.Session.{Session}
use Rattle.reserving.specs.declared.session.SessionGroup.{SessionGroup}
use Rattle.reserving.specs.Left.{bucket_in, first_of, is_dead, is_open_row, only}
use Rattle.reserving.specs.Sessions.{group_in, is_open, session_in}
use Rattle.reserving.specs.Stored.{StoredRows}
use Rattle.shelves.specs.Words.{BookText}
use Rattle.keepers.specs.declared.loaded.Change.{Change}
use Rattle.keepers.specs.declared.loaded.Loaded.{Loaded}
use Rattle.keepers.specs.Naming.{IsNamed}
use Rattle.keepers.specs.Tables.{Rows, group_row, held_of}
use Rattle.sql_tables.specs.Keyed.{same_name}
use Rattle.sql_rows.specs.Content.{TableRows, rows_in}
use Rattle.sql_keeper.specs.Commits.{Becomes}
use Rattle.sql_keeper.specs.Content.{Names}
use Rattle.sql_keeper.specs.Grants.{is_name}
use Rattle.sql_keeper.specs.LiveGroups.{AreGrantsStored}
use Rattle.sql_keeper.specs.LiveRows.{AreLiveRows}
use Rattle.sql_keeper.specs.declared.kept_rows.KeptRows.{KeptRows}
use Rattle.sql_keeper.specs.declared.live_rows.LiveRows.{LiveRows}
use Rattle.sql_keeper.specs.declared.seen.SeenAccount.{SeenAccount}

-- ---- what is kept

-- they are those of the account, as the tables have them
abbrev pub AreOf : Names → TableRows → LiveRows → Type 0
AreOf names r x = AreLiveRows names r x.purse x.sessions.items x.groups.items

-- rule: database-loads.keeps: the rows of one account are kept from one command to the next as the
--   tables have them, and a load of it copies them
abbrev pub Keeps : Names → Option KeptRows → Trees → Type 0
Keeps names None trees = Unit {0}
Keeps names (Some x) trees = AreOf names (rows_in trees x.account) x.rows

-- while the disk returned what was written and the connection is open
abbrev pub AreKept : Names → Option KeptRows → State → Type 0
AreKept names o s = HasCleanDisk s → IsTrue s.is_open → Keeps names o s.now.trees

-- the same rows once more
pub record AreCopied (x y : LiveRows) : Type 0 where
  pub purse : y.purse ≡ x.purse
  pub sessions : y.sessions.items ≡ x.sessions.items
  pub groups : y.groups.items ≡ x.groups.items

-- those of an account
pub record AreTaken (w : StoredRows) (x : LiveRows) : Type 0 where
  pub purse : x.purse ≡ w.buckets
  pub sessions : x.sessions.items ≡ w.sessions
  pub groups : x.groups.items ≡ w.groups

-- those of what is loaded, with the account's number
pub record IsOf (l : Loaded) (x : KeptRows) : Type 0 where
  pub account : x.account ≡ l.number
  pub rows : AreTaken l.before x.rows

-- ---- what a change makes of them

-- a row that the change names under its key, in its place
abbrev pub bucket_over : List BucketRow → BucketRow → BucketRow
bucket_over ws x = unwrap_or (bucket_in x.number ws) x

abbrev pub session_over : List Session → Session → Session
session_over ws x = unwrap_or (session_in x.id ws) x

abbrev pub group_over : List SessionGroup → SessionGroup → SessionGroup
group_over ws x = unwrap_or (group_in x.session x.group ws) x

-- a row stays unless what is named under its key can't change any more
abbrev pub stays : {A : Type 0} → (A → Bool) → Option A → Bool
stays live None = true
stays live (Some y) = live y

abbrev pub stays_bucket : List BucketRow → BucketRow → Bool
stays_bucket ws x = stays (λ b. not (is_dead b)) (bucket_in x.number ws)

abbrev pub stays_session : List Session → SessionName → Bool
stays_session ws s = stays (λ x. is_open x.state) (session_in s ws)

-- the rows that stay, with those that are named in their places
abbrev pub buckets_over : List BucketRow → List BucketRow → List BucketRow
buckets_over ws bs = map (bucket_over ws) (filter (stays_bucket ws) bs)

abbrev pub sessions_over : List Session → List Session → List Session
sessions_over ws ss = map (session_over ws) (filter (λ x. stays_session ws x.id) ss)

-- what a session has of rating groups stays as the session does
abbrev pub groups_over : List Session → List SessionGroup → List SessionGroup → List SessionGroup
groups_over ss ws xs = map (group_over ws) (filter (λ x. stays_session ss x.session) xs)

-- a row of a new key that may still change, or is of one of these sessions
abbrev pub is_new_session : List Session → Session → Bool
is_new_session ss x = is_open x.state && not (is_some (session_in x.id ss))

abbrev pub is_new_bucket : List BucketRow → BucketRow → Bool
is_new_bucket bs b = not (is_dead b) && not (is_some (bucket_in b.number bs))

abbrev pub is_new_group : List Session → List SessionGroup → SessionGroup → Bool
is_new_group ss xs y =
    is_some (session_in y.session ss) && not (is_some (group_in y.session y.group xs))

-- a row is put in at a place
pub record IsPutIn {A : Type 0} (x : A) (old new : List A) : Type 0 where
  pub place : ℕ
  pub is : new ≡ insert old place x

-- rows with those of more that have a new key
abbrev pub AreWithBuckets : List BucketRow → List BucketRow → List BucketRow → Type 0
AreWithBuckets old more new =
    (n : BucketNumber) → bucket_in n new ≡ first_of (bucket_in n old) (bucket_in n more)

abbrev pub AreWithSessions : List Session → List Session → List Session → Type 0
AreWithSessions old more new =
    (s : SessionName) → session_in s new ≡ first_of (session_in s old) (session_in s more)

abbrev pub AreWithGroups : List SessionGroup → List SessionGroup → List SessionGroup → Type 0
AreWithGroups old more new =
    (s : SessionName) (g : GroupId) →
    group_in s g new ≡ first_of (group_in s g old) (group_in s g more)

-- whether it was seen of an account that a session has no row
abbrev pub is_unknown_in : Option SeenAccount → AccountName → SessionName → Bool
is_unknown_in None a s = false
is_unknown_in (Some x) a s = same_name x.account a && is_name s x.unknown

-- a session that is named is one of these, or nothing was there of it, unless it isn't open
abbrev pub is_known : (SessionName → Bool) → List Session → Session → Bool
is_known fresh ss x = not (is_open x.state) || (is_some (session_in x.id ss) || fresh x.id)

-- the rows with those of the change: of a session that is opened nothing was there
-- rule: database-loads.keeps
pub record AreReplaced (fresh : SessionName → Bool) (w : StoredRows) (old new : LiveRows)
    : Type 0 where
  pub named : IsNamed w
  pub known : list_all (is_known fresh old.sessions.items) w.sessions ≡ true
  pub buckets : AreWithBuckets (buckets_over w.buckets old.purse)
      (filter (λ b. not (is_dead b)) w.buckets) new.purse
  pub sessions : AreWithSessions (sessions_over w.sessions old.sessions.items)
      (filter (λ x. is_open x.state) w.sessions) new.sessions.items
  pub groups : AreWithGroups (groups_over w.sessions w.groups old.groups.items)
      (filter (λ x. is_some (session_in x.session new.sessions.items)) w.groups) new.groups.items

-- how reservations are stored once a change was written: those that it names so, and all others as
-- before
pub record AreGrantsOver (ws : List SessionGroup) (old new : TableRows) : Type 0 where
  pub named : AreGrantsStored new ws
  pub books : (s : SessionName) (g : GroupId) → group_in s g ws ≡ None
      → new.grant_books s g ≡ old.grant_books s g
  pub holds : (s : SessionName) (g : GroupId) (n : BucketNumber) → group_in s g ws ≡ None
      → new.holds s g n ≡ old.holds s g n

-- the tables become those with a change, and reservations are stored so
-- rule: database-loads.keeps
pub record BecomesOver (names : Names) (text : BookText) (change : Change) (old new : Trees)
    : Type 0 where
  pub becomes : Becomes names text change old new
  pub grants : AreGrantsOver change.rows.groups (rows_in old change.number)
      (rows_in new change.number)

-- ---- of an account's rows, whatever the tables

-- the buckets that aren't dead, the open sessions, and what they have of rating groups
pub record AreOpenRows (r : Rows) (bs : List BucketRow) (ss : List Session)
    (xs : List SessionGroup) : Type 0 where
  pub buckets : (n : BucketNumber) → bucket_in n bs ≡ only (λ b. not (is_dead b)) (r.buckets n)
  pub sessions : (s : SessionName) →
      session_in s ss ≡ only (λ x. is_open x.state) (r.sessions s)
  pub groups : (s : SessionName) (g : GroupId) → option_map group_row (group_in s g xs) ≡
      (if is_open_row (r.sessions s) then r.groups s g else None)
  pub holds : (s : SessionName) (g : GroupId) (n : BucketNumber) → held_of n (group_in s g xs) ≡
      (if is_open_row (r.sessions s) then r.holds s g n else 0)
