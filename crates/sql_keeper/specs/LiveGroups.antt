-- What sessions have of rating groups, with what is held there, read from the tables.
-- Source: profile.
use Rattle.std.specs.Prelude.{◌≡◌, true, false, List, Some, None, Result, IfOk, OnOk, IsTrue}
use Rattle.std.specs.Prelude.{option_map, if◌then◌else◌}
use Rattle.units.specs.Words.{GroupId}
use Rattle.identifiers.specs.Words.{SessionName}
use Rattle.buckets.specs.Words.{BucketNumber}
use Rattle.sqlite_trees.specs.Tree.{Trees}
use Rattle.sqlite.specs.State.{State, HasCleanDisk, Survives}
use Rattle.reserving.specs.declared.session.Session.{Session}
use Rattle.reserving.specs.declared.session.SessionGroup.{SessionGroup}
use Rattle.reserving.specs.declared.session.Reservation.{Reservation}
use Rattle.reserving.specs.Left.{is_open_row}
use Rattle.reserving.specs.Sessions.{group_in, is_open}
use Rattle.keepers.specs.Change.{is_loaded}
use Rattle.keepers.specs.Tables.{Rows, group_row, held_at, held_of}
use Rattle.sql_tables.specs.Statements.{OnlyReads}
use Rattle.sql_rows.specs.Content.{TableRows}
use Rattle.sql_rows.specs.Lists.{AreSessions}
use Rattle.sql_keeper.specs.Content.{stored_group_in, is_reserved, held_in, told_rows, Names}

-- outside a transaction, several reads in turn, or none: while the connection stays open, what they
-- answer is what the tables say; whether they answer or not, they change nothing
pub record Gathers {A E : Type 0} (told : Trees → A → Type 0) (old new : State)
    (result : Result A E) : Type 0
  where
    pub found : HasCleanDisk new → IsTrue new.is_open → IfOk result (told old.now.trees)
    pub only : OnlyReads old new
    -- after an answer a connection that was open is open still
    pub stays : HasCleanDisk new → IsTrue old.is_open → OnOk result (IsTrue new.is_open)
    -- a stop leaves what it left before
    pub survives : Survives old new (λ _. old.is_open ≡ false)

-- how a session's reservation in a rating group is stored: the number of its book has a row, and no
-- other bucket has one than those of which it holds
pub record IsGrantStored (rows : TableRows) (s : SessionName) (g : GroupId) (v : Reservation)
    : Type 0
  where
    pub book : rows.grant_books s g ≡ Some v.terms.book
    pub held : (n : BucketNumber) → held_at n v.holds ≡ 0 → rows.holds s g n ≡ None

-- how the reservations that sessions have in rating groups are stored
abbrev pub AreGrantsStored : TableRows → List SessionGroup → Type 0
AreGrantsStored rows xs =
    (s : SessionName) (g : GroupId) (x : SessionGroup) (v : Reservation)
    → group_in s g xs ≡ Some x → x.reservation ≡ Some v → IsGrantStored rows s g v

-- what the open sessions have of rating groups, and what their reservations hold: all of it, and of
-- no other session
-- rule: database-loads.told-groups: open groups and what they hold are what a load asks for
pub record AreToldGroups (names : Names) (rows : TableRows) (xs : List SessionGroup) : Type 0 where
  pub groups : (s : SessionName) (g : GroupId) → option_map group_row (group_in s g xs) ≡
      (if is_open_row (rows.sessions s)
      then option_map (stored_group_in names true (rows.grant_books s g)) (rows.groups s g) else
      None)
  pub holds : (s : SessionName) (g : GroupId) (n : BucketNumber) → held_of n (group_in s g xs) ≡
      (if is_open_row (rows.sessions s)
      then held_in (is_reserved (rows.groups s g)) (rows.holds s g n) else 0)

-- and how their reservations are stored
-- rule: database-loads.live-groups: what open sessions have of rating groups is read from a
--   database
pub record AreLiveGroups (names : Names) (rows : TableRows) (xs : List SessionGroup) : Type 0 where
  pub told : AreToldGroups names rows xs
  pub grants : AreGrantsStored rows xs

-- the open sessions, and what they have of rating groups
-- rule: database-loads.live-groups
pub record AreOpenSessions (names : Names) (rows : TableRows) (ss : List Session)
    (xs : List SessionGroup) : Type 0 where
  pub sessions : AreSessions (λ x. is_open x.state) rows ss
  pub groups : AreLiveGroups names rows xs

-- of an account's rows, what is loaded of groups and holds
-- rule: database-loads.told-groups
pub record AreLoadedGroups (r : Rows) (xs : List SessionGroup) : Type 0 where
  pub groups : (s : SessionName) (g : GroupId) → option_map group_row (group_in s g xs) ≡
      (if is_loaded r s g then r.groups s g else None)
  pub holds : (s : SessionName) (g : GroupId) (n : BucketNumber) → held_of n (group_in s g xs) ≡
      (if is_loaded r s g then r.holds s g n else 0)

-- what the open sessions have is what is loaded
abbrev pub AreOpenGroupsLoaded : Type 0
AreOpenGroupsLoaded =
    (names : Names) (rows : TableRows) (xs : List SessionGroup) → AreToldGroups names rows xs
    → AreLoadedGroups (told_rows names rows) xs
