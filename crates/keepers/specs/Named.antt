-- What the keeper in memory knows of the rows that were left without a search: the numbers and
-- names that they have.
use Rattle.std.specs.Prelude.{◌≡◌, ℕ, Bool, true, false, ◌||◌, List, nat_eq, is_some}
use Rattle.std.specs.HashSet.{HashSet, contains}
use Rattle.std.specs.declared.hash.FoldHasher.{FoldHasher}
use Rattle.std.specs.declared.hash.BuildHasherDefault.{BuildHasherDefault}
use Rattle.units.specs.Words.{Moment}
use Rattle.identifiers.specs.Words.{SessionName}
use Rattle.buckets.specs.Row.{BucketRow}
use Rattle.calendar.specs.declared.cycle.Cycle.{Cycle}
use Rattle.calendar.specs.declared.cycle.Cycle.TheVariants as Each
use Rattle.calendar.specs.Timetable.{cycle_of}
use Rattle.shelves.specs.Shelves.{Shelf, book_at}
use Rattle.identifiers.specs.Texts.{same_name}
use Rattle.reserving.specs.declared.session.Session.{Session}
use Rattle.reserving.specs.declared.session.SessionGroup.{SessionGroup}
use Rattle.reserving.specs.declared.session.Counter.{Counter}
use Rattle.ledger.specs.Lists.{EachIn}
use Rattle.reserving.specs.Sessions.{is_open}
use Rattle.reserving.specs.Left.{is_dead}

-- a set of numbers, and one of names
abbrev pub Numbers : Type 0
Numbers = HashSet ℕ (BuildHasherDefault FoldHasher)

abbrev pub Names : Type 0
Names = HashSet (List ℕ) (BuildHasherDefault FoldHasher)

abbrev pub is_numbered : Numbers → ℕ → Bool
is_numbered numbers n = contains nat_eq numbers n

abbrev pub is_named : Names → SessionName → Bool
is_named names s = contains same_name names s

-- each that was left can't change, and is known by its number or name
abbrev pub AreLeftBuckets : Numbers → List BucketRow → Type 0
AreLeftBuckets numbers rows =
    EachIn (λ b. (is_dead b ≡ true) × (is_numbered numbers b.number ≡ true)) rows

abbrev pub AreLeftSessions : Names → List Session → Type 0
AreLeftSessions names rows =
    EachIn (λ r. (is_open r.state ≡ false) × (is_named names r.id ≡ true)) rows

abbrev pub AreLeftGroups : Names → List SessionGroup → Type 0
AreLeftGroups names rows =
    EachIn (λ r. (is_some r.reservation ≡ false) × (is_named names r.session ≡ true)) rows

-- a counter that was left is known by its cycle
abbrev pub AreLeftCounters : Numbers → List Counter → Type 0
AreLeftCounters cycles rows = EachIn (λ c. is_numbered cycles c.cycle ≡ true) rows

-- one that was left may be of a cycle at the moment: of none, of the day, or of the month
abbrev pub is_left_now : Shelf → Moment → Numbers → Cycle → Bool
is_left_now shelf t cycles cycle = is_numbered cycles
    (cycle_of (book_at shelf t).calendar.zone cycle t)

abbrev pub may_go_on : Shelf → Moment → Numbers → Bool
may_go_on shelf t cycles =
    (is_left_now shelf t cycles Each.None || is_left_now shelf t cycles Each.Day)
    || is_left_now shelf t cycles Each.Month
