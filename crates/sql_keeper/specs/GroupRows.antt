-- What sessions have of rating groups, made of their rows and of what is held for them.
-- Source: profile.
use Rattle.std.specs.Prelude.{◌≡◌, ℕ, ◌==◌, ◌&&◌, ◌||◌, Bool, true, not, List, Option, Some, None}
use Rattle.std.specs.Prelude.{option_map, unwrap_or, nat_lt, map, filter}
use Rattle.std.specs.Prelude.{[], ◌∷◌, false}
use Rattle.std.specs.List.{find, list_all, list_any, AllZip}
use Rattle.std.specs.Ordering.{nat_cmp, is_lt, ordering_then}
use Rattle.std.specs.declared.cmp.Ordering.{Ordering}
use Rattle.std.specs.Cmp.Lexicographic.{slice_cmp}
use Rattle.units.specs.Words.{GroupId, BookNumber}
use Rattle.identifiers.specs.Words.{SessionName}
use Rattle.buckets.specs.Words.{BucketNumber, BucketAmount}
use Rattle.buckets.specs.declared.holds.HeldAmount.{HeldAmount}
use Rattle.buckets.specs.Row.{BucketRow}
use Rattle.buckets.specs.Share.{parts}
use Rattle.rating.specs.declared.grant.Periods.{Periods}
use Rattle.tariffs.specs.Names.{period_named}
use Rattle.ledger.specs.Lists.{EachIn}
use Rattle.reserving.specs.declared.session.SessionGroup.{SessionGroup}
use Rattle.reserving.specs.declared.session.Reservation.{Reservation}
use Rattle.ledger.specs.declared.terms.Terms.{Terms}
use Rattle.sql_tables.specs.Keyed.{same_name}
use Rattle.sql_rows.specs.declared.hold_rows.HeldColumns.{HeldColumns}
use Rattle.sql_rows.specs.declared.session_book_rows.SessionBook.{SessionBook}
use Rattle.sql_rows.specs.declared.session_hold_rows.SessionHold.{SessionHold}
use Rattle.sql_rows.specs.Lists.{Ascends, OpenGroupAt, session_book_before, session_hold_before}
use Rattle.sql_rows.specs.Texts.{session_book_at, session_hold_at}
use Rattle.sql_rows.specs.Values.{PeriodNames}
use Rattle.sql_keeper.specs.Content.{Names, names_numbered}

-- ---- what is held for a session

-- of what is held for sessions
abbrev pub held_for : SessionName → List SessionHold → List HeldColumns
held_for s held =
    map (λ (x : SessionHold). x.columns)
    (filter (λ (x : SessionHold). same_name x.session s) held)

-- in the order of sessions, of each one's rating groups, and of each one's buckets
abbrev pub DoHoldsRise : List SessionHold → Type 0
DoHoldsRise held = Ascends session_hold_before (map session_hold_at held)

-- what is held for a session before this one
abbrev pub precedes : SessionName → SessionHold → Bool
precedes s x = is_lt (slice_cmp nat_cmp x.session s)

-- behind what is held for another session nothing is held for this one
abbrev pub IsRun : SessionName → List SessionHold → Type 0
IsRun s [] = Unit {0}
IsRun s (x ∷ xs) =
    (same_name x.session s ≡ false →
    EachIn (λ (y : SessionHold). same_name y.session s ≡ false) xs)
    × IsRun s xs

-- of a bucket for a rating group, in micro-units; 0 where nothing is
abbrev pub amount_of : GroupId → List HeldColumns → BucketNumber → BucketAmount
amount_of g held n =
    unwrap_or (option_map (λ (x : HeldColumns). x.amount)
    (find (λ x. x.group == g && x.bucket == n) held)) 0

-- what is held is above 0, and of one of the buckets
abbrev pub is_held_of : List BucketRow → HeldColumns → Bool
is_held_of buckets x = nat_lt 0 x.amount && list_any (λ b. b.number == x.bucket) buckets

-- so is all that is held for a rating group
abbrev pub are_held_of : List BucketRow → GroupId → List HeldColumns → Bool
are_held_of buckets g held = list_all (λ x. not (x.group == g) || is_held_of buckets x) held

-- what is held for a rating group, in the order of the buckets
abbrev pub holds_along : List BucketRow → GroupId → List HeldColumns → List HeldAmount
holds_along buckets g held = parts (λ b. amount_of g held b.number) buckets

-- ---- a row with its reservation

-- the periods of two names
pub record ArePeriodsOf (names : List (List ℕ)) (p : PeriodNames) (periods : Periods) : Type 0 where
  pub before : period_named names p.before ≡ Some periods.before
  pub after : period_named names p.after ≡ Some periods.after

-- in the order of sessions, and of each one's rating groups
abbrev pub DoBooksRise : List SessionBook → Type 0
DoBooksRise books = Ascends session_book_before (map session_book_at books)

abbrev pub compare_books : SessionBook → SessionBook → Ordering
compare_books x y =
    ordering_then (slice_cmp nat_cmp x.session y.session)
    (nat_cmp x.columns.group y.columns.group)

-- the row of a session and a rating group
abbrev pub is_book : SessionName → GroupId → SessionBook → Bool
is_book s g x = same_name x.session s && x.columns.group == g

-- the number of the book that a session's reservation in a rating group goes by
abbrev pub book_of : SessionName → GroupId → List SessionBook → Option BookNumber
book_of s g books = option_map (λ (x : SessionBook). x.columns.book) (find (is_book s g) books)

-- the terms of a reservation of this book with these names, which its periods have there
pub record AreTermsOf (names : Names) (number : Option BookNumber) (p : PeriodNames) (x : Terms)
    : Type 0 where
  pub book : number ≡ Some x.book
  pub periods : ArePeriodsOf (names_numbered names x.book) p x.periods

-- the holds of a rating group are in the order of the buckets, and there is no other hold of it
pub record AreHoldsOf (buckets : List BucketRow) (held : List HeldColumns) (g : GroupId)
    (holds : List HeldAmount) : Type 0 where
  pub order : holds ≡ holds_along buckets g held
  pub all : are_held_of buckets g held ≡ true

-- a reservation is there where it has names of periods; it goes by the book of the number
abbrev pub IsReservationOf : Names → List BucketRow → List HeldColumns → Option BookNumber →
    GroupId →
    Option PeriodNames → Option Reservation → Type 0
IsReservationOf names buckets held number g None None = Unit {0}
IsReservationOf names buckets held number g None (Some r) = ⊥
IsReservationOf names buckets held number g (Some p) None = ⊥
IsReservationOf names buckets held number g (Some p) (Some r) =
    AreTermsOf names number p r.terms × AreHoldsOf buckets held g r.holds

-- what a session has of a rating group is that of the row
-- rule: database-loads.group-of: what an open session's groups hold is read with them
pub record IsGroupOf (names : Names) (buckets : List BucketRow) (held : List SessionHold)
    (books : List SessionBook) (c : OpenGroupAt) (x : SessionGroup) : Type 0 where
  pub session : x.session ≡ c.session
  pub group : x.group ≡ c.group
  pub used : x.used ≡ c.row.used
  pub reservation : IsReservationOf names buckets (held_for c.session held)
      (book_of c.session c.group books) c.group c.row.periods x.reservation

-- so is each of a list
abbrev pub AreGroupsOf : Names → List BucketRow → List SessionHold → List SessionBook →
    List OpenGroupAt → List SessionGroup → Type 0
AreGroupsOf names buckets held books cs xs = AllZip (IsGroupOf names buckets held books) cs xs
