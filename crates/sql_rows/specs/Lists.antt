-- What lists that are read say of an account's rows: the row under each key, or that there is
-- none.
-- Source: profile.
use Rattle.std.specs.Prelude.{◌≡◌, ℕ, ◌&&◌, ◌||◌, nat_eq, nat_lt, nat_le, ◌<◌, Bool, not, List, []}
use Rattle.std.specs.Prelude.{◌∷◌, ◌++◌, length, Option, Some, None, option_map, is_some, true, false}
use Rattle.std.specs.Prelude.{if◌then◌else◌, IsTrue, filter, map}
use Rattle.std.specs.Ordering.{nat_cmp, is_lt, ordering_then}
use Rattle.std.specs.Cmp.Lexicographic.{slice_cmp}
use Rattle.std.specs.List.{find}
use Rattle.units.specs.Words.{GroupId, CycleNumber, BookNumber}
use Rattle.identifiers.specs.Words.{SessionName, AccountName}
use Rattle.buckets.specs.Words.{BucketNumber}
use Rattle.ledger.specs.Words.{ChargeNumber}
use Rattle.sqlite_value.specs.declared.value.Value.TheVariants.{Null, Text}
use Rattle.sqlite.specs.Values.{or_null}
use Rattle.sqlite_value.specs.Order.{Row as Values, column}
use Rattle.buckets.specs.Row.{BucketRow}
use Rattle.reserving.specs.declared.session.Session.{Session}
use Rattle.reserving.specs.declared.session.Counter.{Counter}
use Rattle.ledger.specs.declared.charge.ChargeRow.{ChargeRow}
use Rattle.reserving.specs.Left.{is_open_row}
use Rattle.reserving.specs.Rows.{AreApart}
use Rattle.sql_tables.specs.Keyed.{same_name}
use Rattle.sql_tables.specs.Selects.{one_or_none, passing}
use Rattle.sql_rows.specs.Values.{BookRow, Group, book_values, flag_number}
use Rattle.sql_rows.specs.Values.{counter_cells, group_cells, head_cells, nat, nat_in}
use Rattle.sql_rows.specs.Content.{TablesContent, TableRows}
use Rattle.sql_rows.specs.declared.covered_rows.CoveredColumns.{CoveredColumns}
use Rattle.sql_rows.specs.declared.grant_book_rows.GrantBook.{GrantBook}
use Rattle.sql_rows.specs.declared.head.HeadColumns.{HeadColumns}
use Rattle.sql_rows.specs.declared.hold_rows.HeldColumns.{HeldColumns}

abbrev pub is_live_bucket : BucketRow → Bool
is_live_bucket b = nat_lt 0 b.available || nat_lt 0 b.reserved

-- something of it is available
abbrev pub is_left : BucketRow → Bool
is_left b = nat_lt 0 b.available

-- nothing of it is available, and something reserved
abbrev pub is_held : BucketRow → Bool
is_held b = nat_eq 0 b.available && nat_lt 0 b.reserved

abbrev pub is_dead_bucket : BucketRow → Bool
is_dead_bucket b = not (is_live_bucket b)

-- each number is above the one before it
abbrev pub Rises : {X : Type 0} → (X → ℕ) → List X → Type 0
Rises number [] = Unit {0}
Rises number (x ∷ []) = Unit {0}
Rises number (x ∷ y ∷ zs) = (number x < number y) × Rises number (y ∷ zs)

-- each row is before the one after it
abbrev pub Ascends : {X : Type 0} → (X → X → Bool) → List X → Type 0
Ascends before [] = Unit {0}
Ascends before (x ∷ []) = Unit {0}
Ascends before (x ∷ y ∷ zs) = IsTrue (before x y) × Ascends before (y ∷ zs)

-- names are in the order of their bytes
abbrev pub name_before : AccountName → AccountName → Bool
name_before x y = is_lt (slice_cmp nat_cmp x y)

-- all accounts, each once
pub record AreAccounts (content : TablesContent) (xs : List AccountName) : Type 0 where
  pub found : (a : AccountName) →
      is_some (find (λ x. same_name x a) xs) ≡ is_some (content.rows a).head
  pub count : length xs ≡ content.count
  pub apart : AreApart (λ x y. same_name y x) xs

-- whether a name comes after another; after none each does
abbrev pub comes_after : Option AccountName → AccountName → Bool
comes_after None a = true
comes_after (Some x) a = name_before x a

-- this account follows in the order of the names, with none between
pub record IsFollowing (content : TablesContent) (after : Option AccountName) (x : AccountName) :
    Type 0 where
  pub there : IsTrue (is_some (content.rows x).head)
  pub follows : IsTrue (comes_after after x)
  pub none_between : (a : AccountName) → comes_after after a ≡ true → name_before a x ≡ true →
      is_some (content.rows a).head ≡ false

-- the account that follows; none where none does
-- rule: statements-of-tables.tables-content
abbrev pub IsNextAccount : TablesContent → Option AccountName → Option AccountName → Type 0
IsNextAccount content after None =
    (a : AccountName) → comes_after after a ≡ true → is_some (content.rows a).head ≡ false
IsNextAccount content after (Some x) = IsFollowing content after x

-- the buckets that pass the test: each by its number, and no other
abbrev pub AreBuckets : (BucketRow → Bool) → TableRows → List BucketRow → Type 0
AreBuckets test rows bs = (n : BucketNumber) →
    find (λ b. nat_eq b.number n) bs ≡ passing test (rows.buckets n)

-- the sessions that pass the test
abbrev pub AreSessions : (Session → Bool) → TableRows → List Session → Type 0
AreSessions test rows xs = (s : SessionName) →
    find (λ x. same_name x.id s) xs ≡ passing test (rows.sessions s)

-- what a session has of a rating group
pub record GroupAt : Type 0 where
  pub group : GroupId
  pub row : Group

-- of a session: nothing of rating groups, no book of a reservation, and nothing is held
pub record HasNoGroups (rows : TableRows) (s : List ℕ) : Type 0 where
  pub groups : (g : ℕ) → rows.groups s g ≡ None
  pub books : (g : ℕ) → rows.grant_books s g ≡ None
  pub holds : (g n : ℕ) → rows.holds s g n ≡ None

abbrev pub group_at_before : GroupAt → GroupAt → Bool
group_at_before x y = nat_lt x.group y.group

-- what an open session has of a rating group
pub record OpenGroupAt : Type 0 where
  pub session : List ℕ
  pub group : ℕ
  pub row : Group

-- as the first part of a selection gives it: the part's number, the session, the rating group, the
-- names of the periods, and the other columns
abbrev pub open_group_cells : OpenGroupAt → Values
open_group_cells x =
    nat 0 ∷ Text x.session ∷ nat x.group ∷ or_null (λ p. Text p.before) x.row.periods
    ∷ or_null (λ p. Text p.after) x.row.periods ∷ nat x.row.used
    ∷ nat (flag_number (is_some x.row.periods)) ∷ []

-- by the session, and within one by the rating group
abbrev pub open_group_before : OpenGroupAt → OpenGroupAt → Bool
open_group_before x y =
    is_lt (ordering_then (slice_cmp nat_cmp x.session y.session) (nat_cmp x.group y.group))

abbrev pub is_group_of : List ℕ → ℕ → OpenGroupAt → Bool
is_group_of s g x = same_name x.session s && nat_eq x.group g

-- all that open sessions have of rating groups
-- rule: statements-of-tables.open-rows
abbrev pub AreOpenGroups : TableRows → List OpenGroupAt → Type 0
AreOpenGroups rows xs = (s : List ℕ) (g : ℕ) →
    option_map (λ (x : OpenGroupAt). x.row) (find (is_group_of s g) xs)
    ≡ (if is_open_row (rows.sessions s) then rows.groups s g else None)

-- the columns after the session's
abbrev pub group_at_cells : GroupAt → Values
group_at_cells x = group_cells x.group x.row

-- all that the session has
abbrev pub AreGroups : TableRows → SessionName → List GroupAt → Type 0
AreGroups rows s xs = (g : GroupId) →
    option_map (λ (x : GroupAt). x.row) (find (λ x. nat_eq x.group g) xs) ≡ rows.groups s g

-- what is held for a session: by the rating group, and within one by the bucket
abbrev pub hold_before : HeldColumns → HeldColumns → Bool
hold_before x y =
    nat_lt x.group y.group || (nat_eq x.group y.group && nat_lt x.bucket y.bucket)

abbrev pub hold_cells : HeldColumns → Values
hold_cells h = nat h.group ∷ nat h.bucket ∷ nat h.amount ∷ []

-- all that is held for the session
abbrev pub AreHolds : TableRows → SessionName → List HeldColumns → Type 0
AreHolds rows s xs = (g : GroupId) (n : BucketNumber) →
    option_map (λ (x : HeldColumns). x.amount)
    (find (λ x. nat_eq x.group g && nat_eq x.bucket n) xs) ≡ rows.holds s g n

-- what is held for a session of an account
pub record SessionHoldAt : Type 0 where
  pub session : List ℕ
  pub group : ℕ
  pub bucket : ℕ
  pub amount : ℕ

-- as the second part gives it, with NULL for the columns that a hold has none for
abbrev pub session_hold_cells : SessionHoldAt → Values
session_hold_cells h =
    nat 1 ∷ Text h.session ∷ nat h.group ∷ nat h.bucket ∷ nat h.amount ∷ Null ∷ Null ∷ []

-- by the session, within one by the rating group, and within that by the bucket
abbrev pub session_hold_before : SessionHoldAt → SessionHoldAt → Bool
session_hold_before x y =
    is_lt (ordering_then (ordering_then (slice_cmp nat_cmp x.session y.session)
    (nat_cmp x.group y.group)) (nat_cmp x.bucket y.bucket))

abbrev pub is_hold_of : List ℕ → ℕ → ℕ → SessionHoldAt → Bool
is_hold_of s g n x = same_name x.session s && (nat_eq x.group g && nat_eq x.bucket n)

-- all that is held for sessions of the account
-- rule: statements-of-tables.open-rows
abbrev pub AreAllHolds : TableRows → List SessionHoldAt → Type 0
AreAllHolds rows xs = (s : List ℕ) (g n : ℕ) →
    option_map (λ (x : SessionHoldAt). x.amount) (find (is_hold_of s g n) xs) ≡ rows.holds s g n

-- the number of the book of a reservation of one of the account's sessions
pub record SessionBookAt : Type 0 where
  pub session : List ℕ
  pub group : ℕ
  pub book : ℕ

-- as the third part gives it
abbrev pub session_book_cells : SessionBookAt → Values
session_book_cells x =
    nat 2 ∷ Text x.session ∷ nat x.group ∷ nat x.book ∷ Null ∷ Null ∷ Null ∷ []

abbrev pub session_book_before : SessionBookAt → SessionBookAt → Bool
session_book_before x y =
    is_lt (ordering_then (slice_cmp nat_cmp x.session y.session) (nat_cmp x.group y.group))

abbrev pub is_book_of : List ℕ → ℕ → SessionBookAt → Bool
is_book_of s g x = same_name x.session s && nat_eq x.group g

-- those of all reservations of the account
-- rule: statements-of-tables.open-rows
abbrev pub AreAllGrantBooks : TableRows → List SessionBookAt → Type 0
AreAllGrantBooks rows xs = (s : List ℕ) (g : ℕ) →
    option_map (λ (x : SessionBookAt). x.book) (find (is_book_of s g) xs) ≡ rows.grant_books s g

-- the number of the book of a session's reservation in a rating group
abbrev pub grant_book_cells : GrantBook → Values
grant_book_cells x = nat x.group ∷ nat x.book ∷ []

-- by the rating group
abbrev pub grant_book_before : GrantBook → GrantBook → Bool
grant_book_before x y = nat_lt x.group y.group

-- those of all reservations of the session
abbrev pub AreGrantBooks : TableRows → SessionName → List GrantBook → Type 0
AreGrantBooks rows s xs = (g : GroupId) →
    option_map (λ (x : GrantBook). x.book) (find (λ x. nat_eq x.group g) xs)
    ≡ rows.grant_books s g

-- a book after the first under its number
pub record BookAt : Type 0 where
  pub number : BookNumber
  pub row : BookRow

abbrev pub book_at_cells : BookAt → Values
book_at_cells x = book_values x.number x.row

-- all books after the first
abbrev pub AreBooks : TablesContent → List BookAt → Type 0
AreBooks content xs = (n : BookNumber) →
    option_map (λ (x : BookAt). x.row) (find (λ x. nat_eq x.number n) xs) ≡ content.books n

-- the numbers of all buckets that count blocks
abbrev pub AreAllowances : TableRows → List BucketNumber → Type 0
AreAllowances rows xs = (n : BucketNumber) → is_some (find (λ x. nat_eq x n) xs) ≡ rows.allowances n

-- a rating group of a session that has a reservation
pub record ReservedAt : Type 0 where
  pub account : AccountName
  pub session : SessionName
  pub group : GroupId
  pub reserved : Bool

abbrev pub reserved_cells : ReservedAt → Values
reserved_cells x =
    Text x.account ∷ Text x.session ∷ nat x.group ∷ nat (flag_number x.reserved) ∷ []

abbrev pub has_reservation : Option Group → Bool
has_reservation None = false
has_reservation (Some x) = is_some x.periods

-- the rating groups of all sessions that have a reservation
abbrev pub AreReserved : TablesContent → List ReservedAt → Type 0
AreReserved content xs = (a : AccountName) (s : SessionName) (g : GroupId) →
    is_some (find (λ x. same_name x.account a && (same_name x.session s && nat_eq x.group g)) xs)
    ≡ has_reservation ((content.rows a).groups s g)

-- the covered blocks of the charges beyond a number, and up to another
abbrev pub AreCovered : ChargeNumber → ChargeNumber → TableRows → List CoveredColumns → Type 0
AreCovered after last rows xs = (n : ChargeNumber) →
    option_map (λ (x : CoveredColumns). x.blocks) (find (λ x. nat_eq x.number n) xs)
    ≡ (if nat_lt after n && nat_le n last then rows.covered n else None)

-- covered blocks are beside a charge
abbrev pub AreCoveredBeside : TableRows → Type 0
AreCoveredBeside r = (n : ChargeNumber) → r.charges n ≡ None → r.covered n ≡ None

-- by the charge's number
abbrev pub covered_before : CoveredColumns → CoveredColumns → Bool
covered_before x y = nat_lt x.number y.number

-- whether a charge lies beyond a number, and up to another
abbrev pub is_row_within : ChargeNumber → ChargeNumber → ChargeRow → Bool
is_row_within after last x = nat_lt after x.number && nat_le x.number last

-- the charges of the account that pass the test
abbrev pub AreChargeRows : (ChargeRow → Bool) → TableRows → List ChargeRow → Type 0
AreChargeRows test rows xs = (n : ChargeNumber) →
    find (λ x. nat_eq x.number n) xs ≡ passing test (rows.charges n)

abbrev pub NumbersRise : List ChargeRow → Type 0
NumbersRise xs = Rises (λ x. x.number) xs

abbrev pub BucketsRise : List BucketRow → Type 0
BucketsRise bs = Rises (λ b. b.number) bs

-- the counters of one cycle
abbrev pub AreCountersIn : CycleNumber → TableRows → List Counter → Type 0
AreCountersIn cycle rows xs = (g : GroupId) (c : CycleNumber) →
    find (λ x. nat_eq x.group g && nat_eq x.cycle c) xs
    ≡ (if nat_eq c cycle then rows.counters g c else None)

-- the columns of an account's own row, and of its counters' rows, as one selection of parts gives
-- them: behind the number of the part
abbrev pub head_part : HeadColumns → Values
head_part h = nat 0 ∷ head_cells h

abbrev pub counter_part : ℕ → Counter → Values
counter_part part k = nat part ∷ (counter_cells k ++ nat 0 ∷ [])

abbrev pub of_part : ℕ → Values → Bool
of_part part r = nat_eq (nat_in (column r 0)) part

-- the account's own row among those of all parts, and its counters of a part
abbrev pub IsHeadAmong : List Values → Option HeadColumns → Type 0
IsHeadAmong rows head = map head_part (one_or_none head) ≡ filter (of_part 0) rows

abbrev pub AreCountersAmong : ℕ → List Values → List Counter → Type 0
AreCountersAmong part rows xs = map (counter_part part) xs ≡ filter (of_part part) rows
