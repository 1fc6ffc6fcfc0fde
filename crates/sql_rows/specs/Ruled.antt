-- Rows in the rules of who reads them. What a row is is what the content shows of it.
-- Source: profile.
use Rattle.std.specs.Prelude.{◌≡◌, ◌<◌, ◌≤◌, ◌^◌, ℕ, IfSome, IsTrue, Option, Some, None}
use Rattle.std.specs.Prelude.{is_some}
use Rattle.std.specs.Str.{IsUtf8}
use Rattle.units.specs.Words.{GroupId, BookNumber, latest_moment}
use Rattle.identifiers.specs.Words.{SessionName, AccountName}
use Rattle.identifiers.specs.Texts.{is_account_number, is_session_id}
use Rattle.buckets.specs.Row.{BucketRow}
use Rattle.buckets.specs.Words.{BucketAmount, BucketNumber}
use Rattle.ledger.specs.Words.{ChargeNumber}
use Rattle.reserving.specs.Sessions.{is_open}
use Rattle.reserving.specs.declared.session.Counter.{Counter}
use Rattle.reserving.specs.declared.session.Session.{Session}
use Rattle.sql_tables.specs.Words.{TablesVersion}
use Rattle.sql_rows.specs.Content.{TableRows, TablesContent}
use Rattle.sql_rows.specs.Lists.{BookAt, ReservedAt, has_reservation}
use Rattle.sql_rows.specs.Texts.{meta_of}
use Rattle.sql_rows.specs.Values.{BookRow, Kept, Meta}
use Rattle.sql_rows.specs.declared.grant_book_rows.GrantBook.{GrantBook}
use Rattle.sql_rows.specs.declared.head.HeadColumns.{HeadColumns}
use Rattle.sql_rows.specs.declared.hold_rows.HeldColumns.{HeldColumns}
use Rattle.sql_rows.specs.declared.meta_rows.MetaColumns.{MetaColumns}
use Rattle.sql_rows.specs.declared.voucher_rows.VoucherColumns.{VoucherColumns}

-- the version is below 2^32, the text is one of characters, and the moment is in the range of
-- moments
pub record IsRuledMeta (m : Meta) : Type 0 where
  pub version : m.version < 2 ^ 32
  pub book : IsUtf8 m.book
  pub last : m.last ≤ latest_moment

-- a row is there, and it keeps another version than this, whatever else it holds
-- rule: database-migrated.older
abbrev pub IsMetaOther : TablesVersion → Option Meta → Type 0
IsMetaOther v None = ⊥
IsMetaOther v (Some m) = ¬ (m.version ≡ v)

-- what tables of a version read of it: the row, or none where it keeps another version
-- rule: database-migrated.older
abbrev pub IsMetaRead : TablesVersion → Option MetaColumns → Option Meta → Type 0
IsMetaRead v None kept = IsMetaOther v kept
IsMetaRead v (Some m) kept = kept ≡ Some (meta_of m)

-- no row is there, or it keeps this version and is out of the rules
abbrev pub IsRefusedMeta : TablesVersion → Option Meta → Type 0
IsRefusedMeta v None = Unit {0}
IsRefusedMeta v (Some m) = (m.version ≡ v) × ¬ IsRuledMeta m

-- a book after the first: its number is below 2^32, its moment in the range of moments, and its
-- text one of characters
pub record IsRuledBook (x : BookAt) : Type 0 where
  pub number : x.number < 2 ^ 32
  pub starts : x.row.starts ≤ latest_moment
  pub content : IsUtf8 x.row.content

-- each book that is there is in the rules
abbrev pub AreRuledBooks : (BookNumber → Option BookRow) → Type 0
AreRuledBooks books = (n : BookNumber) (x : BookRow) → books n ≡ Some x
    → IsRuledBook (record { number = n; row = x })

-- a reservation is given: its account's number and its session's name are such texts, and its
-- rating group is below 2^32
pub record IsRuledReserved (x : ReservedAt) : Type 0 where
  pub account : IsTrue (is_account_number x.account)
  pub session : IsTrue (is_session_id x.session)
  pub group : x.group < 2 ^ 32
  pub is_reserved : IsTrue x.reserved

-- each reservation is in the rules
-- rule: database-migrated.ruled-version
abbrev pub AreRuledReserved : TablesContent → Type 0
AreRuledReserved c = (a : AccountName) (s : SessionName) (g : GroupId) →
    IsTrue (has_reservation ((c.rows a).groups s g))
    → IsTrue (is_account_number a) × IsTrue (is_session_id s) × (g < 2 ^ 32)

-- what is kept of an account once: the moment that its rows are as of is in the range of moments
-- rule: statements-of-tables.refused: the rows that are out of the rules of who reads them
pub record IsRuledHead (h : HeadColumns) : Type 0 where
  pub as_of : h.as_of ≤ latest_moment

-- an account: its name is an account's number
abbrev pub IsRuledAccount : AccountName → Type 0
IsRuledAccount a = IsTrue (is_account_number a)

-- each account that is opened is in the rules
abbrev pub AreRuledAccounts : TablesContent → Type 0
AreRuledAccounts c = (a : AccountName) → IsTrue (is_some (c.rows a).head) → IsRuledAccount a

-- a session: its name is such a text, the number of its last request is below 2^32, and its moment
-- is in the range of moments
pub record IsRuledSession (x : Session) : Type 0 where
  pub id : IsTrue (is_session_id x.id)
  pub last_number : x.last_number < 2 ^ 32
  pub touched : x.touched ≤ latest_moment

-- each session that is open is in the rules
abbrev pub AreRuledOpen : TableRows → Type 0
AreRuledOpen rows = (s : SessionName) (x : Session) → rows.sessions s ≡ Some x
    → IsTrue (is_open x.state) → IsRuledSession x

-- a bucket: its number and the rating group that it pays for are below 2^32, and its moments are in
-- the range of moments
pub record IsRuledBucket (b : BucketRow) : Type 0 where
  pub number : b.number < 2 ^ 32
  pub from : b.from ≤ latest_moment
  pub until : b.until ≤ latest_moment
  pub scope : IfSome b.scope (λ (g : ℕ). g < 2 ^ 32)

-- a counter: its rating group and its cycle are below 2^32
pub record IsRuledCounter (k : Counter) : Type 0 where
  pub group : k.group < 2 ^ 32
  pub cycle : k.cycle < 2 ^ 32

-- a voucher: its days and the rating group that it pays for are below 2^32, and who redeemed it has
-- an account's number
pub record IsRuledVoucher (x : VoucherColumns) : Type 0 where
  pub days : IfSome x.days (λ n. n < 2 ^ 32)
  pub scope : IfSome x.scope (λ g. g < 2 ^ 32)
  pub account : IfSome x.account (λ a. IsTrue (is_account_number a))

-- a kept answer: both texts are ones of characters
pub record IsRuledKept (k : Kept) : Type 0 where
  pub content : IsUtf8 k.content
  pub answer : IsUtf8 k.answer

-- the book of a reservation: its rating group and the book's number are below 2^32
pub record IsRuledGrantBook (x : GrantBook) : Type 0 where
  pub group : x.group < 2 ^ 32
  pub book : x.book < 2 ^ 32

-- each book of a reservation of the session is in the rules
abbrev pub AreRuledGrantBooks : TableRows → SessionName → Type 0
AreRuledGrantBooks rows s = (g : GroupId) (n : BookNumber) → rows.grant_books s g ≡ Some n
    → IsRuledGrantBook (record { group = g; book = n })

-- what a reservation holds: its rating group and its bucket's number are below 2^32
pub record IsRuledHold (x : HeldColumns) : Type 0 where
  pub group : x.group < 2 ^ 32
  pub bucket : x.bucket < 2 ^ 32

-- all that is held for the session is in the rules
abbrev pub AreRuledHolds : TableRows → SessionName → Type 0
AreRuledHolds rows s = (g : GroupId) (n : BucketNumber) (m : BucketAmount)
    → rows.holds s g n ≡ Some m → IsRuledHold (record { group = g; bucket = n; amount = m })

-- the number of each bucket that counts blocks is below 2^32
abbrev pub AreRuledAllowances : TableRows → Type 0
AreRuledAllowances rows = (n : BucketNumber) → IsTrue (rows.allowances n) → n < 2 ^ 32

-- the blocks of a charge that were covered: its number is below 2^32
abbrev pub AreRuledCovered : TableRows → Type 0
AreRuledCovered rows = (n : ChargeNumber) → IsTrue (is_some (rows.covered n)) → n < 2 ^ 32
