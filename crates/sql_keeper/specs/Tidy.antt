-- Tables in which no row is without a meaning. What a keeper writes over such tables leaves such
-- tables; those of another writer may hold more, and are read all the same.
-- Source: profile.
use Rattle.std.specs.Prelude.{◌≡◌, ◌&&◌, ◌||◌, Bool, true, Option, Some, None}
use Rattle.std.specs.Prelude.{is_some, nat_eq}
use Rattle.units.specs.Words.{GroupId, BookNumber, CcRequestNumber}
use Rattle.identifiers.specs.Words.{SessionName, AccountName}
use Rattle.buckets.specs.Words.{BucketNumber}
use Rattle.ledger.specs.Words.{ChargeNumber}
use Rattle.sql_rows.specs.Words.{KeyKind, KeyName}
use Rattle.tariffs.specs.Names.{period_named}
use Rattle.reserving.specs.Left.{first_of, is_open_row}
use Rattle.reserving.specs.Sessions.{group_in, session_in}
use Rattle.reserving.specs.Stored.{StoredRows}
use Rattle.sql_rows.specs.Values.{Group, Kept, PeriodNames, reference_kind, request_kind}
use Rattle.sql_rows.specs.Content.{TablesContent, TableRows}
use Rattle.sql_rules.specs.Ruled.{AreBeside}
use Rattle.sql_keeper.specs.Content.{Names, book_in, is_reserved, kept_in}
use Rattle.sql_keeper.specs.Content.{names_numbered}

-- the names are those of periods of the book of this number, the first where there is none
abbrev pub are_named : Names → Option BookNumber → PeriodNames → Bool
are_named names book p =
    is_some (period_named (names_numbered names (book_in book)) p.before)
    && is_some (period_named (names_numbered names (book_in book)) p.after)

abbrev pub are_terms : Names → Option BookNumber → Option PeriodNames → Bool
are_terms names book None = true
are_terms names book (Some p) = are_named names book p

-- a group's reservation has the names of its book's periods
abbrev pub has_terms : Names → Option BookNumber → Option Group → Bool
has_terms names book None = true
has_terms names book (Some x) = are_terms names book x.periods

-- a request has a number, an operator's command has 0
abbrev pub is_key : KeyKind → CcRequestNumber → Bool
is_key kind number =
    nat_eq request_kind kind || (nat_eq reference_kind kind && nat_eq 0 number)

-- of an account
pub record AreTidyRows (names : Names) (a : AccountName) (r : TableRows) : Type 0 where
  -- charges are numbered, and a reservation is in an open session
  pub beside : AreBeside r
  -- its periods have the names of its book
  pub terms : (s : SessionName) (g : GroupId) →
      has_terms names (r.grant_books s g) (r.groups s g) ≡ true
  -- the number of a book, and what is held, are beside a reservation
  pub books : (s : SessionName) (g : GroupId) → is_some (r.grant_books s g) ≡ true →
      is_reserved (r.groups s g) ≡ true
  pub holds : (s : SessionName) (g : GroupId) (n : BucketNumber) → is_some (r.holds s g n) ≡ true →
      is_reserved (r.groups s g) ≡ true
  -- a bucket that counts blocks is there
  pub kinds : (n : BucketNumber) → r.allowances n ≡ true → is_some (r.buckets n) ≡ true
  -- covered blocks are beside a charge
  pub covered : (n : ChargeNumber) → is_some (r.covered n) ≡ true → is_some (r.charges n) ≡ true
  -- texts that are kept are those of a command and its answer, under its key
  pub texts : (kind : KeyKind) (name : KeyName) (number : CcRequestNumber) (k : Kept)
      → r.answers kind name number ≡ Some k
      → (is_key kind number ≡ true) × (is_some (kept_in a k) ≡ true)

-- rule: tidy-rows: what a keeper over a database writes leaves no row without a meaning, if there
--   was none before: a change, a voucher, a sweep, a book more
pub record IsTidy (names : Names) (c : TablesContent) : Type 0 where
  -- what is kept once is there, and is there once
  pub there : is_some c.meta ≡ true
  pub once : c.kept ≡ 1
  pub rows : (a : AccountName) → AreTidyRows names a (c.rows a)

-- rows that are written over those that are there end no session with a reservation that isn't
-- among them
abbrev pub EndsTidy : StoredRows → TableRows → Type 0
EndsTidy w r = (s : SessionName) (g : GroupId) → group_in s g w.groups ≡ None
    → is_reserved (r.groups s g) ≡ true → is_open_row (r.sessions s) ≡ true
    → is_open_row (first_of (session_in s w.sessions) (r.sessions s)) ≡ true
