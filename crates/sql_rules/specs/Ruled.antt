-- Content that is in its rules: each row of it, as the statements write it, is in those of its
-- table.
-- Source: profile.
use Rattle.std.specs.Prelude.{◌≡◌, ◌≤◌, ◌&&◌, ℕ, [], ◌∷◌, Bool, true, false, List, Option, Some}
use Rattle.std.specs.Prelude.{None, IsTrue, is_some, nat_le, nat_lt}
use Rattle.units.specs.Words.{GroupId, Moment}
use Rattle.identifiers.specs.Words.{AccountName, SessionName, VoucherCode}
use Rattle.buckets.specs.Words.{BucketAmount, BucketNumber}
use Rattle.ledger.specs.Words.{ChargeNumber}
use Rattle.shelves.specs.Shelves.{Shelf}
use Rattle.sqlite_value.specs.declared.value.Value.TheVariants.{Null}
use Rattle.sqlite_value.specs.Order.{Row as Values}
use Rattle.buckets.specs.Row.{BucketRow}
use Rattle.reserving.specs.Left.{is_open_row}
use Rattle.reserving.specs.Sessions.{is_open}
use Rattle.reserving.specs.declared.session.Session.{Session}
use Rattle.reserving.specs.declared.session.Counter.{Counter}
use Rattle.ledger.specs.declared.charge.ChargeRow.{ChargeRow}
use Rattle.sql_rows.specs.Words.{KeyKind, KeyName, KeyNumber}
use Rattle.sql_rows.specs.declared.head.HeadColumns.{HeadColumns}
use Rattle.sql_rows.specs.declared.voucher_rows.VoucherColumns.{VoucherColumns}
use Rattle.sql_rows.specs.Content.{TablesContent, TableRows}
use Rattle.sql_rows.specs.Values.{BookRow, Group, Kept, Meta, answer_values}
use Rattle.sql_rows.specs.Values.{book_values, counter_cells, covered_cells, grant_book_values}
use Rattle.sql_rows.specs.Values.{group_cells, head_values, hold_values, meta_values, money_cells}
use Rattle.sql_rows.specs.Values.{number_cells, priced_cells, session_cells, voucher_values}
use Rattle.sql_rules.specs.GrantContent.{AreOfBooks}
use Rattle.sql_rules.specs.Rules.{is_ruled_account, is_ruled_allowance, is_ruled_answer}
use Rattle.sql_rules.specs.Rules.{is_ruled_book, is_ruled_book_of, is_ruled_bucket, is_ruled_charge}
use Rattle.sql_rules.specs.Rules.{is_ruled_counter, is_ruled_covered, is_ruled_grant_book}
use Rattle.sql_rules.specs.Rules.{is_ruled_group, is_ruled_hold, is_ruled_meta, is_ruled_session}
use Rattle.sql_rules.specs.Rules.{is_ruled_use, is_ruled_voucher}

-- ---- one row; no rule looks at its rowid

-- behind a rowid and an account that the table's rule doesn't look at
abbrev pub behind_account : Values → Values
behind_account cells = Null ∷ Null ∷ cells

abbrev pub is_meta : Meta → Bool
is_meta m = is_ruled_meta (Null ∷ meta_values m)

abbrev pub is_account : AccountName → HeadColumns → Bool
is_account a h = is_ruled_account (Null ∷ head_values a h)

abbrev pub is_bucket : BucketRow → Bool
is_bucket b = is_ruled_bucket (behind_account (money_cells b))

abbrev pub is_counter : Counter → Bool
is_counter k = is_ruled_counter (behind_account (counter_cells k))

abbrev pub is_session : Session → Bool
is_session x = is_ruled_session (behind_account (session_cells x))

abbrev pub is_group : Shelf → ℕ → Group → Bool
is_group shelf g x = is_ruled_group shelf (behind_account (Null ∷ group_cells g x))

-- without its periods
abbrev pub is_use : ℕ → ℕ → Bool
is_use g used =
    is_ruled_use (behind_account (Null ∷ group_cells g (record { used = used; periods = None })))

-- under any key
abbrev pub is_hold : BucketAmount → Bool
is_hold amount = is_ruled_hold (Null ∷ hold_values [] [] 0 0 amount)

abbrev pub is_grant_book : Shelf → ℕ → Bool
is_grant_book shelf n = is_ruled_grant_book shelf (Null ∷ grant_book_values [] [] 0 n)

-- of so many books
abbrev pub is_book_of : ℕ → ℕ → Bool
is_book_of books n = is_ruled_book_of books (Null ∷ grant_book_values [] [] 0 n)

abbrev pub is_answer : AccountName → KeyKind → KeyName → KeyNumber → Kept → Bool
is_answer a kind name number k = is_ruled_answer (Null ∷ answer_values a kind name number k)

abbrev pub is_voucher : VoucherCode → VoucherColumns → Bool
is_voucher code x = is_ruled_voucher (Null ∷ voucher_values code x)

abbrev pub is_charge : ChargeRow → Bool
is_charge x = is_ruled_charge (behind_account (priced_cells x))

abbrev pub is_book : ℕ → BookRow → Bool
is_book n x = is_ruled_book (Null ∷ book_values n x)

abbrev pub is_allowance : BucketNumber → Bool
is_allowance n = is_ruled_allowance (behind_account (number_cells n))

abbrev pub is_covered : ChargeNumber → ℕ → Bool
is_covered n blocks =
    is_ruled_covered (behind_account (covered_cells (record { number = n; blocks = blocks })))

-- ---- all of them

-- the moment of the last accepted command; the first where nothing was written yet
abbrev pub last_in : Option Meta → Moment
last_in None = 0
last_in (Some m) = m.last

-- no account, session or charge is of a moment after this one
-- rule: rows-ruled.timely
pub record AreTimely (last : Moment) (r : TableRows) : Type 0 where
  pub head : (h : HeadColumns) → r.head ≡ Some h → h.as_of ≤ last
  pub sessions : (s : List ℕ) (x : Session) → r.sessions s ≡ Some x → x.touched ≤ last
  pub charges : (n : ℕ) (x : ChargeRow) → r.charges n ≡ Some x → x.moment ≤ last

-- what is stored of an account
-- rule: rows-ruled.in-rules
pub record AreInRules (shelf : Shelf) (last : Moment) (a : List ℕ) (r : TableRows) : Type 0 where
  pub timely : AreTimely last r
  pub head : (h : HeadColumns) → r.head ≡ Some h → IsTrue (is_account a h)
  pub buckets : (n : ℕ) (b : BucketRow) → r.buckets n ≡ Some b → IsTrue (is_bucket b)
  pub counters : (g k : ℕ) (x : Counter) → r.counters g k ≡ Some x → IsTrue (is_counter x)
  pub sessions : (s : List ℕ) (x : Session) → r.sessions s ≡ Some x → IsTrue (is_session x)
  pub groups : (s : List ℕ) (g : ℕ) (x : Group) → r.groups s g ≡ Some x
      → IsTrue (is_group shelf g x)
  pub holds : (s : List ℕ) (g n amount : ℕ) → r.holds s g n ≡ Some amount
      → IsTrue (is_hold amount)
  pub answers : (kind : ℕ) (name : List ℕ) (number : ℕ) (k : Kept)
      → r.answers kind name number ≡ Some k → IsTrue (is_answer a kind name number k)
  pub charges : (n : ℕ) (x : ChargeRow) → r.charges n ≡ Some x → IsTrue (is_charge x)
  pub grant_books : (s : List ℕ) (g n : ℕ) → r.grant_books s g ≡ Some n
      → IsTrue (is_grant_book shelf n)
  pub allowances : (n : ℕ) → r.allowances n ≡ true → IsTrue (is_allowance n)
  pub covered : (n blocks : ℕ) → r.covered n ≡ Some blocks → IsTrue (is_covered n blocks)

-- the content, by these books and this last moment
pub record IsInRulesBy (shelf : Shelf) (last : Moment) (c : TablesContent) : Type 0 where
  pub once : c.kept ≤ 1
  pub meta : (m : Meta) → c.meta ≡ Some m → IsTrue (is_meta m)
  pub rows : (a : List ℕ) → AreInRules shelf last a (c.rows a)
  pub vouchers : (code : List ℕ) (x : VoucherColumns) → c.vouchers code ≡ Some x
      → IsTrue (is_voucher code x)
  pub books : (n : ℕ) (x : BookRow) → c.books n ≡ Some x → IsTrue (is_book n x)

-- ---- one row beside another

-- charges are numbered from 1 to below the account's next number
abbrev pub is_numbered : ChargeNumber → Option HeadColumns → Bool
is_numbered n None = false
is_numbered n (Some h) = nat_lt 0 n && nat_lt n h.next_charge

-- buckets are numbered below the account's next number
abbrev pub is_bucket_numbered : BucketNumber → Option HeadColumns → Bool
is_bucket_numbered n None = false
is_bucket_numbered n (Some h) = nat_lt n h.next_bucket

-- a moment that isn't after the account's
abbrev pub is_reached : Moment → Option HeadColumns → Bool
is_reached t None = false
is_reached t (Some h) = nat_le t h.as_of

-- a group has a reservation
abbrev pub is_reserved : Option Group → Bool
is_reserved None = false
is_reserved (Some x) = is_some x.periods

-- what is stored of an account: its charges and its buckets are numbered, no open session
-- was touched after the account's moment, and a reservation is in an open session
-- rule: rows-ruled.beside
pub record AreBeside (r : TableRows) : Type 0 where
  pub numbers : (n : ChargeNumber) → is_some (r.charges n) ≡ true → is_numbered n r.head ≡ true
  pub buckets : (n : BucketNumber) → is_some (r.buckets n) ≡ true
      → is_bucket_numbered n r.head ≡ true
  pub touched : (s : SessionName) (x : Session) → r.sessions s ≡ Some x → is_open x.state ≡ true
      → is_reached x.touched r.head ≡ true
  pub live : (s : SessionName) (g : GroupId) → is_reserved (r.groups s g) ≡ true
      → is_open_row (r.sessions s) ≡ true

-- rule: rows-ruled.in-rules: if rows are in their rules, so is the content of the tables; and rows
--   whose content is in its rules are in theirs, if they are as the statements write them
-- rule: rows-ruled.timely, rows-ruled.beside, rows-ruled.granted
pub record IsInRules (shelf : Shelf) (c : TablesContent) : Type 0 where
  pub each : IsInRulesBy shelf (last_in c.meta) c
  pub beside : (a : AccountName) → AreBeside (c.rows a)
  pub granted : (a : AccountName) → AreOfBooks shelf (c.rows a)
