-- The values of a row, and the row that values are.
-- Source: profile.
use Rattle.std.specs.Prelude.{◌≡◌, ℕ, zero, suc, pos, negsuc, Bool, List, [], ◌∷◌, Option, Some}
use Rattle.std.specs.Prelude.{None, is_some, if◌then◌else◌, ◌==◌}
use Rattle.units.specs.Words.{Moment, UnitCount, BlockCount, GroupId, CycleNumber, BookNumber}
use Rattle.units.specs.Words.{CcRequestNumber}
use Rattle.identifiers.specs.Words.{SessionName, AccountName, VoucherCode}
use Rattle.buckets.specs.Words.{BucketNumber, BucketAmount}
use Rattle.ledger.specs.Words.{ChargeNumber}
use Rattle.sql_tables.specs.Words.{TablesVersion}
use Rattle.sql_rows.specs.Words.{KeyKind, KeyName}
use Rattle.sqlite_value.specs.declared.value.Value.{Value}
use Rattle.sqlite_value.specs.declared.value.Value.TheVariants.{Null, Int, Real, Text, Blob}
use Rattle.sqlite_value.specs.Order.{Row as Values, column}
use Rattle.sqlite.specs.Values.{or_null}
use Rattle.buckets.specs.declared.kind.BucketKind.{BucketKind}
use Rattle.buckets.specs.declared.kind.BucketKind.TheVariants.{Money, Blocks}
use Rattle.buckets.specs.Row.{BucketRow}
use Rattle.reserving.specs.declared.session.Session.{Session}
use Rattle.reserving.specs.declared.session.SessionState.{SessionState}
use Rattle.reserving.specs.declared.session.SessionState.TheVariants.{Open, Ended, NeverOpened}
use Rattle.reserving.specs.declared.session.Counter.{Counter}
use Rattle.ledger.specs.declared.charge.ChargeRow.{ChargeRow}
use Rattle.sql_rows.specs.declared.covered_rows.CoveredColumns.{CoveredColumns}
use Rattle.sql_rows.specs.declared.head.HeadColumns.{HeadColumns}
use Rattle.sql_rows.specs.declared.voucher_rows.VoucherColumns.{VoucherColumns}

-- ---- one value; what isn't of its kind reads as nothing

abbrev pub nat : ℕ → Value
nat n = Int (pos n)

abbrev pub nat_in : Value → ℕ
nat_in Null = 0
nat_in (Int (pos n)) = n
nat_in (Int (negsuc n)) = 0
nat_in (Real x) = 0
nat_in (Text t) = 0
nat_in (Blob b) = 0

abbrev pub text_in : Value → List ℕ
text_in Null = []
text_in (Int n) = []
text_in (Real x) = []
text_in (Text t) = t
text_in (Blob b) = []

abbrev pub optional_in : Value → Option ℕ
optional_in Null = None
optional_in (Int n) = Some (nat_in (Int n))
optional_in (Real x) = None
optional_in (Text t) = None
optional_in (Blob b) = None

abbrev pub optional_text_in : Value → Option (List ℕ)
optional_text_in Null = None
optional_text_in (Int n) = None
optional_text_in (Real x) = None
optional_text_in (Text t) = Some t
optional_text_in (Blob b) = None

abbrev pub flag_number : Bool → ℕ
flag_number b = if b then 1 else 0

abbrev pub flag_in : Value → Bool
flag_in v = nat_in v == 1

abbrev pub state_number : SessionState → ℕ
state_number Open = 1
state_number Ended = 2
state_number NeverOpened = 3

abbrev pub state_in : Value → SessionState
state_in v = if nat_in v == 1 then Open else if nat_in v == 2 then Ended else NeverOpened

-- the values are in the row's columns from this place on
abbrev pub AreColumnsFrom : ℕ → Values → Values → Type 0
AreColumnsFrom place row [] = Unit {0}
AreColumnsFrom place row (v ∷ vs) = (column row place ≡ v) × AreColumnsFrom (suc place) row vs

-- ---- `meta`

-- what is kept once
pub record Meta : Type 0 where
  pub version : TablesVersion
  -- the text of the tariff book
  pub book : List ℕ
  -- the moment of the last accepted command
  pub last : Moment

abbrev pub meta_key : Values
meta_key = nat 1 ∷ []

-- the columns after the key
abbrev pub meta_cells : Meta → Values
meta_cells m = nat m.version ∷ Text m.book ∷ nat m.last ∷ []

abbrev pub meta_values : Meta → Values
meta_values m = nat 1 ∷ meta_cells m

abbrev pub meta_in : Values → Meta
meta_in v = record {
  version = nat_in (column v 1);
  book = text_in (column v 2);
  last = nat_in (column v 3);
}

-- ---- `accounts`

abbrev pub head_key : AccountName → Values
head_key a = Text a ∷ []

-- the columns after the key
abbrev pub head_cells : HeadColumns → Values
head_cells h = nat (flag_number h.barred) ∷ nat h.as_of ∷ nat h.next_bucket ∷ nat h.next_charge ∷ []

abbrev pub head_values : AccountName → HeadColumns → Values
head_values a h = Text a ∷ head_cells h

abbrev pub head_in : Values → HeadColumns
head_in v = record {
  barred = flag_in (column v 1);
  as_of = nat_in (column v 2);
  next_bucket = nat_in (column v 3);
  next_charge = nat_in (column v 4);
}

-- ---- `buckets`

abbrev pub bucket_key : AccountName → BucketNumber → Values
bucket_key a n = Text a ∷ nat n ∷ []

-- the columns after the account's; whether they count money or blocks is in
-- `allowance_buckets`
abbrev pub money_cells : BucketRow → Values
money_cells b =
    nat b.number ∷ nat b.from ∷ nat b.until ∷ or_null nat b.scope ∷ nat b.credited
    ∷ nat b.available ∷ nat b.reserved ∷ nat b.charged ∷ nat b.expired ∷ []

-- the columns of a bucket as it is read: one of blocks has none
abbrev pub cells_of : BucketKind → Values → Values
cells_of Money cells = cells
cells_of Blocks cells = []

abbrev pub bucket_cells : BucketRow → Values
bucket_cells b = cells_of b.kind (money_cells b)

-- as the columns say it: not whether it counts money or blocks
abbrev pub plain_bucket : BucketRow → BucketRow
plain_bucket b = record b { kind = Money }

abbrev pub bucket_values : AccountName → BucketRow → Values
bucket_values a b = Text a ∷ money_cells b

-- rule: statements-of-tables.tables-content
abbrev pub bucket_in_row : Values → BucketRow
bucket_in_row v = record {
  number = nat_in (column v 1);
  kind = Money;
  from = nat_in (column v 2);
  until = nat_in (column v 3);
  scope = optional_in (column v 4);
  credited = nat_in (column v 5);
  available = nat_in (column v 6);
  reserved = nat_in (column v 7);
  charged = nat_in (column v 8);
  expired = nat_in (column v 9);
}

-- ---- `counters`

abbrev pub counter_key : AccountName → GroupId → CycleNumber → Values
counter_key a g c = Text a ∷ nat g ∷ nat c ∷ []

abbrev pub counter_cells : Counter → Values
counter_cells r = nat r.group ∷ nat r.cycle ∷ nat r.blocks ∷ []

abbrev pub counter_values : AccountName → Counter → Values
counter_values a r = Text a ∷ counter_cells r

abbrev pub counter_in_row : Values → Counter
counter_in_row v = record {
  group = nat_in (column v 1);
  cycle = nat_in (column v 2);
  blocks = nat_in (column v 3);
}

-- ---- `sessions`

abbrev pub session_key : AccountName → SessionName → Values
session_key a s = Text a ∷ Text s ∷ []

abbrev pub session_cells : Session → Values
session_cells r = Text r.id ∷ nat r.last_number ∷ nat r.touched ∷ nat (state_number r.state) ∷ []

abbrev pub session_values : AccountName → Session → Values
session_values a r = Text a ∷ session_cells r

abbrev pub session_in_row : Values → Session
session_in_row v = record {
  id = text_in (column v 1);
  last_number = nat_in (column v 2);
  touched = nat_in (column v 3);
  state = state_in (column v 4);
}

-- ---- `session_groups`

-- the names of a reservation's tariff periods
-- rule: statements-of-tables.with-session-row
pub record PeriodNames : Type 0 where
  pub before : List ℕ
  pub after : List ℕ

-- what a session has of a rating group; what its reservation holds is in `holds`
pub record Group : Type 0 where
  pub used : UnitCount
  pub periods : Option PeriodNames

abbrev pub group_key : AccountName → SessionName → GroupId → Values
group_key a s g = Text a ∷ Text s ∷ nat g ∷ []

-- the columns after the session's
abbrev pub group_cells : GroupId → Group → Values
group_cells g r =
    nat g ∷ nat r.used ∷ nat (flag_number (is_some r.periods))
    ∷ or_null (λ p. Text p.before) r.periods ∷ or_null (λ p. Text p.after) r.periods ∷ []

abbrev pub group_values : AccountName → SessionName → GroupId → Group → Values
group_values a s g r = Text a ∷ Text s ∷ group_cells g r

abbrev pub group_in_row : Values → Group
group_in_row v = record {
  used = nat_in (column v 3);
  periods = if flag_in (column v 4)
      then Some (record { before = text_in (column v 5); after = text_in (column v 6) })
      else None;
}

-- ---- `holds`

abbrev pub hold_key : AccountName → SessionName → GroupId → BucketNumber → Values
hold_key a s g n = Text a ∷ Text s ∷ nat g ∷ nat n ∷ []

abbrev pub hold_values : AccountName → SessionName → GroupId → BucketNumber → BucketAmount → Values
hold_values a s g n amount = Text a ∷ Text s ∷ nat g ∷ nat n ∷ nat amount ∷ []

abbrev pub hold_in : Values → BucketAmount
hold_in v = nat_in (column v 4)

-- ---- `answers`

-- the texts of a command and of its first answer
pub record Kept : Type 0 where
  pub content : List ℕ
  pub answer : List ℕ

-- the two kinds of names
abbrev pub request_kind : KeyKind
request_kind = 1

abbrev pub reference_kind : KeyKind
reference_kind = 2

abbrev pub answer_key : AccountName → KeyKind → KeyName → CcRequestNumber → Values
answer_key a kind name number = Text a ∷ nat kind ∷ Text name ∷ nat number ∷ []

-- the columns after the key
abbrev pub answer_cells : Kept → Values
answer_cells k = Text k.content ∷ Text k.answer ∷ []

abbrev pub answer_values : AccountName → KeyKind → KeyName → CcRequestNumber → Kept → Values
answer_values a kind name number k = Text a ∷ nat kind ∷ Text name ∷ nat number ∷ answer_cells k

-- rule: answer-rows
abbrev pub answer_in_row : Values → Kept
answer_in_row v = record { content = text_in (column v 4); answer = text_in (column v 5) }

-- ---- `vouchers`

abbrev pub voucher_key : VoucherCode → Values
voucher_key code = Text code ∷ []

-- the columns after the key
abbrev pub voucher_cells : VoucherColumns → Values
voucher_cells r =
    nat r.amount ∷ or_null nat r.days ∷ or_null nat r.scope ∷ or_null Text r.account ∷ []

abbrev pub voucher_values : VoucherCode → VoucherColumns → Values
voucher_values code r = Text code ∷ voucher_cells r

abbrev pub voucher_in_row : Values → VoucherColumns
voucher_in_row v = record {
  amount = nat_in (column v 1);
  days = optional_in (column v 2);
  scope = optional_in (column v 3);
  account = optional_text_in (column v 4);
}

-- ---- `charges`

abbrev pub charge_key : AccountName → ChargeNumber → Values
charge_key a n = Text a ∷ nat n ∷ []

-- the columns after the account's; its covered blocks are in `covered`
abbrev pub priced_cells : ChargeRow → Values
priced_cells r =
    nat r.number ∷ nat r.moment ∷ Text r.session ∷ nat r.group ∷ nat r.blocks.0
    ∷ nat r.rated.0 ∷ nat r.collected.0 ∷ nat r.uncollected.0 ∷ []

-- the columns of a charge as it is read: one with covered blocks has none
abbrev pub cells_beside : ℕ → Values → Values
cells_beside zero cells = cells
cells_beside (suc n) cells = []

abbrev pub charge_cells : ChargeRow → Values
charge_cells r = cells_beside r.covered.0 (priced_cells r)

-- as the columns say it: not which of its blocks are covered
abbrev pub plain_charge : ChargeRow → ChargeRow
plain_charge x = record x { covered = record { 0 = 0 } }

abbrev pub charge_values : AccountName → ChargeRow → Values
charge_values a r = Text a ∷ priced_cells r

-- rule: statements-of-tables.tables-content
abbrev pub charge_in_row : Values → ChargeRow
charge_in_row v = record {
  number = nat_in (column v 1);
  moment = nat_in (column v 2);
  session = text_in (column v 3);
  group = nat_in (column v 4);
  blocks = record { 0 = nat_in (column v 5) };
  covered = record { 0 = 0 };
  rated = record { 0 = nat_in (column v 6) };
  collected = record { 0 = nat_in (column v 7) };
  uncollected = record { 0 = nat_in (column v 8) };
}

-- ---- `books`

-- a tariff book after the first, from its moment on
pub record BookRow : Type 0 where
  pub starts : Moment
  pub content : List ℕ

abbrev pub book_key : BookNumber → Values
book_key n = nat n ∷ []

-- the columns after the key
abbrev pub book_cells : BookRow → Values
book_cells x = nat x.starts ∷ Text x.content ∷ []

abbrev pub book_values : BookNumber → BookRow → Values
book_values n x = nat n ∷ book_cells x

abbrev pub book_in_row : Values → BookRow
book_in_row v = record { starts = nat_in (column v 1); content = text_in (column v 2) }

-- ---- `grant_books`, under the keys of `session_groups`

abbrev pub grant_book_values : AccountName → SessionName → GroupId → BookNumber → Values
grant_book_values a s g n = Text a ∷ Text s ∷ nat g ∷ nat n ∷ []

abbrev pub grant_book_in : Values → BookNumber
grant_book_in v = nat_in (column v 3)

-- ---- `allowance_buckets`, under the keys of `buckets`

abbrev pub number_cells : ℕ → Values
number_cells n = nat n ∷ []

abbrev pub allowance_in : Values → BucketNumber
allowance_in v = nat_in (column v 1)

-- ---- `covered`, under the keys of `charges`

abbrev pub covered_cells : CoveredColumns → Values
covered_cells x = nat x.number ∷ nat x.blocks ∷ []

abbrev pub covered_values : AccountName → CoveredColumns → Values
covered_values a x = Text a ∷ covered_cells x

abbrev pub covered_in_row : Values → BlockCount
covered_in_row v = nat_in (column v 2)
