-- What the tables hold, each row under its key.
-- Source: profile.
use Rattle.std.specs.Prelude.{ℕ, ◌&&◌, Bool, true, false, Option, Some, None, option_map}
use Rattle.std.specs.Prelude.{is_some, length}
use Rattle.std.specs.Prelude.{◌+◌, if◌then◌else◌, nat_eq}
use Rattle.units.specs.Words.{Moment, BlockCount, GroupId, CycleNumber, BookNumber, CcRequestNumber}
use Rattle.identifiers.specs.Words.{SessionName, AccountName, VoucherCode}
use Rattle.buckets.specs.Words.{BucketNumber, BucketAmount}
use Rattle.ledger.specs.Words.{ChargeNumber}
use Rattle.sql_rows.specs.Words.{KeyKind, KeyName}
use Rattle.sqlite_trees.specs.Tree.{Trees}
use Rattle.buckets.specs.Row.{BucketRow}
use Rattle.reserving.specs.declared.session.Session.{Session}
use Rattle.reserving.specs.declared.session.Counter.{Counter}
use Rattle.ledger.specs.declared.charge.ChargeRow.{ChargeRow}
use Rattle.sql_tables.specs.Keyed.{look, same_name}
use Rattle.sql_tables.specs.Schema.{meta, accounts, buckets, counters, sessions, session_groups}
use Rattle.sql_tables.specs.Schema.{holds, answers, vouchers, charges, books, grant_books}
use Rattle.sql_tables.specs.Schema.{allowance_buckets, covered}
use Rattle.sql_rows.specs.declared.covered_rows.CoveredColumns.{CoveredColumns}
use Rattle.sql_rows.specs.declared.head.HeadColumns.{HeadColumns}
use Rattle.sql_rows.specs.declared.voucher_rows.VoucherColumns.{VoucherColumns}
use Rattle.sql_rows.specs.Values.{Meta, Group, Kept, meta_key, head_key, bucket_key}
use Rattle.sql_rows.specs.Values.{counter_key, session_key, group_key, hold_key, answer_key}
use Rattle.sql_rows.specs.Values.{voucher_key, charge_key, meta_in, head_in, bucket_in_row}
use Rattle.sql_rows.specs.Values.{counter_in_row}
use Rattle.sql_rows.specs.Values.{session_in_row, group_in_row, hold_in, answer_in_row}
use Rattle.sql_rows.specs.Values.{voucher_in_row, charge_in_row}
use Rattle.sql_rows.specs.Values.{BookRow, book_key, book_in_row, grant_book_in, allowance_in}
use Rattle.sql_rows.specs.Values.{covered_in_row}

-- what is stored of an account; texts are known by their bytes
pub record TableRows : Type 0 where
  pub head : Option HeadColumns
  -- by number, as their columns say them: as buckets of money
  pub buckets : BucketNumber → Option BucketRow
  -- by rating group and cycle
  pub counters : GroupId → CycleNumber → Option Counter
  -- by name
  pub sessions : SessionName → Option Session
  -- by session and rating group
  pub groups : SessionName → GroupId → Option Group
  -- by session, rating group and bucket: micro-units
  pub holds : SessionName → GroupId → BucketNumber → Option BucketAmount
  -- by kind, name and number
  pub answers : KeyKind → KeyName → CcRequestNumber → Option Kept
  -- by number, as their columns say them: without covered blocks
  pub charges : ChargeNumber → Option ChargeRow
  -- the number of the book that a reservation goes by, by session and rating group
  pub grant_books : SessionName → GroupId → Option BookNumber
  -- whether a bucket counts blocks, by its number
  pub allowances : BucketNumber → Bool
  -- the blocks of a charge that allowances paid, by its number
  pub covered : ChargeNumber → Option BlockCount

-- rule: statements-of-tables.tables-content: the rows of accounts, buckets, counters and charges
pub record TablesContent : Type 0 where
  pub meta : Option Meta
  -- how many rows there are of what is kept once
  pub kept : ℕ
  -- by account
  pub rows : AccountName → TableRows
  -- by code
  pub vouchers : VoucherCode → Option VoucherColumns
  -- the books after the first, by number
  pub books : BookNumber → Option BookRow
  -- how many accounts there are
  pub count : ℕ

-- ---- one row changes

-- an account's rows change, and no other's
abbrev pub with_rows : AccountName → (TableRows → TableRows) → TablesContent → TablesContent
with_rows a change c =
    record c { rows = λ x. if same_name a x then change (c.rows x) else c.rows x }

abbrev pub with_meta : Meta → TablesContent → TablesContent
with_meta m c = record c {
  meta = Some m;
  kept = if is_some c.meta then c.kept else c.kept + 1;
}

-- the moment of the last accepted command changes, where anything is kept once
-- rule: statements-of-tables.tables-content
abbrev pub with_last_moment : Moment → TablesContent → TablesContent
with_last_moment t c = record c { meta = option_map (λ (m : Meta). record m { last = t }) c.meta }

abbrev pub with_head : HeadColumns → TableRows → TableRows
with_head h r = record r { head = Some h }

-- an account is opened, or its head changes
abbrev pub with_account : AccountName → HeadColumns → TablesContent → TablesContent
with_account a h c = record c {
  rows = λ x. if same_name a x then with_head h (c.rows x) else c.rows x;
  count = if is_some (c.rows a).head then c.count else c.count + 1;
}

-- whether an account is opened
-- rule: statements-of-tables.tables-content
abbrev pub has_account : AccountName → TablesContent → Bool
has_account a c = is_some (c.rows a).head

-- rule: statements-of-tables.tables-content
abbrev pub with_bucket : BucketRow → TableRows → TableRows
with_bucket b r = record r { buckets = λ n. if nat_eq b.number n then Some b else r.buckets n }

-- whether an account has a bucket of a number
-- rule: statements-of-tables.tables-content
abbrev pub has_bucket : AccountName → BucketNumber → TablesContent → Bool
has_bucket a n c = is_some ((c.rows a).buckets n)

-- rule: statements-of-tables.tables-content
abbrev pub with_counter_row : Counter → TableRows → TableRows
with_counter_row k r = record r {
  counters = λ g c. if nat_eq k.group g && nat_eq k.cycle c then Some k else r.counters g c;
}

-- whether an account has a counter of a rating group in a cycle
-- rule: statements-of-tables.tables-content
abbrev pub has_counter : AccountName → GroupId → CycleNumber → TablesContent → Bool
has_counter a g y c = is_some ((c.rows a).counters g y)

-- rule: statements-of-tables.with-session-row: the rows of sessions, groups and holds
abbrev pub with_session_row : Session → TableRows → TableRows
with_session_row x r = record r {
  sessions = λ s. if same_name x.id s then Some x else r.sessions s;
}

-- whether an account has a session of a name, or a recorded event
-- rule: statements-of-tables.with-session-row
abbrev pub has_session : AccountName → SessionName → TablesContent → Bool
has_session a s c = is_some ((c.rows a).sessions s)

-- rule: statements-of-tables.with-session-row
abbrev pub with_group_row : SessionName → GroupId → Group → TableRows → TableRows
with_group_row s g x r = record r {
  groups = λ t h. if same_name s t && nat_eq g h then Some x else r.groups t h;
}

-- whether a session has anything of a rating group
-- rule: statements-of-tables.with-session-row
abbrev pub has_group : AccountName → SessionName → GroupId → TablesContent → Bool
has_group a s g c = is_some ((c.rows a).groups s g)

-- rule: statements-of-tables.with-session-row
abbrev pub with_hold_row : SessionName → GroupId → BucketNumber → BucketAmount → TableRows →
    TableRows
with_hold_row s g n amount r = record r {
  holds = λ t h m. if same_name s t && (nat_eq g h && nat_eq n m) then Some amount
      else r.holds t h m;
}

-- a group's holds are gone
abbrev pub without_holds : SessionName → GroupId → TableRows → TableRows
without_holds s g r = record r {
  holds = λ t h m. if same_name s t && nat_eq g h then None else r.holds t h m;
}

-- rule: answer-rows: the rows of kept answers, and of vouchers
abbrev pub with_answer : KeyKind → KeyName → CcRequestNumber → Kept → TableRows → TableRows
with_answer kind name number k r = record r {
  answers = λ l t m.
      if nat_eq kind l && (same_name name t && nat_eq number m) then Some k else r.answers l t m;
}

-- rule: statements-of-tables.tables-content
abbrev pub with_charge_row : ChargeRow → TableRows → TableRows
with_charge_row x r = record r { charges = λ n. if nat_eq x.number n then Some x else r.charges n }

-- whether an account has a charge of a number
abbrev pub has_charge : AccountName → ChargeNumber → TablesContent → Bool
has_charge a n c = is_some ((c.rows a).charges n)

-- the book of a reservation
-- rule: book-rows
abbrev pub with_grant_book : SessionName → GroupId → BookNumber → TableRows → TableRows
with_grant_book s g n r = record r {
  grant_books = λ t h. if same_name s t && nat_eq g h then Some n else r.grant_books t h;
}

-- rule: book-rows
abbrev pub without_grant_book : SessionName → GroupId → TableRows → TableRows
without_grant_book s g r = record r {
  grant_books = λ t h. if same_name s t && nat_eq g h then None else r.grant_books t h;
}

-- the bucket counts blocks
-- rule: block-rows: the rows of allowances, and of what they covered
abbrev pub with_allowance : BucketNumber → TableRows → TableRows
with_allowance n r =
    record r { allowances = λ m. if nat_eq n m then true else r.allowances m }

-- the bucket counts money
-- rule: block-rows
abbrev pub without_allowance : BucketNumber → TableRows → TableRows
without_allowance n r =
    record r { allowances = λ m. if nat_eq n m then false else r.allowances m }

-- rule: block-rows
abbrev pub with_covered : CoveredColumns → TableRows → TableRows
with_covered x r =
    record r { covered = λ n. if nat_eq x.number n then Some x.blocks else r.covered n }

-- no block of the charge is covered
-- rule: block-rows
abbrev pub without_covered : ChargeNumber → TableRows → TableRows
without_covered n r = record r { covered = λ m. if nat_eq n m then None else r.covered m }

-- rule: book-rows: the rows of books, and of the book of each reservation
abbrev pub with_book_row : BookNumber → BookRow → TablesContent → TablesContent
with_book_row n x c = record c { books = λ m. if nat_eq n m then Some x else c.books m }

-- rule: answer-rows
abbrev pub with_voucher_row : VoucherCode → VoucherColumns → TablesContent → TablesContent
with_voucher_row code x c =
    record c { vouchers = λ k. if same_name code k then Some x else c.vouchers k }

-- ---- the tables

abbrev pub rows_in : Trees → AccountName → TableRows
rows_in trees a = record {
  head = option_map head_in (look accounts trees (head_key a));
  buckets = λ n. option_map bucket_in_row (look buckets trees (bucket_key a n));
  counters = λ g c. option_map counter_in_row (look counters trees (counter_key a g c));
  sessions = λ s. option_map session_in_row (look sessions trees (session_key a s));
  groups = λ s g. option_map group_in_row (look session_groups trees (group_key a s g));
  holds = λ s g n. option_map hold_in (look holds trees (hold_key a s g n));
  answers = λ kind name number.
      option_map answer_in_row (look answers trees (answer_key a kind name number));
  charges = λ n. option_map charge_in_row (look charges trees (charge_key a n));
  grant_books = λ s g. option_map grant_book_in (look grant_books trees (group_key a s g));
  allowances = λ n.
      is_some (option_map allowance_in (look allowance_buckets trees (bucket_key a n)));
  covered = λ n. option_map covered_in_row (look covered trees (charge_key a n));
}

abbrev pub tables_content : Trees → TablesContent
tables_content trees = record {
  meta = option_map meta_in (look meta trees meta_key);
  kept = length (trees meta.tree);
  rows = rows_in trees;
  vouchers = λ code. option_map voucher_in_row (look vouchers trees (voucher_key code));
  books = λ n. option_map book_in_row (look books trees (book_key n));
  count = length (trees accounts.tree);
}
