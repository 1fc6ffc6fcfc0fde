-- Rows as they are read, as those of the content.
-- Source: profile.
use Rattle.std.specs.Prelude.{◌≡◌, Bool, true, List, [], ◌∷◌, ◌++◌, map, Option, is_some}
use Rattle.std.specs.Prelude.{option_map, Result, Vec}
use Rattle.std.specs.Global.{Global}
use Rattle.std.specs.String.{string_bytes}
use Rattle.identifiers.specs.Words.{AccountName}
use Rattle.sqlite_value.specs.Order.{Row as Values, column}
use Rattle.sqlite_value.specs.declared.value.Value.TheVariants.{Text}
use Rattle.sqlite.specs.State.{State}
use Rattle.sqlite.specs.Values.{or_null}
use Rattle.buckets.specs.Row.{BucketRow}
use Rattle.buckets.specs.declared.bucket.columns.Columns.{Columns as BucketColumns}
pub use Rattle.buckets.specs.Columns.{row_of_columns as bucket_row}
use Rattle.sql_rows.specs.declared.answer_rows.KeptTexts.{KeptTexts}
use Rattle.sql_rows.specs.declared.book_rows.BookColumns.{BookColumns}
use Rattle.sql_rows.specs.declared.group_rows.GroupColumns.{GroupColumns}
use Rattle.sql_rows.specs.declared.group_rows.PeriodTexts.{PeriodTexts}
use Rattle.sql_rows.specs.declared.group_rows.PutNames.{PutNames}
use Rattle.sql_rows.specs.declared.live_bucket_rows.LiveBucket.{LiveBucket}
use Rattle.sql_rows.specs.declared.meta_rows.MetaColumns.{MetaColumns}
use Rattle.sql_rows.specs.declared.open_group_rows.OpenGroup.{OpenGroup}
use Rattle.sql_rows.specs.declared.open_rows.OpenRows.{OpenRows}
use Rattle.sql_rows.specs.declared.reserved_rows.ReservedColumns.{ReservedColumns}
use Rattle.sql_rows.specs.declared.session_book_rows.SessionBook.{SessionBook}
use Rattle.sql_rows.specs.declared.session_hold_rows.SessionHold.{SessionHold}
use Rattle.sql_tables.specs.Statements.{Reads}
use Rattle.sql_rows.specs.Content.{TableRows, rows_in}
use Rattle.sql_rows.specs.Lists.{AreAllGrantBooks, AreAllHolds, AreBuckets, AreOpenGroups, Ascends}
use Rattle.sql_rows.specs.Lists.{BookAt, GroupAt, OpenGroupAt, ReservedAt, SessionBookAt}
use Rattle.sql_rows.specs.Lists.{SessionHoldAt, is_live_bucket, open_group_before, open_group_cells}
use Rattle.sql_rows.specs.Lists.{session_book_before, session_book_cells, session_hold_before}
use Rattle.sql_rows.specs.Lists.{session_hold_cells}
use Rattle.sql_rows.specs.Values.{Kept, Meta, PeriodNames, bucket_cells, flag_number, nat}

abbrev pub kept_of : KeptTexts → Kept
kept_of k = record { content = string_bytes k.content; answer = string_bytes k.answer }

abbrev pub meta_of : MetaColumns → Meta
meta_of m = record { version = m.version; book = string_bytes m.book; last = m.last }

-- a selection gives the buckets of the account that pass the test
abbrev pub ReadsBuckets : {E : Type 0} → (BucketRow → Bool) → AccountName → State → State →
    Result (Vec BucketColumns Global) E → Type 0
ReadsBuckets test account =
    Reads (λ trees bs. AreBuckets test (rows_in trees account) (map bucket_row bs.items))

abbrev pub columns_of : List LiveBucket → List BucketColumns
columns_of xs = map (λ x. x.columns) xs

-- those of which something is available or reserved, and what each counts
-- rule: statements-of-tables.reads-within
pub record AreLive (rows : TableRows) (xs : List LiveBucket) : Type 0 where
  pub buckets : AreBuckets is_live_bucket rows (map bucket_row (columns_of xs))
  pub kinds : map (λ x. x.counts_blocks) xs ≡ map (λ x. rows.allowances x.number) (columns_of xs)

-- as a selection gives it
abbrev pub live_cells : LiveBucket → Values
live_cells x = bucket_cells (bucket_row x.columns) ++ nat (flag_number x.counts_blocks) ∷ []

abbrev pub names_of : PeriodTexts → PeriodNames
names_of p = record { before = string_bytes p.before; after = string_bytes p.after }

-- the names as they are put
abbrev pub names_put : PutNames → PeriodNames
names_put p = record { before = p.before.now; after = p.after.now }

abbrev pub group_at : GroupColumns → GroupAt
group_at g = record {
  group = g.group;
  row = record { used = g.used; periods = option_map names_of g.periods };
}

abbrev pub open_group_at : OpenGroup → OpenGroupAt
open_group_at x = record {
  session = x.session;
  group = x.columns.group;
  row = (group_at x.columns).row;
}

abbrev pub session_hold_at : SessionHold → SessionHoldAt
session_hold_at x = record {
  session = x.session;
  group = x.columns.group;
  bucket = x.columns.bucket;
  amount = x.columns.amount;
}

abbrev pub session_book_at : SessionBook → SessionBookAt
session_book_at x = record {
  session = x.session;
  group = x.columns.group;
  book = x.columns.book;
}

-- all that open sessions have of rating groups, with all that is held for sessions of the account,
-- and the books of all their reservations
-- rule: statements-of-tables.open-rows: the groups of all open sessions, what is held for all
--   sessions and the books of their reservations, by one selection of three parts
pub record AreOpenRows (rows : TableRows) (x : OpenRows) : Type 0 where
  pub groups : AreOpenGroups rows (map open_group_at x.groups.items)
  pub holds : AreAllHolds rows (map session_hold_at x.holds.items)
  pub books : AreAllGrantBooks rows (map session_book_at x.books.items)

-- each of the three lists is in the order of its keys
pub record DoOpenRowsRise (x : OpenRows) : Type 0 where
  pub groups : Ascends open_group_before (map open_group_at x.groups.items)
  pub holds : Ascends session_hold_before (map session_hold_at x.holds.items)
  pub books : Ascends session_book_before (map session_book_at x.books.items)

-- the rows of the three parts, one after another
abbrev pub open_cells : OpenRows → List Values
open_cells x =
    map open_group_cells (map open_group_at x.groups.items)
    ++ map session_hold_cells (map session_hold_at x.holds.items)
    ++ map session_book_cells (map session_book_at x.books.items)

abbrev pub book_at : BookColumns → BookAt
book_at b = record {
  number = b.number;
  row = record { starts = b.starts; content = string_bytes b.content };
}

abbrev pub reserved_at : ReservedColumns → ReservedAt
reserved_at x = record {
  account = x.account;
  session = x.session;
  group = x.group;
  reserved = true;
}

-- the names are in their columns, and are there exactly where the group has a reservation
pub record ArePeriods (row : Values) (is_reserved : Bool) (o : Option PeriodTexts) : Type 0 where
  pub there : is_some o ≡ is_reserved
  pub before : column row 3 ≡ or_null (λ p. Text (string_bytes p.before)) o
  pub after : column row 4 ≡ or_null (λ p. Text (string_bytes p.after)) o
