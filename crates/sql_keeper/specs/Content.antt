-- What a keeper over a database holds, by the rows of its tables.
-- Source: profile.
use Rattle.std.specs.Prelude.{ℕ, zero, suc, ◌&&◌, Bool, List, [], map, slice_get, Option}
use Rattle.std.specs.Prelude.{Some, None, Result, Ok, Err, unwrap_or, option_map}
use Rattle.std.specs.Prelude.{option_and_then, is_some, if◌then◌else◌}
use Rattle.units.specs.Words.{BlockCount, BookNumber}
use Rattle.identifiers.specs.Words.{AccountName}
use Rattle.buckets.specs.Words.{BucketNumber, BucketAmount}
use Rattle.ledger.specs.Words.{ChargeNumber}
use Rattle.calendar.specs.declared.week.Period.{Period}
use Rattle.rating.specs.declared.grant.Periods.{Periods}
use Rattle.tariffs.specs.Names.{period_named}
use Rattle.shelves.specs.Shelves.{Shelf, dated_books}
use Rattle.buckets.specs.Row.{BucketRow}
use Rattle.buckets.specs.declared.kind.BucketKind.{BucketKind}
use Rattle.buckets.specs.declared.kind.BucketKind.TheVariants.{Money, Blocks}
use Rattle.ledger.specs.declared.charge.ChargeRow.{ChargeRow}
use Rattle.ledger.specs.declared.terms.Terms.{Terms}
use Rattle.reserving.specs.Left.{is_open_row}
use Rattle.commands.specs.declared.command.Content.{Content}
use Rattle.commands.specs.declared.answer.Answer.{Answer}
use Rattle.commands.specs.declared.key.Key.{Key}
use Rattle.commands.specs.declared.key.Key.TheVariants.{Request, Reference}
use Rattle.json_fields.specs.declared.fault.WireFault.{WireFault}
use Rattle.wire.specs.Contents.{content_of}
use Rattle.wire.specs.ReadingAnswers.{answer_of}
use Rattle.voucher_rules.specs.declared.voucher.Voucher.{Voucher}
use Rattle.keepers.specs.declared.kept_answer.KeptAnswer.{KeptAnswer}
use Rattle.keepers.specs.Tables.{Head, GroupRow, Rows, Tables}
use Rattle.sql_rows.specs.declared.head.HeadColumns.{HeadColumns}
use Rattle.sql_rows.specs.declared.voucher_rows.VoucherColumns.{VoucherColumns}
pub use Rattle.sql_rules.specs.Ruled.{is_numbered, is_reserved, last_in}
use Rattle.sql_rows.specs.Values.{Group, PeriodNames, Kept}
use Rattle.sql_rows.specs.Values.{request_kind, reference_kind}
use Rattle.sql_rows.specs.Content.{TableRows, TablesContent}

-- ---- periods, which are there by their names

-- the names of the periods of each book, in the order of the books' numbers; the first is 1
abbrev pub Names : Type 0
Names = List (List (List ℕ))

-- those of the book of a number; none where there is no such book
abbrev pub names_numbered : Names → BookNumber → List (List ℕ)
names_numbered names zero = []
names_numbered names (suc i) = unwrap_or (slice_get names i) []

-- those of each book of a shelf
abbrev pub shelf_names : Shelf → Names
shelf_names s = map (λ d. d.book.periods) (dated_books s)

-- the period of a name, by its place among the book's names; the first where it is none of them
abbrev pub period_in : List (List ℕ) → List ℕ → Period
period_in names name = unwrap_or (period_named names name) (record { 0 = 0 })

abbrev pub periods_in : List (List ℕ) → PeriodNames → Periods
periods_in names p = record { before = period_in names p.before; after = period_in names p.after }

-- ---- an account's rows

abbrev pub head_in : HeadColumns → Head
head_in h = record {
  as_of = h.as_of;
  barred = h.barred;
  next_bucket = h.next_bucket;
  next_charge = h.next_charge;
}

-- the number of a reservation's book, which has a row of its own; without one it is the first
abbrev pub book_in : Option BookNumber → BookNumber
book_in book = unwrap_or book 1

-- the terms of a reservation of the book of a number, whose periods have these names there
abbrev pub terms_in : Names → BookNumber → PeriodNames → Terms
terms_in names n p = record { book = n; periods = periods_in (names_numbered names n) p }

-- a reservation counts as long as its session is open
abbrev pub reserved_in : Names → Bool → Option BookNumber → Option PeriodNames → Option Terms
reserved_in names is_open book periods =
    if is_open then option_map (terms_in names (book_in book)) periods else None

abbrev pub stored_group_in : Names → Bool → Option BookNumber → Group → GroupRow
stored_group_in names is_open book x =
    record { used = x.used; terms = reserved_in names is_open book x.periods }

-- what is held counts as long as its reservation
abbrev pub held_in : Bool → Option BucketAmount → BucketAmount
held_in has_reservation amount = if has_reservation then unwrap_or amount 0 else 0

-- what a bucket counts: blocks where it is of one rating group and a row of its own says so, else
-- money
abbrev pub kind_in : Bool → BucketKind
kind_in is_allowance = if is_allowance then Blocks else Money

abbrev pub bucket_in : Bool → BucketRow → BucketRow
bucket_in is_allowance b = record b { kind = kind_in (is_some b.scope && is_allowance) }

abbrev pub told_buckets : TableRows → BucketNumber → Option BucketRow
told_buckets r n = option_map (bucket_in (r.allowances n)) (r.buckets n)

abbrev pub told_rows : Names → TableRows → Rows
told_rows names r = record {
  head = option_map head_in r.head;
  buckets = told_buckets r;
  counters = r.counters;
  sessions = r.sessions;
  groups = λ s g.
      option_map (stored_group_in names (is_open_row (r.sessions s)) (r.grant_books s g))
      (r.groups s g);
  holds = λ s g n.
      held_in (is_open_row (r.sessions s) && is_reserved (r.groups s g)) (r.holds s g n);
}

-- ---- charges, which are numbered from 1 to below the account's next number

-- the blocks of a charge that were covered, which have a row of their own; without one none were
abbrev pub covered_in : Option BlockCount → BlockCount
covered_in blocks = unwrap_or blocks 0

abbrev pub charge_in : Option BlockCount → ChargeRow → ChargeRow
charge_in covered x = record x { covered = record { 0 = covered_in covered } }

abbrev pub told_charge : TableRows → ChargeNumber → Option ChargeRow
told_charge r n = option_map (charge_in (r.covered n)) (r.charges n)

abbrev pub charge_of : ChargeNumber → TableRows → Option ChargeRow
charge_of n r = if is_numbered n r.head then told_charge r n else None

-- ---- kept answers, which are there as texts

abbrev pub kept_told : Result Content WireFault → Result Answer WireFault → Option KeptAnswer
kept_told (Ok c) (Ok x) = Some (record { content = c; answer = x })
kept_told (Ok c) (Err e) = None
kept_told (Err e) x = None

-- what texts under an account are; nothing where they are no texts of a command and an answer
abbrev pub kept_in : AccountName → Kept → Option KeptAnswer
kept_in a k = kept_told (content_of a k.content) (answer_of k.answer)

-- the texts under a key
abbrev pub texts_of_key : Key → TableRows → Option Kept
texts_of_key (Request s n) r = r.answers request_kind s n
texts_of_key (Reference x) r = r.answers reference_kind x 0

abbrev pub answer_in : AccountName → Key → TableRows → Option KeptAnswer
answer_in a k r = option_and_then (kept_in a) (texts_of_key k r)

-- ---- vouchers

-- the voucher of a row
abbrev pub voucher_in : VoucherColumns → Voucher
voucher_in v = record {
  terms = record { amount = v.amount; days = v.days; scope = v.scope };
  redeemer = v.account;
}

-- ---- all of it

-- rule: database-writes.tables-of: what a commit writes into a database reads as the change
-- rule: database-reads.tables-of: a keeper over a database finds what its tables hold, and asking
--   changes nothing
-- rule: database-reads.find-answer: a keeper over a database finds kept answers, vouchers and dead
--   buckets
abbrev pub tables_of : Names → TablesContent → Tables
tables_of names c = record {
  last = last_in c.meta;
  rows = λ a. told_rows names (c.rows a);
  answers = λ a k. answer_in a k (c.rows a);
  charges = λ a n. charge_of n (c.rows a);
  vouchers = λ code. option_map voucher_in (c.vouchers code);
  count = c.count;
}
