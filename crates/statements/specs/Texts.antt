-- The text of a statement and of an export.
-- Source: profile.
use Rattle.std.specs.Prelude.{◌≡◌, ◌+◌, ◌++◌, List, [], ◌∷◌, Bool, Option, sum_by}
use Rattle.std.specs.Prelude.{if◌then◌else◌}
use Rattle.std.specs.List.{filter, list_any}
use Rattle.std.specs.Io.KnownBytes.{Appends}
use Rattle.units.specs.Words.{Moment, no_end}
use Rattle.identifiers.specs.Words.{AccountName}
use Rattle.texts.specs.NumberWords.{MonthNumber}
use Rattle.texts.specs.StreamWords.{Bytes}
use Rattle.buckets.specs.declared.kind.BucketKind.{BucketKind}
use Rattle.buckets.specs.declared.kind.BucketKind.TheVariants.{Money, Blocks}
use Rattle.buckets.specs.Kinds.{is_alike}
use Rattle.buckets.specs.Row.{BucketRow}
use Rattle.buckets.specs.Share.{sum_in}
use Rattle.tariffs.specs.Books.{Book}
use Rattle.ledger.specs.ChargeColumns.{ChargeColumns}
use Rattle.keepers.specs.Rows.{is_between}
use Rattle.statements.specs.Months.{is_of_month}
use Rattle.statements.specs.Records.{header_record, charge_record}
use Rattle.statements.specs.Lines.{title_line, heading, charge_line, total_line, bucket_heading}
use Rattle.statements.specs.Lines.{bucket_line, allowance_heading, allowance_line, date_line}
use Rattle.statements.specs.Lines.{covered_line}
use Rattle.statements.specs.declared.rows.Form.{Form}
use Rattle.statements.specs.declared.rows.Form.TheVariants.{Lines, Records}
use Rattle.statements.specs.declared.rows.Sums.{Sums}

-- the rows of a month: charges have the moments of commands
-- rule: statement
abbrev pub of_month : Book → MonthNumber → List ChargeColumns → List ChargeColumns
of_month book month rows =
    filter (is_of_month book month) (filter (is_between 0 no_end) rows)

abbrev pub charge_text : Form → ChargeColumns → Bytes
charge_text Lines c = charge_line c
charge_text Records c = charge_record c

-- the texts of rows, one after another
abbrev pub charge_texts : Form → List ChargeColumns → Bytes
charge_texts form [] = []
charge_texts form (c ∷ rest) = charge_text form c ++ charge_texts form rest

abbrev pub plus_charge : Sums → ChargeColumns → Sums
plus_charge s c = record {
  blocks = s.blocks + c.blocks.0;
  rated = s.rated + c.rated.0;
  collected = s.collected + c.collected.0;
  uncollected = s.uncollected + c.uncollected.0;
}

abbrev pub sums_of : List ChargeColumns → Sums
sums_of rows = record {
  blocks = sum_by (λ c. c.blocks.0) rows;
  rated = sum_by (λ c. c.rated.0) rows;
  collected = sum_by (λ c. c.collected.0) rows;
  uncollected = sum_by (λ c. c.uncollected.0) rows;
}

-- ---- buckets

abbrev pub line_by_kind : BucketKind → BucketRow → Bytes
line_by_kind Money b = bucket_line b
line_by_kind Blocks b = allowance_line b

-- the lines of the buckets of a kind: another has none
abbrev pub line_among : BucketKind → BucketRow → Bytes
line_among kind b = if is_alike b.kind kind then line_by_kind kind b else []

abbrev pub lines_among : BucketKind → List BucketRow → Bytes
lines_among kind [] = []
lines_among kind (b ∷ rest) = line_among kind b ++ lines_among kind rest

abbrev pub has_allowance : List BucketRow → Bool
has_allowance rows = list_any (λ b. is_alike b.kind Blocks) rows

-- of allowances nothing is printed where there is none
-- rule: statement-allowances
abbrev pub allowances_text : List BucketRow → Bytes
allowances_text rows =
    if has_allowance rows then allowance_heading ++ lines_among Blocks rows else []

-- rule: statement-allowances
abbrev pub covered_foot_text : List BucketRow → Bytes
covered_foot_text rows =
    if has_allowance rows then covered_line (sum_in Blocks (λ b. b.charged) rows) else []

-- ---- the texts

-- what precedes the charges, and what follows them
abbrev pub head_text : AccountName → MonthNumber → Moment → Bytes
head_text account month moment = title_line account month moment ++ heading

-- rule: statement-allowances: allowances in a statement, if there are any
abbrev pub foot_text : Sums → List BucketRow → Bytes
foot_text sums buckets =
    total_line sums ++ bucket_heading ++ lines_among Money buckets ++ allowances_text buckets
    ++ date_line (sum_in Money (λ b. b.charged) buckets) ++ covered_foot_text buckets

-- an account's statement of a month: its charges in the month, their sums, its buckets at the
-- moment, those of money before its allowances, and what was collected and covered to date
-- rule: statement: a statement of a month
abbrev pub statement_text : Book → AccountName → MonthNumber → Moment → List ChargeColumns →
    List BucketRow → Bytes
statement_text book account month moment rows buckets =
    head_text account month moment
    ++ charge_texts Lines (of_month book month rows)
    ++ foot_text (sums_of (of_month book month rows)) buckets

-- its export: a record for each of these charges
-- rule: export: an export of a month
-- rule: statement
abbrev pub export_text : Book → MonthNumber → List ChargeColumns → Bytes
export_text book month rows = header_record ++ charge_texts Records (of_month book month rows)

-- a beginning of a text is written
pub record WritesBeginning (old new : Option Bytes) (text : Bytes) : Type 0 where
  pub part : Bytes
  pub rest : Bytes
  pub written : Appends old new part
  pub whole : text ≡ part ++ rest
