-- The lines of a statement.
-- Source: profile.
use Rattle.std.specs.Prelude.{ℕ, ◌++◌, List, [], ◌∷◌, codes, unwrap_or}
use Rattle.std.specs.Fmt.{decimal}
use Rattle.units.specs.Words.{Moment}
use Rattle.identifiers.specs.Words.{AccountName}
use Rattle.texts.specs.NumberWords.{MonthNumber}
use Rattle.texts.specs.StreamWords.{Bytes}
use Rattle.buckets.specs.Row.{BucketRow}
use Rattle.ledger.specs.ChargeColumns.{ChargeColumns}
use Rattle.statements.specs.Columns.{column_text, columns_text, set}
use Rattle.statements.specs.declared.columns.Column.{Column}
use Rattle.statements.specs.declared.rows.Sums.{Sums}

abbrev pub title_line : AccountName → MonthNumber → Moment → Bytes
title_line account month moment =
    codes "ACCOUNT " ++ (account
    ++ (codes " MONTH " ++ (decimal month ++ (codes " MOMENT " ++ (decimal moment ++ codes "\n")))))

abbrev pub heading : Bytes
heading = codes
    "    MOMENT      GROUP     BLOCKS               RATED           COLLECTED         UNCOLLECTED\n"

-- rule: statement-lines: the lines of a statement and the records of an export
abbrev pub charge_line : ChargeColumns → Bytes
charge_line c =
    column_text (set 10 c.moment)
    ++ columns_text (set 10 c.group ∷ set 10 c.blocks.0 ∷ set 19 c.rated.0 ∷ set 19 c.collected.0
    ∷ set 19 c.uncollected.0 ∷ [])

-- rule: statement-lines
abbrev pub total_line : Sums → Bytes
total_line s =
    codes "                TOTAL"
    ++ columns_text (set 10 s.blocks ∷ set 19 s.rated ∷ set 19 s.collected
    ∷ set 19 s.uncollected ∷ [])

-- ---- buckets, each amount in the bucket's unit

abbrev pub amount_names : Bytes
amount_names =
    codes "         CREDITED        AVAILABLE         RESERVED          CHARGED          EXPIRED\n"

abbrev pub amounts_of : BucketRow → List Column
amounts_of b =
    set 16 b.credited ∷ set 16 b.available ∷ set 16 b.reserved ∷ set 16 b.charged
    ∷ set 16 b.expired ∷ []

abbrev pub bucket_heading : Bytes
bucket_heading = codes "    BUCKET" ++ amount_names

-- rule: statement-lines
abbrev pub bucket_line : BucketRow → Bytes
bucket_line b = column_text (set 10 b.number) ++ columns_text (amounts_of b)

abbrev pub allowance_heading : Bytes
allowance_heading = codes " ALLOWANCE      GROUP" ++ amount_names

-- an allowance has a rating group
-- rule: statement-allowances
abbrev pub allowance_line : BucketRow → Bytes
allowance_line b =
    column_text (set 10 b.number) ++ columns_text (set 10 (unwrap_or b.scope 0) ∷ amounts_of b)

-- ---- to date

abbrev pub date_line : ℕ → Bytes
date_line n = codes "COLLECTED TO DATE " ++ (decimal n ++ codes "\n")

-- rule: statement-allowances
abbrev pub covered_line : ℕ → Bytes
covered_line n = codes "COVERED TO DATE " ++ (decimal n ++ codes "\n")
