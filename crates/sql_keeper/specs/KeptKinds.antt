-- Whether the rows that are kept show what a bucket counts.
-- Source: profile.
use Rattle.std.specs.Prelude.{◌&&◌, Bool, false, Option, Some, None, is_some}
use Rattle.identifiers.specs.Words.{AccountName}
use Rattle.buckets.specs.Kinds.{is_alike}
use Rattle.buckets.specs.Row.{BucketRow}
use Rattle.reserving.specs.Left.{bucket_in}
use Rattle.sql_tables.specs.Keyed.{same_name}
use Rattle.sql_keeper.specs.declared.kept_rows.KeptRows.{KeptRows}

-- whether one is of one rating group, and counts the same as a bucket
abbrev pub is_alike_in : Option BucketRow → BucketRow → Bool
is_alike_in None b = false
is_alike_in (Some y) b = is_some y.scope && is_alike y.kind b.kind

-- whether the rows that are kept are of an account, and their bucket of this number is such a one
-- rule: database-writes.counted: what is kept of an account says of a bucket what it counts, so
--   that the row beside it isn't written
abbrev pub is_counted : Option KeptRows → AccountName → BucketRow → Bool
is_counted None a b = false
is_counted (Some x) a b =
    same_name x.account a && is_alike_in (bucket_in b.number x.rows.purse) b
