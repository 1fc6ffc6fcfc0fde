-- Rows of buckets with what each counts.
-- Source: profile.
use Rattle.std.specs.Prelude.{List, nat_eq}
use Rattle.std.specs.List.{list_any}
use Rattle.buckets.specs.Words.{BucketNumber}
use Rattle.buckets.specs.Row.{BucketRow}
use Rattle.buckets.specs.declared.bucket.columns.Columns.{Columns}
use Rattle.sql_rows.specs.declared.live_bucket_rows.LiveBucket.{LiveBucket}
use Rattle.sql_rows.specs.Texts.{bucket_row}
use Rattle.sql_keeper.specs.Content.{bucket_in}

-- as is read with it
abbrev pub counted_live : LiveBucket → BucketRow
counted_live x = bucket_in x.counts_blocks (bucket_row x.columns)

-- as the numbers of all buckets of blocks say
abbrev pub counted_by : List BucketNumber → Columns → BucketRow
counted_by numbers x = bucket_in (list_any (λ n. nat_eq n x.number) numbers) (bucket_row x)
