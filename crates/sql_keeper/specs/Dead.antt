-- The buckets that can't be used any more, among those of an account.
-- Source: profile.
use Rattle.std.specs.Prelude.{◌≡◌, List, Option}
use Rattle.std.specs.List.Sorted.{IsNonDecreasingBy}
use Rattle.buckets.specs.Words.{BucketNumber}
use Rattle.buckets.specs.Row.{BucketRow}
use Rattle.reserving.specs.Rows.{AreApart}
use Rattle.reserving.specs.Left.{is_dead, only, bucket_in}
use Rattle.keepers.specs.Keyed.{same_bucket}

pub record AreDead (buckets : BucketNumber → Option BucketRow) (rows : List BucketRow)
    : Type 0 where
  pub found : (n : BucketNumber) → bucket_in n rows ≡ only is_dead (buckets n)
  pub apart : AreApart same_bucket rows
  pub order : IsNonDecreasingBy (λ b. b.number) rows
