-- What the numbers of definitions about buckets are.
use Rattle.std.specs.Prelude.{ℕ}

-- a bucket of an account, in the order of their making, from 1 on
abbrev pub BucketNumber : Type 0
BucketNumber = ℕ

-- so much of what a bucket counts: money in micro-units, or blocks
abbrev pub BucketAmount : Type 0
BucketAmount = ℕ
