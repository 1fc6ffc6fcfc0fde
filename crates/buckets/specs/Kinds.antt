-- What buckets count, and what is to be held or charged in each unit.
-- Source: TS 32.296, account balance management function (monetary and non-monetary units).
use Rattle.std.specs.Prelude.{◌-◌, Bool, true, false, ◌≡◌, Option, is_some}
use Rattle.units.specs.Words.{Micros, BlockCount, GroupId, most_money, most_blocks}
use Rattle.buckets.specs.Words.{BucketAmount}
use Rattle.buckets.specs.declared.kind.BucketKind.{BucketKind}
use Rattle.buckets.specs.declared.kind.BucketKind.TheVariants.{Money, Blocks}
use Rattle.buckets.specs.declared.kind.Due.{Due}

-- both count one unit
abbrev pub is_alike : BucketKind → BucketKind → Bool
is_alike Money Money = true
is_alike Money Blocks = false
is_alike Blocks Money = false
is_alike Blocks Blocks = true

-- the most that is credited at once: 10^15 micro-units, 10^9 blocks
-- rule: bucket-kinds: what buckets count
abbrev pub most_of : BucketKind → BucketAmount
most_of Money = most_money
most_of Blocks = most_blocks

-- what a bucket of either kind may have
abbrev pub most_in_bucket : BucketAmount
most_in_bucket = 1_000_000_000_000_000

-- what all allowances of an account may have: 2^32 of them, each of the most blocks
abbrev pub most_blocks_in_all : BlockCount
most_blocks_in_all = 4_294_967_296_000_000_000

-- blocks are of one rating group
-- rule: bucket-kinds
abbrev pub IsScopeOf : BucketKind → Option GroupId → Type 0
IsScopeOf Money scope = Unit {0}
IsScopeOf Blocks scope = is_some scope ≡ true

-- ---- so much money, and so many blocks

abbrev pub due : Micros → BlockCount → Due
due amount blocks = record { money = amount; blocks = blocks }

-- rule: bucket-kinds
abbrev pub due_in : BucketKind → Due → BucketAmount
due_in Money d = d.money
due_in Blocks d = d.blocks

-- what is left of it once so much of one unit is taken
abbrev pub less : BucketKind → BucketAmount → Due → Due
less Money n d = record d { money = d.money - n }
less Blocks n d = record d { blocks = d.blocks - n }
