use Rattle.std.proofs.Common.{◌≡◌, map, take}
use Rattle.charging.specs.Balances.{bucket_balance}
use Rattle.charging.proofs.balances.balances_of.Given as goal

-- those so far
abbrev pub invariant-loop-bucket : goal.invariant-loop-bucket
invariant-loop-bucket l = record {
  told : l.list.items ≡ map bucket_balance (take l.bucket-index l.buckets);
}
