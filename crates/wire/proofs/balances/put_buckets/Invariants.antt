use Rattle.std.proofs.Common.{◌≡◌, ◌++◌, drop, take}
use Rattle.std.specs.List.{AllByRecursion}
use Rattle.json_fields.specs.Tokens.{item_tokens}
use Rattle.wire.specs.SpelledBalances.{bucket_items}
use Rattle.wire.specs.Rules.{IsBucketBalance}
use Rattle.wire.proofs.balances.put_buckets.Given as goal

-- what is written so far, with what is left, is what is written in the end
abbrev pub invariant-loop-bucket : goal.invariant-loop-bucket
invariant-loop-bucket l = record {
  tokens : l.out.tokens ++ item_tokens (bucket_items (drop l.bucket-index l.list))
      ≡ l.fn.out.tokens ++ item_tokens (bucket_items l.list);
  rules : AllByRecursion IsBucketBalance (take l.bucket-index l.list);
  before : l.out.before ≡ l.fn.out.before;
}
