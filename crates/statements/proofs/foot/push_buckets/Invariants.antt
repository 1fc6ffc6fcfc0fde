use Rattle.std.proofs.Common.{◌≡◌, ◌++◌, drop, string_bytes}
use Rattle.statements.specs.Texts.{lines_among}
use Rattle.statements.proofs.foot.push_buckets.Given as goal

abbrev pub invariant-loop-bucket : goal.invariant-loop-bucket
invariant-loop-bucket l =
    string_bytes l.text ++ lines_among l.kind (drop l.bucket-index l.buckets)
    ≡ string_bytes l.fn.text ++ lines_among l.fn.kind l.fn.buckets
