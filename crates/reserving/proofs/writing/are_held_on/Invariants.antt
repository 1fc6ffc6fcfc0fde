use Rattle.std.proofs.Common.{◌≡◌, drop}
use Rattle.reserving.specs.Written.{are_held_on}
use Rattle.reserving.proofs.writing.are_held_on.Given as goal

abbrev pub invariant-buckets : goal.invariant-buckets
invariant-buckets l =
    are_held_on l.named l.rows (drop l.bucket-index l.old) l.left
    ≡ are_held_on l.named l.rows l.old l.new
