use Rattle.std.proofs.Common.{◌≡◌, drop}
use Rattle.buckets.specs.Tested.{do_ascend}
use Rattle.buckets.proofs.purse.tested.do_ascend.Given as goal

abbrev pub invariant-numbers : goal.invariant-numbers
invariant-numbers l =
    (l.others ≡ drop l.number-index l.numbers)
    × (do_ascend (drop l.number-index l.numbers) ≡ do_ascend l.numbers)
