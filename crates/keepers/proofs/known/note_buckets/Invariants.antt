use Rattle.std.proofs.Common.{◌≡◌, ℕ, take, true}
use Rattle.buckets.specs.Row.{BucketRow}
use Rattle.ledger.specs.Lists.{EachIn}
use Rattle.keepers.specs.Named.{is_numbered}
use Rattle.keepers.proofs.known.note_buckets.Given as goal

abbrev pub invariant-loop-row : goal.invariant-loop-row
invariant-loop-row l = record {
  stay : (k : ℕ) → is_numbered l.fn.numbers k ≡ true → is_numbered l.numbers k ≡ true;
  noted : EachIn (λ (b : BucketRow). is_numbered l.numbers b.number ≡ true)
      (take l.row-index l.rows);
}
