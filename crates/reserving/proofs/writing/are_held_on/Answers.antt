use Rattle.std.proofs.Common.{◌≡◌, true, sym, subst, arith}
use Rattle.buckets.specs.Row.{BucketRow}
use Rattle.reserving.specs.Sessions.{held_by}
use Rattle.reserving.proofs.WrittenOver.{each_at}
use Rattle.reserving.proofs.writing.are_held_on.Goals as goal

pub is_held_on-requires-clause-held : goal.is_held_on-requires-clause-held
is_held_on-requires-clause-held c =
    subst (λ (b : BucketRow). held_by (λ s. true) c.args.rows.now b ≡ b.reserved)
    (sym c.bucket-item.is)
    (each_at (λ b. held_by (λ s. true) c.args.rows.now b ≡ b.reserved) c.args.old.now
    c.buckets.bucket-index c.bucket-item.result c.requires.held (omega arith))
