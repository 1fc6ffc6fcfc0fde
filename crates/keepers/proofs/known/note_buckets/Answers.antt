use Rattle.std.proofs.Common.{◌≡◌, ◌∙◌, ap, subst, true}
use Rattle.buckets.specs.Row.{BucketRow}
use Rattle.keepers.specs.Named.{is_numbered}
use Rattle.keepers.proofs.Replaced.{each_next, each_stays}
use Rattle.keepers.proofs.known.note_buckets.Goals as goal

pub loop-row-preserved : goal.loop-row-preserved
loop-row-preserved c = record {
  stay = λ k e. c.note_number.ensures.stay k (c.loop-row.invariant.stay k e);
  noted = each_next (λ (x : BucketRow). is_numbered c.note_number.new.numbers x.number ≡ true)
      c.args.rows.now c.loop-row.row-index c.row-item.result
      (each_stays (λ (x : BucketRow). is_numbered c.loop-row.numbers x.number ≡ true)
      (λ (x : BucketRow). is_numbered c.note_number.new.numbers x.number ≡ true) c.args.rows.now
      c.loop-row.row-index (λ x e. c.note_number.ensures.stay x.number e)
      c.loop-row.invariant.noted)
      c.loop-row-test.true
      (subst (λ k. is_numbered c.note_number.new.numbers k ≡ true)
      (c.number.ensures ∙ ap (λ (x : BucketRow). x.number) c.row-item.is)
      c.in_ok-note_number.ensures.noted);
}
