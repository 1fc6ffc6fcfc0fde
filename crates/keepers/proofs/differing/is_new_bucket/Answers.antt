use Rattle.std.proofs.Common.{◌≡◌, ◌<◌, List, length, get_or, sym, ap, subst, ◌∙◌}
use Rattle.std.specs.Prelude.{not}
use Rattle.buckets.specs.Row.{BucketRow}
use Rattle.reserving.specs.Stored.{StoredRows}
use Rattle.keepers.specs.Differing.{equal_bucket}
use Rattle.keepers.specs.Keyed.{same_bucket}
use Rattle.keepers.proofs.Equal.{bucket_from}
use Rattle.keepers.proofs.Cursor.{new_at, turn_bucket}
use Rattle.keepers.proofs.Found.{distinct_apart}
use Rattle.keepers.proofs.differing.is_new_bucket.Goals as goal

pub returns-then-same_bucket : goal.returns-then-same_bucket
returns-then-same_bucket c =
    let old : BucketRow = c.index-rows-place.result in
    let xs : List BucketRow = c.args.before.now.buckets in
    let rows : c.buckets-rows.result.now ≡ xs = c.buckets-rows.ensures.value
    ∙ ap (λ (w : StoredRows). w.buckets) c.rows.ensures.value in
    let less = subst (λ (zs : List BucketRow). c.args.cursor.now < length zs) rows
    c.if-place-rows.true in
    let is : old ≡ get_or xs c.args.cursor.now old = c.index-rows-place.is
    ∙ ap (λ (zs : List BucketRow). get_or zs c.args.cursor.now old) rows in
    sym
    (ap not (new_at same_bucket equal_bucket turn_bucket bucket_from c.args.row.now xs
    c.args.cursor.now old less
    (distinct_apart c.args.before.now.buckets c.rows.ensures.kept.sound.distinct)
    (ap (λ (z : BucketRow). same_bucket z c.args.row.now) (sym is) ∙ sym c.same_bucket.ensures
    ∙ c.if-same_bucket.true)
    (ap (equal_bucket c.args.row.now) (sym is) ∙ sym c.equal_bucket.ensures
    ∙ c.if-equal_bucket.false)))
