use Rattle.std.proofs.Common.{[], ◌∷◌, map, ap, ◌∙◌}
use Rattle.sqlite.specs.Values.{bound_value}
use Rattle.sqlite_value.specs.declared.value.Value.TheVariants.{Text}
use Rattle.sql_rows.specs.Texts.{bucket_row}
use Rattle.sql_tables.proofs.Telling.{reads_as}
use Rattle.sql_rows.proofs.selections.ReadBuckets.{read_buckets_all_text, read_buckets_all_plain}
use Rattle.sql_rows.proofs.selections.ReadBuckets.{all_read}
use Rattle.sql_rows.proofs.bucket_rows.read_buckets_all.Goals as goal

pub read-requires-clause-plain : goal.read-requires-clause-plain
read-requires-clause-plain g c = read_buckets_all_plain

pub returns-clause-reads : goal.returns-clause-reads
returns-clause-reads g c =
    reads_as _ read_buckets_all_text _ _ _ _ _ _ c.all_from.result c.read.ensures.reads
    c.read.ensures.stops c.in_ok-rows.ensures.answers
    (λ i. map bound_value ((c.text.ensures ∙ ap Text c.as_str.ensures.value) i ∷ []))
    c.deref.ensures.value c.all_from.ensures.cells
    (λ bs. all_read c.args.account.now _ _ _ (map bucket_row bs.items))
