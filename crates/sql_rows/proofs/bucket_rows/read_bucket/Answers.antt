use Rattle.std.proofs.Common.{[], ◌∷◌, map, ap, ◌∙◌, option_map}
use Rattle.sqlite.specs.Values.{bound_value}
use Rattle.sqlite_value.specs.declared.value.Value.TheVariants.{Text}
use Rattle.sql_rows.specs.Texts.{bucket_row}
use Rattle.sql_tables.proofs.Telling.{reads_as}
use Rattle.sql_rows.proofs.selections.ReadBucket.{read_bucket_text, read_bucket_plain, bucket_read}
use Rattle.sql_rows.proofs.rules.KeyRules.{refused_as}
use Rattle.sql_rows.proofs.rules.MetaRules.{at_ok}
use Rattle.sql_rows.proofs.rules.BucketValues.{bucket_refused}
use Rattle.sql_rows.proofs.bucket_rows.read_bucket.Goals as goal

pub read-requires-clause-plain : goal.read-requires-clause-plain
read-requires-clause-plain g c = read_bucket_plain

pub returns : goal.returns
returns g c = record {
  reads = reads_as _ read_bucket_text _ _ _ _ _ _ c.bucket_among.result c.read.ensures.reads
      c.read.ensures.stops c.in_ok-rows.ensures.answers
      (λ i. map bound_value ((c.text-of_account.ensures ∙ ap Text c.as_str.ensures.value) i ∷
      c.whole-of_number.ensures i ∷ []))
      c.deref.ensures.value (at_ok _ _ c.bucket_among.result c.bucket_among.ensures)
      (λ o. bucket_read c.args.account.now c.args.number _ _ _ (option_map bucket_row o));
  refused = refused_as _ _ _ read_bucket_text _ _ _ _ _ _ c.bucket_among.result
      c.in_ok-rows.ensures.answers
      (λ i. map bound_value ((c.text-of_account.ensures ∙ ap Text c.as_str.ensures.value) i ∷
      c.whole-of_number.ensures i ∷ []))
      c.deref.ensures.value c.bucket_among.ensures
      (λ e got refused is. bucket_refused c.args.account.now c.args.number _ _ _ got (refused is));
}
