use Rattle.std.proofs.Common.{rules, refl, ◌∙◌, ap}
use Rattle.sqlite.specs.Values.{or_null}
use Rattle.sqlite_value.specs.declared.value.Value.TheVariants.{Text}
use Rattle.sql_rows.specs.Values.{nat, bucket_values, plain_bucket}
use Rattle.sql_rows.proofs.puts.PutBucket.{bound_bucket}
use Rattle.sql_rows.proofs.writes.Writes.{runs_with}
use Rattle.sql_rows.proofs.bucket_rows.write_bucket.Goals as goal

pub returns : goal.returns
returns g c = record {
  same_reference = search rules;
  makes = runs_with c.args.sql.now _ (bucket_values c.args.account.now c.args.bucket.now)
      (bound_bucket c.args.account.now (plain_bucket c.args.bucket.now) refl _ _ _ _ _ _ _ _ _ _
      (c.text-of_account.ensures ∙ ap Text c.as_str.ensures.value)
      (c.whole-number.ensures ∙ ap nat c.number.ensures)
      (c.large-starts.ensures ∙ ap nat (c.seconds.ensures.value ∙ c.from.ensures))
      (c.large-ends.ensures ∙ ap nat (c.seconds-2.ensures.value ∙ c.until.ensures))
      (c.optional-scope.ensures ∙ ap (or_null nat) c.scope.ensures)
      (c.large-credited.ensures ∙ ap nat c.credited.ensures.amount)
      (c.large-available.ensures ∙ ap nat c.available.ensures.amount)
      (c.large-reserved.ensures ∙ ap nat c.reserved.ensures.amount)
      (c.large-charged.ensures ∙ ap nat c.charged.ensures.amount)
      (c.large-expired.ensures ∙ ap nat c.expired.ensures.amount))
      _ _ c.write.result c.write.ensures.runs;
}
