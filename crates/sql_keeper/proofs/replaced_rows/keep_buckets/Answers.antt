use Rattle.std.proofs.Common.{rules}
use Rattle.std.proofs.lemmas.Fn.{filter_same}
use Rattle.sql_keeper.specs.KeptRows.{stays_bucket}
use Rattle.sql_keeper.proofs.replaced_rows.keep_buckets.Goals as goal

pub returns : goal.returns
returns c = filter_same _ (stays_bucket c.args.named.now) _
    (λ x b f' k. search rules) _ _ c.retain.ensures.filtered
