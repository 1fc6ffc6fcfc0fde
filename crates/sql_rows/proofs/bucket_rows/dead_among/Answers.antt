use Rattle.std.proofs.Common.{rules, ap, map, ◌∙◌}
use Rattle.std.proofs.lemmas.Fn.{filter_same}
use Rattle.sql_rows.specs.Lists.{is_dead_bucket}
use Rattle.sql_rows.specs.Texts.{bucket_row}
use Rattle.sql_rows.proofs.lists.Dead.{filter_rows}
use Rattle.sql_rows.proofs.lists.Rising.{rises_map}
use Rattle.sql_rows.proofs.bucket_rows.dead_among.Goals as goal

pub returns-clause-dead : goal.returns-clause-dead
returns-clause-dead c =
    ap (map bucket_row)
    (filter_same _ (λ b. is_dead_bucket (bucket_row b)) _ (λ x b f' k. search rules) _ _
    c.retain.ensures.filtered)
    ∙ filter_rows bucket_row c.args.buckets.items

pub returns-clause-order : goal.returns-clause-order
returns-clause-order c = rises_map (λ b. b.number) bucket_row c.args.buckets.items (search rules)
