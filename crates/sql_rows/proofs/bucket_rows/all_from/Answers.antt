use Rattle.std.proofs.Common.{rules}
use Rattle.sql_rows.specs.Texts.{bucket_row}
use Rattle.sql_rows.proofs.lists.Rising.{rises_map}
use Rattle.sql_rows.proofs.bucket_rows.all_from.Goals as goal

pub returns-clause-order : goal.returns-clause-order
returns-clause-order c =
    rises_map (λ b. b.number) bucket_row c.in_ok-buckets.buckets.items (search rules)
