use Rattle.std.proofs.Common.{drop}
use Rattle.std.specs.Option.{option_map}
use Rattle.sql_rows.specs.Lists.{Rises}
use Rattle.sql_rows.proofs.lists.Rising.{RiseAfter}
use Rattle.sql_rows.proofs.bucket_rows.do_buckets_rise.Given as goal

abbrev pub invariant-rows : goal.invariant-rows
invariant-rows l =
    RiseAfter (λ x. x.number) (option_map (λ b. b.now) l.last) (drop l.bucket-index l.buckets)
    → Rises (λ b. b.number) l.buckets
