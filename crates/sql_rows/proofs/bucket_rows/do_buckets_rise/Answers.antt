use Rattle.std.proofs.Common.{sym, subst, arith}
use Rattle.std.specs.Option.{option_map}
use Rattle.std.proofs.lemmas.List.{drop_all}
use Rattle.sql_rows.proofs.lists.Rising.{RiseAfter, nothing_after}
use Rattle.sql_rows.proofs.bucket_rows.do_buckets_rise.Goals as goal

pub returns : goal.returns
returns c told =
    c.rows.invariant (subst (RiseAfter (λ x. x.number) (option_map (λ b. b.now) c.rows.last))
    (sym (drop_all c.rows.bucket-index c.args.buckets.now (omega arith)))
    (nothing_after (λ x. x.number) (option_map (λ b. b.now) c.rows.last)))
