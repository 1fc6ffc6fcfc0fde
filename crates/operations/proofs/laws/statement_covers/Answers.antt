use Rattle.std.proofs.Common.{sym, ◌∙◌}
use Rattle.std.specs.Prelude.{if◌then◌else◌}
use Rattle.buckets.specs.declared.kind.BucketKind.TheVariants.{Blocks}
use Rattle.buckets.specs.Kinds.{is_alike}
use Rattle.ledger.specs.Balance.{buckets_at}
use Rattle.ledger.specs.Pricing.{validity_of}
use Rattle.charging.specs.Served.{history}
use Rattle.operations.proofs.NumberedSums.{sum_by-by_number}
use Rattle.operations.proofs.laws.statement_covers.Goals as goal

pub returns : goal.returns
returns c = λ b a list t.
    sum_by-by_number (λ x. if is_alike x.kind Blocks then x.charged else 0)
    (buckets_at (validity_of b) t (history b a list).ledger)
    ∙ sym (c.collection.ensures Blocks b a list t)
