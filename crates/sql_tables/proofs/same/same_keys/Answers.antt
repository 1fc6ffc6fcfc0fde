use Rattle.sql_tables.proofs.Plains.{all_lists_plain}
use Rattle.sql_tables.proofs.same.same_keys.Goals as goal

pub returns-then-not-same-2 : goal.returns-then-not-same-2
returns-then-not-same-2 c = (
  λ no'. absurd (cc no'),
  λ same. c.if-not-same-2.ensures.all (all_lists_plain c.args.first.now.uniques) same.1,
)
