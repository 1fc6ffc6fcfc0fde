use Rattle.std.proofs.Common.{ap, sym, ◌∙◌}
use Rattle.sql_rules.specs.Rules.{rule_at}
use Rattle.sql_rules.proofs.rows.is_ruled.Goals as goal

pub returns-in-2 : goal.returns-in-2
returns-in-2 c =
    c.is_ruled_bucket.ensures
    ∙ ap (λ at. rule_at c.args.shelf.now at c.args.row.now) (sym c.in-2.is)
