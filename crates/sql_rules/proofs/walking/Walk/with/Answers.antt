use Rattle.std.proofs.Common.{None, sym, ◌∙◌}
use Rattle.sql_rules.proofs.Passing.{fails_still, row_fails}
use Rattle.sql_rules.proofs.walking.Walk.with.Goals as goal

pub returns-then-not-self : goal.returns-then-not-self
returns-then-not-self c rule given is walks =
    fails_still rule c.args.self.passes c.args.self.last given c.args.row.now c.if-not-self.true
    walks

pub returns-then-not-is_ruled : goal.returns-then-not-is_ruled
returns-then-not-is_ruled c rule given is walks =
    row_fails rule None None given c.args.row.now (sym is ∙ c.if-not-is_ruled.true)
