use Rattle.std.proofs.Common.{rules}
use Rattle.sql_rows.specs.Lists.{session_hold_before}
use Rattle.sql_rows.specs.Texts.{session_hold_at}
use Rattle.sql_rows.proofs.lists.Rising.{ascends_map}
use Rattle.sql_rows.proofs.session_hold_rows.session_holds_from.Goals as goal

pub returns-clause-order : goal.returns-clause-order
returns-clause-order c =
    ascends_map session_hold_before session_hold_at c.rows.holds.items (search rules)
