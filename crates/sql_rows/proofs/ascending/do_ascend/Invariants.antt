use Rattle.std.proofs.Common.{drop}
use Rattle.std.specs.Option.{option_map}
use Rattle.sql_rows.specs.Lists.{Ascends}
use Rattle.sql_rows.proofs.lists.Rising.{AscendAfter}
use Rattle.sql_rows.proofs.ascending.do_ascend.Given as goal

abbrev pub invariant-rows : goal.invariant-rows
invariant-rows g l =
    (AscendAfter g.T.InOrder.before (option_map (λ b. b.now) l.last) (drop l.row-index l.rows)
    → Ascends g.T.InOrder.before l.rows)
    × (Ascends g.T.InOrder.before l.rows
    → AscendAfter g.T.InOrder.before (option_map (λ b. b.now) l.last) (drop l.row-index l.rows))
