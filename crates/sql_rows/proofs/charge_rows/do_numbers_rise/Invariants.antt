use Rattle.std.proofs.Common.{drop}
use Rattle.std.specs.Option.{option_map}
use Rattle.sql_rows.specs.Lists.{NumbersRise}
use Rattle.sql_rows.proofs.lists.Rising.{RiseAfter}
use Rattle.sql_rows.proofs.charge_rows.do_numbers_rise.Given as goal

abbrev pub invariant-rows : goal.invariant-rows
invariant-rows l =
    RiseAfter (λ x. x.number) (option_map (λ b. b.now) l.last) (drop l.charge-index l.charges)
    → NumbersRise l.charges
