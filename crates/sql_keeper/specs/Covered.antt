-- Charges with the blocks that were covered.
-- Source: profile.
use Rattle.std.specs.Prelude.{List, Option, nat_eq, option_map}
use Rattle.std.specs.List.{find}
use Rattle.units.specs.Words.{BlockCount}
use Rattle.ledger.specs.Words.{ChargeNumber}
use Rattle.ledger.specs.declared.charge.ChargeRow.{ChargeRow}
use Rattle.sql_rows.specs.declared.covered_rows.CoveredColumns.{CoveredColumns}
use Rattle.sql_keeper.specs.Content.{charge_in, covered_in}

-- those of the charge of a number, where a row among those that were read says any
abbrev pub blocks_under : ChargeNumber → List CoveredColumns → Option BlockCount
blocks_under n rows =
    option_map (λ (x : CoveredColumns). x.blocks)
    (find (λ (x : CoveredColumns). nat_eq x.number n) rows)

abbrev pub blocks_of : ChargeNumber → List CoveredColumns → BlockCount
blocks_of n rows = covered_in (blocks_under n rows)

abbrev pub covered_charge : List CoveredColumns → ChargeRow → ChargeRow
covered_charge rows x = charge_in (blocks_under x.number rows) x
