use Rattle.std.proofs.Common.{refl}
use Rattle.sql_rows.specs.Values.{plain_charge}
use Rattle.sql_rows.proofs.puts.AddCharge.{adds_charge}
use Rattle.sql_rows.proofs.charge_rows.add_charge.Goals as goal

pub returns-clause-adds : goal.returns-clause-adds
returns-clause-adds g c =
    adds_charge c.args.account.now (plain_charge c.args.charge.now) refl _ _
    c.in_ok-count.count c.requires.tables c.in_ok-count.ensures.makes
