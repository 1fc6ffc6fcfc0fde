use Rattle.std.proofs.Common.{Ok, refl}
use Rattle.sql_rows.specs.Values.{plain_charge}
use Rattle.sql_rows.proofs.puts.PutCharge.{makes_charge}
use Rattle.sql_rows.proofs.writes.Writes.{ran_with}
use Rattle.sql_rows.proofs.charge_rows.put_charge.Goals as goal

pub returns : goal.returns
returns g c = record {
  same_reference = c.in_ok-write_charge.ensures.same_reference;
  makes = makes_charge c.args.account.now (plain_charge c.args.charge.now) refl _ _
      (Ok tt) c.requires.tables
      (ran_with _ _ _ _ c.in_ok-write_charge.field-0 c.in_ok-write_charge.ensures.makes tt);
}
