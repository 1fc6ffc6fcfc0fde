use Rattle.std.proofs.Common.{Ok}
use Rattle.sql_rows.proofs.puts.PutCounter.{makes_counter}
use Rattle.sql_rows.proofs.writes.Writes.{ran_with}
use Rattle.sql_rows.proofs.counter_rows.insert_counter.Goals as goal

pub returns : goal.returns
returns g c = record {
  same_reference = c.in_ok-write_counter.ensures.same_reference;
  makes = makes_counter c.args.account.now c.args.counter.now _ _
      (Ok tt) c.requires.tables
      (ran_with _ _ _ _ c.in_ok-write_counter.field-0 c.in_ok-write_counter.ensures.makes tt);
}
