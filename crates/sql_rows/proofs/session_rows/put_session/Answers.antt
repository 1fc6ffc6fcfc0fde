use Rattle.std.proofs.Common.{Ok}
use Rattle.sql_rows.proofs.puts.PutSession.{makes_session}
use Rattle.sql_rows.proofs.writes.Writes.{ran_with}
use Rattle.sql_rows.proofs.session_rows.put_session.Goals as goal

pub returns : goal.returns
returns g c = record {
  same_reference = c.in_ok-write_session.ensures.same_reference;
  makes = makes_session c.args.account.now c.args.session.now _ _ (Ok tt) c.requires.tables
      (ran_with _ _ _ _ c.in_ok-write_session.field-0 c.in_ok-write_session.ensures.makes tt);
}
