use Rattle.std.proofs.Common.{rules}
use Rattle.sql_keeper.proofs.migrations.Granted.{grants_rows, still_book, still_inside}
use Rattle.sql_keeper.proofs.migrating.put_first_numbers.Goals as goal

pub put_numbers-requires-clause-open : goal.put_numbers-requires-clause-open
put_numbers-requires-clause-open g c =
    still_inside _ _ _ c.requires.open c.in_ok-rows.ensures.reads.still

pub put_numbers-requires-clause-tables : goal.put_numbers-requires-clause-tables
put_numbers-requires-clause-tables g c =
    still_book _ _ _ c.requires.tables c.in_ok-rows.ensures.reads.still

pub returns-clause-over : goal.returns-clause-over
returns-clause-over g c = record {
  same_reference = search rules;
  makes = grants_rows c.deref.result.now _ _ _ c.in_ok-rows.rows _ _ c.deref.ensures.value
      c.in_ok-rows.ensures.reads c.in_ok-put_numbers.ensures.makes;
}
