use Rattle.std.proofs.Common.{rules}
use Rattle.sql_tables.proofs.Versions.{builds_each}
use Rattle.sql_tables.proofs.creating.create_each.Goals as goal

pub returns : goal.returns
returns g c = record {
  same_reference = search rules;
  makes = builds_each c.pieces_to.result c.pieces_to.ensures _ _ _ c.create_between.ensures.makes;
}
