use Rattle.std.proofs.Common.{rules, arith}
use Rattle.sqlite.specs.Held.{state}
use Rattle.sql_tables.proofs.Versions.{has_stage, migrates_from, older, older_pieces}
use Rattle.sql_tables.proofs.creating.create_since.Goals as goal

pub create_between-requires-clause-some : goal.create_between-requires-clause-some
create_between-requires-clause-some g c =
    let few = older_pieces c.args.version c.requires.known.0 c.requires.known.1 in
    omega (arith, c.pieces_to.ensures, c.pieces_to-2.ensures, few)

pub create_between-requires-clause-stage : goal.create_between-requires-clause-stage
create_between-requires-clause-stage g c =
    has_stage c.args.version c.pieces_to.result (older c.args.version c.requires.known)
    c.pieces_to.ensures (state g.S.Store c.args.tx.now.conn.now) c.requires.has

pub returns : goal.returns
returns g c = record {
  same_reference = search rules;
  makes = migrates_from c.args.version c.pieces_to.result c.pieces_to-2.result (older c.args.version c.requires.known)
      c.pieces_to.ensures c.pieces_to-2.ensures (state g.S.Store c.args.tx.now.conn.now)
      (state g.S.Store c.create_between.new.tx.conn.now) c.create_between.result
      c.create_between.ensures.makes;
}
