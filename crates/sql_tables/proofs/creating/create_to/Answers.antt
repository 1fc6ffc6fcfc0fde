use Rattle.std.proofs.Common.{arith}
use Rattle.sqlite.specs.Held.{state}
use Rattle.sql_tables.proofs.Versions.{builds_to, few_pieces, some_pieces}
use Rattle.sql_tables.proofs.creating.create_to.Goals as goal

pub create_between-requires-clause-some : goal.create_between-requires-clause-some
create_between-requires-clause-some g c =
    let some = some_pieces c.args.version c.requires.known in
    omega (arith, c.pieces_to.ensures, some)

pub create_between-requires-clause-most : goal.create_between-requires-clause-most
create_between-requires-clause-most g c =
    let few = few_pieces c.args.version c.requires.known in
    omega (arith, c.pieces_to.ensures, few)

pub returns-clause-makes : goal.returns-clause-makes
returns-clause-makes g c =
    builds_to c.args.version c.pieces_to.result c.requires.known c.pieces_to.ensures
    (state g.S.Store c.args.tx.now.conn.now) (state g.S.Store c.create_between.new.tx.conn.now)
    c.create_between.result c.create_between.ensures.makes
