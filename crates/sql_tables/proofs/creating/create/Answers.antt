use Rattle.sqlite.specs.Held.{state}
use Rattle.sql_tables.proofs.Pieces.{made_at}
use Rattle.sql_tables.proofs.creating.create.Goals as goal

pub returns-clause-makes : goal.returns-clause-makes
returns-clause-makes g c =
    made_at c.args.place c.piece_text.result.now c.requires.place c.piece_text.ensures
    (state g.S.Store c.args.tx.now.conn.now) (state g.S.Store c.write.new.tx.conn.now)
    c.write.result c.requires.stage c.write.ensures.runs
