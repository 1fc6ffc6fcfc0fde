use Rattle.std.proofs.Common.{◌∙◌}
use Rattle.std.specs.String.{string_bytes}
use Rattle.sqlite.specs.Held.{state}
use Rattle.sql_keeper.proofs.openings.Made.{created_read}
use Rattle.sql_keeper.proofs.openings.Opens.{created, not_created}
use Rattle.sql_keeper.proofs.keeper.SqlKeeper.create.Goals as goal

pub keeper_of-requires-clause-read : goal.keeper_of-requires-clause-read
keeper_of-requires-clause-read g c =
    created_read c.args.text.now (state g.S.Store c.args.connection)
    (state g.S.Store c.make_tables.new.conn) c.in-Ok-make_tables.field-0 c.in-Ok.read
    c.in-Ok-make_tables.ensures.creates c.in-Ok.ensures.alone c.in-Ok.ensures.text
    (c.in-Ok.ensures.last ∙ c.first.ensures)

pub returns-in-Ok-make_tables-clause-created : goal.returns-in-Ok-make_tables-clause-created
returns-in-Ok-make_tables-clause-created g c =
    created g.S.Store c.keeper_of.result.0 c.make_tables.new.conn c.keeper_of.result.1
    c.in-Ok.read.given c.in-Ok.read.own c.args.text.now
    (string_bytes c.in-Ok.read.text) c.keeper_of.ensures.connection
    c.keeper_of.ensures.shelf c.in-Ok.ensures.given c.keeper_of.ensures.own
    c.keeper_of.ensures.text
    c.keeper_of.ensures.uncounted c.in-Ok.ensures.alone.first c.in-Ok.ensures.text
    c.args.connection
    c.in-Ok-make_tables.field-0 c.in-Ok.ensures.alone c.in-Ok-make_tables.ensures.blank
    c.in-Ok-make_tables.ensures.plain c.in-Ok-make_tables.ensures.creates
    c.keeper_of.ensures.kept

pub returns-in-Err-make_tables-clause-refused : goal.returns-in-Err-make_tables-clause-refused
returns-in-Err-make_tables-clause-refused g c =
    not_created g.S.Store c.args.text.now c.args.connection c.make_tables.new.conn
    c.in-Err-make_tables.fault _
    (c.in-Err-make_tables.ensures.told (c.in-Ok.read.own.first, c.in-Ok.ensures.alone.first))
    c.in-Err-make_tables.ensures.mode c.in-Err-make_tables.ensures.creates
