use Rattle.sql_keeper.proofs.migrations.Moved.{any_idle, any_open, any_read, is_migrated}
use Rattle.sql_keeper.proofs.keeper.SqlKeeper.migrate.Goals as goal

pub keeper_of-requires-clause-idle : goal.keeper_of-requires-clause-idle
keeper_of-requires-clause-idle g c = any_idle _ _ c.in-Ok.read c.in-Ok.ensures.finds

pub keeper_of-requires-clause-open : goal.keeper_of-requires-clause-open
keeper_of-requires-clause-open g c = any_open _ _ c.in-Ok.read c.in-Ok.ensures.finds

pub keeper_of-requires-clause-read : goal.keeper_of-requires-clause-read
keeper_of-requires-clause-read g c = any_read _ _ c.in-Ok.read c.in-Ok.ensures.finds

pub returns-in-Ok-clause-migrated : goal.returns-in-Ok-clause-migrated
returns-in-Ok-clause-migrated g c =
    is_migrated g.S.Store c.keeper_of.result.0 c.books_of_any.new.conn c.args.connection
    c.keeper_of.result.1 c.in-Ok.read c.keeper_of.ensures.connection c.keeper_of.ensures.shelf
    c.keeper_of.ensures.own c.keeper_of.ensures.text c.keeper_of.ensures.uncounted
    c.keeper_of.ensures.kept c.in-Ok.ensures.finds
