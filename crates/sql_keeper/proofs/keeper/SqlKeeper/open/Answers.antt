use Rattle.std.proofs.Common.{refl}
use Rattle.std.specs.String.{string_bytes}
use Rattle.sql_keeper.proofs.openings.Made.{ruled_read}
use Rattle.sql_keeper.proofs.openings.Opens.{opened}
use Rattle.sql_keeper.proofs.keeper.SqlKeeper.open.Goals as goal

pub keeper_of-requires-clause-read : goal.keeper_of-requires-clause-read
keeper_of-requires-clause-read g c = λ clean.
    let it = c.in-Ok.ensures.finds.found clean in ruled_read _ _ it.0 it.3

pub returns-in-Ok-clause-opened : goal.returns-in-Ok-clause-opened
returns-in-Ok-clause-opened g c =
    let finds = c.in-Ok.ensures.finds in
    opened g.S.Store c.keeper_of.result.0 c.ruled_books_in.new.conn c.keeper_of.result.1
    c.in-Ok.read.given c.in-Ok.read.own (string_bytes c.in-Ok.read.text)
    (string_bytes c.in-Ok.read.text) c.keeper_of.ensures.connection
    c.keeper_of.ensures.shelf finds.given c.keeper_of.ensures.own c.keeper_of.ensures.text
    c.keeper_of.ensures.uncounted finds.read refl c.args.connection
    (λ clean. let it = finds.found clean in (it.1, it.2, it.3)) finds.survives
    c.keeper_of.ensures.kept
