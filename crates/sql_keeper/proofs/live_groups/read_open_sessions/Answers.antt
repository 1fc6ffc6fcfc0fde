use Rattle.std.proofs.Common.{◌∙◌, sym}
use Rattle.sqlite.specs.Held.{state}
use Rattle.reserving.proofs.Lists.{is_nothing}
use Rattle.sql_rows.specs.Content.{rows_in}
use Rattle.sql_keeper.specs.Content.{shelf_names}
use Rattle.sql_keeper.proofs.reads.InTurn.{gathers_from, have_read}
use Rattle.sql_keeper.proofs.loads.LiveGroups.{none_open}
use Rattle.sql_keeper.proofs.live_groups.read_open_sessions.Goals as goal

pub returns-then-is_none : goal.returns-then-is_none
returns-then-is_none g c =
    gathers_from _ (state g.S.Store c.args.conn.now)
    (state g.S.Store c.read_sessions_open.new.conn) _
    (have_read _ _ _ _ c.in_ok-sessions.ensures.reads)
    (λ clean on. none_open (shelf_names c.args.books.now)
    (rows_in (state g.S.Store c.args.conn.now).now.trees c.args.account.now)
    c.in_ok-sessions.sessions.items c.new.result.items
    (sym c.deref.ensures.value ∙ is_nothing c.deref.result.now (sym c.if-is_none.ensures))
    c.new.ensures.items (c.in_ok-sessions.ensures.reads.found clean))
