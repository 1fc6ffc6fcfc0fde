use Rattle.std.proofs.Common.{subst}
use Rattle.std.specs.Prelude.{IfSome}
use Rattle.sqlite.specs.Held.{state}
use Rattle.sql_rows.specs.Content.{rows_in}
use Rattle.sql_keeper.specs.Content.{shelf_names}
use Rattle.sql_keeper.specs.KeptRows.{AreOf}
use Rattle.sql_keeper.proofs.kept.KeptRows.{told_kept}
use Rattle.sql_keeper.proofs.live_rows.live_rows_of.Goals as goal

pub returns-in-Some : goal.returns-in-Some
returns-in-Some g c =
    told_kept (shelf_names c.args.names.now)
    (λ trees. AreOf (shelf_names c.args.names.now) (rows_in trees c.args.account.now))
    c.args.kept.now c.in-Some.rows (state g.S.Store c.args.conn.now) c.requires.idle
    c.requires.kept
    (λ trees keeps. subst (λ o. IfSome o
    (AreOf (shelf_names c.args.names.now) (rows_in trees c.args.account.now))) c.in-Some.is
    (c.copy_of_kept.ensures (shelf_names c.args.names.now) trees keeps))
