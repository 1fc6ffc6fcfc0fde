use Rattle.std.proofs.Common.{◌≡◌, Some, subst, sym}
use Rattle.std.specs.Prelude.{IfSome}
use Rattle.sqlite.specs.Held.{state}
use Rattle.sql_rows.specs.Content.{rows_in}
use Rattle.sql_rows.specs.declared.head.HeadColumns.{HeadColumns}
use Rattle.sql_keeper.proofs.kept.SeenRows.{told_seen}
use Rattle.sql_keeper.proofs.settling.find_head.Goals as goal

pub returns-in-Some : goal.returns-in-Some
returns-in-Some g c =
    told_seen (λ trees o. o ≡ (rows_in trees c.args.account.now).head)
    c.args.seen.now (Some c.in-Some.head) (state g.S.Store c.args.conn.now) c.requires.idle
    c.requires.seen
    (λ trees seen. sym (subst (λ o. IfSome o
    (λ (h : HeadColumns). (rows_in trees c.args.account.now).head ≡ Some h)) c.in-Some.is
    (c.head_seen.ensures trees seen)))
