use Rattle.std.proofs.Common.{subst}
use Rattle.std.specs.Prelude.{IfSome}
use Rattle.sqlite.specs.Held.{state}
use Rattle.sql_rows.specs.Content.{rows_in}
use Rattle.sql_keeper.specs.Seen.{IsStanding}
use Rattle.sql_keeper.proofs.kept.SeenRows.{told_seen}
use Rattle.sql_keeper.proofs.settling.find_standing.Goals as goal

pub returns-in-Some : goal.returns-in-Some
returns-in-Some g c =
    told_seen (λ trees x. IsStanding (rows_in trees c.args.account.now) c.args.session.now x)
    c.args.seen.now c.in-Some.standing (state g.S.Store c.args.conn.now) c.requires.idle
    c.requires.seen
    (λ trees seen. subst (λ o. IfSome o
    (IsStanding (rows_in trees c.args.account.now) c.args.session.now)) c.in-Some.is
    (c.standing_seen.ensures trees seen))
