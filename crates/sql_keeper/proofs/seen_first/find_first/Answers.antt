use Rattle.std.proofs.Common.{subst}
use Rattle.std.specs.Prelude.{IfSome}
use Rattle.sqlite.specs.Held.{state}
use Rattle.sql_rows.specs.Content.{rows_in}
use Rattle.sql_keeper.specs.SeenFirst.{IsFirstRead}
use Rattle.sql_keeper.proofs.kept.SeenRows.{told_seen}
use Rattle.sql_keeper.proofs.seen_first.find_first.Goals as goal

pub returns-in-Some-clause-reads : goal.returns-in-Some-clause-reads
returns-in-Some-clause-reads g c =
    told_seen (λ trees x. IsFirstRead c.args.asked (rows_in trees c.args.account.now) x)
    c.args.seen.now c.in-Some.read (state g.S.Store c.args.conn.now) c.requires.idle
    c.requires.seen
    (λ trees seen. subst (λ o. IfSome o
    (IsFirstRead c.args.asked (rows_in trees c.args.account.now))) c.in-Some.is
    (c.first_seen.ensures trees seen))
