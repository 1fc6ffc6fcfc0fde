use Rattle.std.proofs.Common.{subst, sym}
use Rattle.sqlite.specs.Held.{state}
use Rattle.sql_rows.specs.Content.{rows_in}
use Rattle.sql_keeper.specs.Seen.{Sees}
use Rattle.sql_keeper.specs.SeenFirst.{IsFirstRead}
use Rattle.sql_keeper.proofs.kept.SeenRows.{seen_after, seen_read}
use Rattle.sql_keeper.proofs.seen_first.ask_first.Goals as goal

pub returns-in_err-read-clause-seen : goal.returns-in_err-read-clause-seen
returns-in_err-read-clause-seen g c =
    seen_after c.args.seen.now (state g.S.Store c.args.conn.now)
    (state g.S.Store c.read_asked.new.conn) c.requires.seen c.in_err-read.ensures.only

pub returns-clause-seen : goal.returns-clause-seen
returns-clause-seen g c =
    seen_read (λ trees x. IsFirstRead c.args.asked (rows_in trees c.args.account.now) x)
    c.args.seen.now c.seen_with_first.result (state g.S.Store c.args.conn.now)
    (state g.S.Store c.read_asked.new.conn) c.in_ok-read.read c.requires.seen
    c.in_ok-read.ensures
    (λ trees before told. c.seen_with_first.ensures trees
    (subst (λ o. Sees o trees) (sym c.take-older.ensures.value) before) told)
