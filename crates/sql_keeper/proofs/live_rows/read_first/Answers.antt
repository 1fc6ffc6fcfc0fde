use Rattle.std.proofs.lemmas.Result.{IfOk-weaker}
use Rattle.sqlite.specs.Held.{state}
use Rattle.sql_rows.specs.Content.{rows_in}
use Rattle.sql_keeper.proofs.reads.InTurn.{gathers_made}
use Rattle.sql_keeper.proofs.reads.Repeating.{first_told}
use Rattle.sql_keeper.proofs.live_rows.read_first.Goals as goal

pub returns-clause-reads : goal.returns-clause-reads
returns-clause-reads g c =
    gathers_made _ _ (state g.S.Store c.args.conn.now) (state g.S.Store c.find_first.new.conn)
    c.in_ok-read.read c.first_rows.result c.in_ok-read.ensures.reads
    (λ trees found. IfOk-weaker c.first_rows.result _ _ (λ x is.
    first_told c.args.book.now c.args.moment c.cycles_at-asked.result
    (rows_in trees c.args.account.now) c.in_ok-read.read x c.cycles_at-asked.ensures found is)
    c.first_rows.ensures)
