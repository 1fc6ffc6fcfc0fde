use Rattle.sqlite.specs.Held.{state}
use Rattle.sql_keeper.proofs.reads.Told.{made_of, one_tells}
use Rattle.sql_keeper.proofs.seen_first.read_never.Goals as goal

pub returns : goal.returns
returns g c =
    made_of _ _ (state g.S.Store c.args.conn.now) (state g.S.Store c.read_head_counters.new.conn)
    _ (one_tells _ _ _ c.in_ok-head.field-0 c.in_ok-head.ensures.reads) (λ trees told. told)
