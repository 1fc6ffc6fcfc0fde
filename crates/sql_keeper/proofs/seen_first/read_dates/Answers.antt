use Rattle.sqlite.specs.Held.{state}
use Rattle.sql_keeper.proofs.reads.Told.{made_of, one_tells}
use Rattle.sql_keeper.proofs.seen_first.read_dates.Goals as goal

pub returns : goal.returns
returns g c =
    made_of _ _ (state g.S.Store c.args.conn.now) (state g.S.Store c.read_head_cycles.new.conn) _
    (one_tells _ _ _ c.in_ok-read.read c.in_ok-read.ensures.reads)
    (λ trees told. record {
      head = told.0;
      never = told.1;
      daily = λ asked. told.2;
      monthly = λ asked. told.3;
    })
