use Rattle.sqlite.specs.Held.{state}
use Rattle.sql_keeper.proofs.reads.Told.{made_of, several_tell, tell_both}
use Rattle.sql_keeper.proofs.live_rows.read_live_rows.Goals as goal

pub returns : goal.returns
returns g c =
    made_of _ _ (state g.S.Store c.args.conn.now) (state g.S.Store c.read_open_sessions.new.conn) _
    (tell_both _ _ (state g.S.Store c.args.conn.now) (state g.S.Store c.read_purse.new.conn)
    (state g.S.Store c.read_open_sessions.new.conn)
    (several_tell _ _ _ c.in_ok-purse.purse c.in_ok-purse.ensures)
    (several_tell _ _ _ c.in_ok-sessions.field-0 c.in_ok-sessions.ensures))
    (λ trees told. record {
      told = record { buckets = told.0; sessions = told.1.sessions; groups = told.1.groups.told };
      grants = told.1.groups.grants;
    })
