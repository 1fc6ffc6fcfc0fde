use Rattle.std.proofs.Common.{arith, refl}
use Rattle.std.specs.Prelude.{filter}
use Rattle.reserving.specs.declared.session.Session.{Session}
use Rattle.reserving.specs.Left.{first_of}
use Rattle.reserving.specs.Sessions.{is_open, is_session, session_in}
use Rattle.sql_keeper.proofs.puts.RowsAdded.{all_with, next_with}
use Rattle.sql_keeper.proofs.replaced_rows.add_sessions.Goals as goal

pub loop-row-init : goal.loop-row-init
loop-row-init c = λ s. refl

pub loop-row-preserved : goal.loop-row-preserved
loop-row-preserved c = λ s.
    next_with (is_session s) (λ (x : Session). is_open x.state) c.args.named.now
    c.loop-row.row-index c.row-item.result c.loop-row.rows.items c.add_session.new.rows.items
    (first_of (session_in s c.args.rows.now.items)
    (session_in s (filter (λ (x : Session). is_open x.state) c.args.named.now)))
    (omega arith) c.row-item.is (c.loop-row.invariant s) (c.in_ok-add_session.ensures s)

pub returns : goal.returns
returns c = λ s.
    all_with (is_session s) (λ (x : Session). is_open x.state) c.args.named.now
    c.loop-row.row-index c.loop-row.rows.items
    (first_of (session_in s c.args.rows.now.items)
    (session_in s (filter (λ (x : Session). is_open x.state) c.args.named.now)))
    (omega arith) (c.loop-row.invariant s)
