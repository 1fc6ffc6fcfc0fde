use Rattle.std.proofs.Common.{arith, refl}
use Rattle.std.specs.Prelude.{filter, is_some}
use Rattle.reserving.specs.declared.session.SessionGroup.{SessionGroup}
use Rattle.reserving.specs.Left.{first_of}
use Rattle.reserving.specs.Sessions.{group_in, is_of, session_in}
use Rattle.sql_keeper.proofs.puts.RowsAdded.{all_with, next_with}
use Rattle.sql_keeper.proofs.replaced_rows.add_groups.Goals as goal

pub loop-row-init : goal.loop-row-init
loop-row-init c = λ s g. refl

pub loop-row-preserved : goal.loop-row-preserved
loop-row-preserved c = λ s g.
    next_with (is_of s g)
    (λ (x : SessionGroup). is_some (session_in x.session c.args.sessions.now.items))
    c.args.named.now c.loop-row.row-index c.row-item.result c.loop-row.rows.items
    c.add_group.new.rows.items
    (first_of (group_in s g c.args.rows.now.items) (group_in s g
    (filter (λ (x : SessionGroup). is_some (session_in x.session c.args.sessions.now.items))
    c.args.named.now)))
    (omega arith) c.row-item.is (c.loop-row.invariant s g) (c.in_ok-add_group.ensures s g)

pub returns : goal.returns
returns c = λ s g.
    all_with (is_of s g)
    (λ (x : SessionGroup). is_some (session_in x.session c.args.sessions.now.items))
    c.args.named.now c.loop-row.row-index c.loop-row.rows.items
    (first_of (group_in s g c.args.rows.now.items) (group_in s g
    (filter (λ (x : SessionGroup). is_some (session_in x.session c.args.sessions.now.items))
    c.args.named.now)))
    (omega arith) (c.loop-row.invariant s g)
