use Rattle.sql_keeper.specs.Content.{shelf_names}
use Rattle.sql_keeper.specs.Writes.{with_groups_put, with_money}
use Rattle.sql_keeper.proofs.puts.Puts.{makes_failed, puts_groups}
use Rattle.sql_keeper.proofs.putting.put_named.Goals as goal

pub returns : goal.returns
returns g c =
    let a = c.args.account.now in
    let known = c.args.known.now in
    puts_groups a (with_money a known.kept.now c.args.rows.now)
    (with_groups_put a (shelf_names c.args.books.now) known.are_new known.seen.now)
    c.sessions.result.now c.args.rows.now.sessions c.groups.result.now c.args.rows.now.groups
    c.sessions.ensures c.groups.ensures c.in_ok-put_named_money.ensures
    c.in_ok-put_sessions_of.ensures c.put_groups_of.ensures

pub returns-in_err-put_sessions_of : goal.returns-in_err-put_sessions_of
returns-in_err-put_sessions_of g c =
    makes_failed c.from_residual-in_err-put_sessions_of.ensures.0 c.in_ok-put_named_money.ensures
    c.in_err-put_sessions_of.ensures
