use Rattle.std.proofs.Common.{arith, sym}
use Rattle.std.proofs.lemmas.Result.{err_from_is_err_and}
use Rattle.sqlite.specs.Held.{state}
use Rattle.sql_keeper.proofs.commits.Added.{become_added, not_put_at_once, put_at_once}
use Rattle.sql_keeper.proofs.commits.Added.{refused_at_once}
use Rattle.sql_keeper.proofs.added_vouchers.make_addition.Goals as goal

pub returns-in_err-write_addition-clause-commits : goal.returns-in_err-write_addition-clause-commits
returns-in_err-write_addition-clause-commits g c =
    let p = err_from_is_err_and c.from_residual.result c.from_residual.ensures.1 in
    rw p.1 (not_put_at_once _ _ _ _
    (become_added _ _ _ c.args.moment
    (omega (arith, c.seconds-moment.ensures.in_range, c.seconds-moment.ensures.value))
    (sym c.if-not-is_ruled_addition.ensures) c.args.is_there (state g.S.Store c.args.conn.now)
    (c.requires.is_there c.if-not-is_later.false)) _ _
    c.in_err-write_addition.ensures.transacts)

pub returns-clause-commits : goal.returns-clause-commits
returns-clause-commits g c =
    put_at_once _ _ _ _
    (become_added _ _ _ c.args.moment
    (omega (arith, c.seconds-moment.ensures.in_range, c.seconds-moment.ensures.value))
    (sym c.if-not-is_ruled_addition.ensures) c.args.is_there (state g.S.Store c.args.conn.now)
    (c.requires.is_there c.if-not-is_later.false)) _ _
    c.in_ok-write_addition.ensures.transacts

pub returns-then-not-is_later-clause-commits : goal.returns-then-not-is_later-clause-commits
returns-then-not-is_later-clause-commits g c =
    refused_at_once _ (state g.S.Store c.args.conn.now) _ c.requires.idle

pub returns-then-not-is_ruled_addition-clause-commits :
    goal.returns-then-not-is_ruled_addition-clause-commits
returns-then-not-is_ruled_addition-clause-commits g c =
    refused_at_once _ (state g.S.Store c.args.conn.now) _ c.requires.idle
