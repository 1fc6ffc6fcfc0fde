use Rattle.std.proofs.Common.{arith}
use Rattle.std.proofs.lemmas.Result.{err_from_is_err_and}
use Rattle.sql_keeper.proofs.commits.Commits.{become_at, free_at}
use Rattle.sqlite.specs.Held.{state}
use Rattle.sql_keeper.proofs.commits.Whole.{untouched, written, not_written}
use Rattle.sql_keeper.proofs.committing.make_change.Goals as goal

pub returns-then-not-is_later-clause-commits : goal.returns-then-not-is_later-clause-commits
returns-then-not-is_later-clause-commits g c =
    untouched _ (state g.S.Store c.args.conn.now) _ c.requires.idle

pub returns-in_err-write_change-clause-commits : goal.returns-in_err-write_change-clause-commits
returns-in_err-write_change-clause-commits g c =
    let p = err_from_is_err_and c.from_residual-in_err-write_change.result
    c.from_residual-in_err-write_change.ensures.1 in
    rw p.1 (not_written _ _ _ _ _ c.in_ok-are_new.ensures.only
    c.in_ok-are_new.ensures.survives
    (become_at _ _ c.args.change.now _ c.as_of-named.ensures.named c.in_ok-texts.ensures.told
    c.in_ok-texts.ensures.rules
    (omega (arith, c.seconds-moment.ensures.in_range, c.seconds-moment.ensures.value))
    (record {
      are_new = c.in_ok-are_new.are_new;
      seen = c.args.seen;
      kept = c.args.kept;
      is_there = c.args.is_there;
    }) _ _ c.in_ok-are_new.ensures.only c.in_ok-are_new.ensures.found c.requires.seen
    c.requires.kept (c.requires.is_there c.if-not-is_later.false)) _ _
    c.in_err-write_change.ensures.transacts)

pub returns-clause-commits : goal.returns-clause-commits
returns-clause-commits g c =
    written _ _ _ _ _ c.in_ok-are_new.ensures.only c.in_ok-are_new.ensures.survives
    (become_at _ _ c.args.change.now _ c.as_of-named.ensures.named c.in_ok-texts.ensures.told
    c.in_ok-texts.ensures.rules
    (omega (arith, c.seconds-moment.ensures.in_range, c.seconds-moment.ensures.value))
    (record {
      are_new = c.in_ok-are_new.are_new;
      seen = c.args.seen;
      kept = c.args.kept;
      is_there = c.args.is_there;
    }) _ _ c.in_ok-are_new.ensures.only c.in_ok-are_new.ensures.found c.requires.seen
    c.requires.kept (c.requires.is_there c.if-not-is_later.false)) _ _
    c.in_ok-write_change.ensures.transacts

pub returns-clause-free : goal.returns-clause-free
returns-clause-free g c = λ clean.
    free_at _ _ c.args.change.now c.as_of-named.ensures.named
    (record {
      are_new = c.in_ok-are_new.are_new;
      seen = c.args.seen;
      kept = c.args.kept;
      is_there = c.args.is_there;
    }) _ _ c.in_ok-are_new.ensures.only c.in_ok-are_new.ensures.found c.requires.seen
    c.requires.kept (c.requires.is_there c.if-not-is_later.false)
    (omega (arith, c.in_ok-write_change.ensures.transacts.survives.clean, clean))
    (c.in_ok-write_change.ensures.transacts.done clean).0
    (c.in_ok-write_change.ensures.free clean)
