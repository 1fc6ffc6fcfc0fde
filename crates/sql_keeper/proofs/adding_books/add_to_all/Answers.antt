use Rattle.std.proofs.lemmas.Result.{err_from_is_err_and}
use Rattle.sqlite.specs.Held.{state}
use Rattle.sql_keeper.proofs.shelf.AddedBooks.{all_added, none_written}
use Rattle.sql_keeper.proofs.adding_books.add_to_all.Goals as goal

pub returns-in_err-write_last-clause-adds : goal.returns-in_err-write_last-clause-adds
returns-in_err-write_last-clause-adds g c =
    let p = err_from_is_err_and c.from_residual-in_err-write_last.result
    c.from_residual-in_err-write_last.ensures.1 in
    let tested = c.in_ok-still_open.ensures in
    rw p.1 (none_written c.args.from c.args.text.now c.args.books.own
    (state g.S.Store c.args.conn.now) (state g.S.Store c.still_open.new.conn) c.args.shelf.now
    c.args.own.now tested.only tested.survives
    (state g.S.Store c.write_last.new.conn) (λ clean. (tested.answered clean).1) c.args.last
    (λ clean. c.requires.last (tested.only.cleanness clean) (tested.answered clean).0)
    c.shelve.new.shelf c.shelve.new.own
    (c.in-Ok.ensures.free c.if-not-is_added.false)
    (c.in-Ok.ensures.added c.if-not-is_added.false) _ _ c.write_last.new.shelf c.write_last.new.own
    c.in_err-write_last.ensures.taken c.in_err-write_last.ensures.commits)

pub returns-clause-adds : goal.returns-clause-adds
returns-clause-adds g c =
    let tested = c.in_ok-still_open.ensures in
    all_added c.args.from c.args.text.now c.args.books.own (state g.S.Store c.args.conn.now)
    (state g.S.Store c.still_open.new.conn) c.args.shelf.now c.args.own.now tested.only
    tested.survives (state g.S.Store c.write_last.new.conn) (λ clean. (tested.answered clean).1)
    c.args.last
    (λ clean. c.requires.last (tested.only.cleanness clean) (tested.answered clean).0)
    c.shelve.new.shelf
    c.shelve.new.own (c.in-Ok.ensures.free c.if-not-is_added.false)
    (c.in-Ok.ensures.added c.if-not-is_added.false) _ c.write_last.new.shelf
    c.write_last.new.own c.in_ok-write_last.ensures.kept.0 c.in_ok-write_last.ensures.kept.1
    c.in_ok-write_last.ensures.commits
