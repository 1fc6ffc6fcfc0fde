use Rattle.std.proofs.Common.{sym, ◌∙◌}
use Rattle.sqlite.specs.Held.{state}
use Rattle.sql_keeper.specs.Content.{shelf_names}
use Rattle.sql_keeper.proofs.kept.KeptRows.{still_kept}
use Rattle.sql_keeper.proofs.kept.SeenRows.{seen_after}
use Rattle.sql_keeper.proofs.reads.Told.{made_of, several_tell, tell_both}
use Rattle.sql_keeper.proofs.live_rows.read_rows_at.Goals as goal

pub live_rows_of-requires-clause-kept : goal.live_rows_of-requires-clause-kept
live_rows_of-requires-clause-kept g c =
    still_kept (shelf_names c.args.names.now) c.args.kept.now (state g.S.Store c.args.conn.now)
    (state g.S.Store c.read_first.new.conn) c.requires.kept c.in_ok-head.ensures.reads.only

pub returns-in_default-clause-reads : goal.returns-in_default-clause-reads
returns-in_default-clause-reads g c =
    made_of _ _ (state g.S.Store c.args.conn.now) (state g.S.Store c.read_first.new.conn) _
    (several_tell _ _ _ c.in_ok-head.field-0 c.in_ok-head.ensures.reads)
    (λ trees first. sym first.head_is ∙ c.in_default.is)

pub returns-in_err-rows-clause-seen : goal.returns-in_err-rows-clause-seen
returns-in_err-rows-clause-seen g c =
    seen_after c.read_first.new.seen (state g.S.Store c.read_first.new.conn)
    (state g.S.Store c.live_rows_of.new.conn) c.in_ok-head.ensures.seen
    c.in_err-rows.ensures.only

pub returns-clause-reads : goal.returns-clause-reads
returns-clause-reads g c =
    made_of _ _ (state g.S.Store c.args.conn.now) (state g.S.Store c.live_rows_of.new.conn) _
    (tell_both _ _ (state g.S.Store c.args.conn.now) (state g.S.Store c.read_first.new.conn)
    (state g.S.Store c.live_rows_of.new.conn)
    (several_tell _ _ _ c.in_ok-head.field-0 c.in_ok-head.ensures.reads)
    (several_tell _ _ _ c.in_ok-rows.rows c.in_ok-rows.ensures))
    (λ trees told. (
      sym told.0.head_is ∙ c.in-Some.is,
      told.1,
      told.0.counters_are c.args.shelf.now c.book_at-book.ensures.value,
    ))

pub returns-clause-seen : goal.returns-clause-seen
returns-clause-seen g c =
    seen_after c.read_first.new.seen (state g.S.Store c.read_first.new.conn)
    (state g.S.Store c.live_rows_of.new.conn) c.in_ok-head.ensures.seen
    c.in_ok-rows.ensures.only
