use Rattle.sqlite.specs.Held.{state}
use Rattle.sql_tables.specs.declared.reading.ReadFault.TheVariants.{Rules}
use Rattle.sql_keeper.specs.Content.{shelf_names}
use Rattle.sql_keeper.proofs.reads.InTurn.{failed_then, have_gathered}
use Rattle.sql_keeper.proofs.kept.SeenRows.{seen_after}
use Rattle.sql_keeper.proofs.commits.Tested.{tested}
use Rattle.sql_keeper.proofs.settling.test_change.Goals as goal

pub find_change-requires-clause-seen : goal.find_change-requires-clause-seen
find_change-requires-clause-seen g c =
    seen_after c.args.seen.now (state g.S.Store c.args.conn.now)
    (state g.S.Store c.test_bucket_numbers.new.conn) c.requires.seen
    c.in_ok-test_bucket_numbers.ensures.only

pub returns-in_err-found : goal.returns-in_err-found
returns-in_err-found g c =
    failed_then _ (state g.S.Store c.args.conn.now)
    (state g.S.Store c.test_bucket_numbers.new.conn) (state g.S.Store c.find_change.new.conn)
    c.from_residual-in_err-found.result c.from_residual-in_err-found.ensures.0
    (have_gathered _ (state g.S.Store c.args.conn.now)
    (state g.S.Store c.test_bucket_numbers.new.conn) c.in_ok-test_bucket_numbers.field-0
    c.in_ok-test_bucket_numbers.ensures) c.find_change.ensures.only c.find_change.ensures.survives

pub returns : goal.returns
returns g c =
    tested (shelf_names c.args.books.now) c.args.change.now c.buckets.result.now
    c.in_ok-found.found c.in_ok-test_bucket_numbers.field-0 Rules c.told.result
    (state g.S.Store c.args.conn.now) (state g.S.Store c.test_bucket_numbers.new.conn)
    (state g.S.Store c.find_change.new.conn) c.buckets.ensures c.told.ensures
    c.requires.idle c.schema-ours.ensures.live c.in_ok-test_bucket_numbers.ensures
    c.in_ok-found.ensures
