use Rattle.sqlite.specs.Held.{state}
use Rattle.sql_keeper.proofs.reads.BucketNumbers.{none_there, not_new, one_there}
use Rattle.sql_keeper.proofs.bucket_numbers.test_bucket.Goals as goal

pub returns-then-number-first : goal.returns-then-number-first
returns-then-number-first g c =
    not_new c.args.account.now c.args.first c.args.bucket.now c.number-number.result
    c.number-number.ensures (state g.S.Store c.args.conn.now) c.requires.idle c.if-number-first.true

pub returns-in-None : goal.returns-in-None
returns-in-None g c =
    none_there c.args.account.now c.args.first c.args.bucket.now c.number-number.result
    c.number-number.ensures (state g.S.Store c.args.conn.now)
    (state g.S.Store c.read_bucket.new.conn) c.in_ok-row.row c.in-None.is c.in_ok-row.ensures.reads

pub returns-in-Some : goal.returns-in-Some
returns-in-Some g c =
    one_there c.args.account.now c.args.first c.args.bucket.now c.number-number.result
    c.number-number.ensures (state g.S.Store c.args.conn.now)
    (state g.S.Store c.read_bucket.new.conn) c.in_ok-row.row _ c.in_ok-row.ensures.reads
