use Rattle.std.proofs.Common.{rules}
use Rattle.sqlite_trees.specs.Tree.{Trees}
use Rattle.sqlite.specs.Held.{state}
use Rattle.sql_tables.specs.Schema.{accounts, buckets, charges}
use Rattle.sql_rules.specs.Beside.{NoneWrong, is_ahead, is_bucket_ahead}
use Rattle.sql_rules.proofs.Steps.{ours_then, tells_not, tells_then}
use Rattle.sql_rules.proofs.pairs.numbers_pass.Goals as goal

abbrev AreBoth : Trees → Type 0
AreBoth trees = NoneWrong is_ahead accounts charges trees
    × NoneWrong is_bucket_ahead accounts buckets trees

pub returns-in_err-charges_pass : goal.returns-in_err-charges_pass
returns-in_err-charges_pass g c =
    tells_not (NoneWrong is_ahead accounts charges) AreBoth (λ t w. w.0)
    (state g.S.Store c.args.conn.now) (state g.S.Store c.charges_pass.new.conn)
    c.in_err-charges_pass.field-0.0 c.from_residual.result (search rules)
    c.in_err-charges_pass.ensures

pub buckets_pass-requires-clause-ours : goal.buckets_pass-requires-clause-ours
buckets_pass-requires-clause-ours g c =
    ours_then (NoneWrong is_ahead accounts charges) c.args.version
    (state g.S.Store c.args.conn.now) (state g.S.Store c.charges_pass.new.conn)
    c.in_ok-charges_pass.field-0 c.in_ok-charges_pass.ensures c.requires.ours

pub returns : goal.returns
returns g c =
    tells_then (NoneWrong is_ahead accounts charges) (NoneWrong is_bucket_ahead accounts buckets)
    AreBoth (λ t p q. (p, q)) (λ t w. w.1)
    (state g.S.Store c.args.conn.now) (state g.S.Store c.charges_pass.new.conn)
    (state g.S.Store c.buckets_pass.new.conn) c.in_ok-charges_pass.field-0
    c.buckets_pass.result c.in_ok-charges_pass.ensures c.buckets_pass.ensures
