use Rattle.std.proofs.Common.{refl, sym, arith, ltb-true, ltb-false}
use Rattle.sqlite.specs.Held.{state}
use Rattle.sql_keeper.proofs.migrations.Granted.{grants_at, grants_none, unruled_at}
use Rattle.sql_keeper.proofs.migrating.put_all_numbers.Goals as goal

pub returns-then-has_no_numbers-clause-over : goal.returns-then-has_no_numbers-clause-over
returns-then-has_no_numbers-clause-over g c =
    let v = c.args.version in
    let low = ltb-true v 2 (sym c.if-has_no_numbers.ensures) in
    grants_at v c.requires.known low c.put_first_numbers.ensures.over

pub returns-then-has_no_numbers-clause-refused : goal.returns-then-has_no_numbers-clause-refused
returns-then-has_no_numbers-clause-refused g c =
    let v = c.args.version in
    let low = ltb-true v 2 (sym c.if-has_no_numbers.ensures) in
    unruled_at v c.requires.known low (state g.S.Store c.args.tx.now.conn.now)
    (state g.S.Store c.put_first_numbers.new.tx.conn.now) c.put_first_numbers.result
    c.put_first_numbers.ensures.refused

pub returns-clause-over : goal.returns-clause-over
returns-clause-over g c =
    let v = c.args.version in
    let high = ltb-false v 2 (sym c.if-has_no_numbers.ensures) in
    record {
      same_reference = refl;
      makes = grants_none v _ _ (omega (arith, high)) c.requires.open c.requires.tables;
    }
