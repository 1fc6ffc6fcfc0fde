use Rattle.std.proofs.Common.{rules, ◌≡◌, ◌+◌, Ok, subst, arith}
use Rattle.sqlite.specs.declared.error.Error.{Error}
use Rattle.sqlite.specs.Held.{state}
use Rattle.sql_tables.specs.Stages.{Adds}
use Rattle.sql_tables.specs.Statements.{Attempts}
use Rattle.sql_tables.proofs.Stages.{adds_then, answered}
use Rattle.sql_tables.proofs.creating.create_between.Goals as goal

pub loop-place-preserved : goal.loop-place-preserved
loop-place-preserved g c = record {
  low = omega (arith, c.loop-place.invariant.low);
  same = search rules;
  makes = adds_then c.args.from c.loop-place.place (c.loop-place.place + 1)
      (omega (arith, c.loop-place.invariant.low)) (omega arith)
      (state g.S.Store c.args.tx.now.conn.now) (state g.S.Store c.loop-place.tx.conn.now)
      (state g.S.Store c.create-in-loop-place.new.tx.conn.now) 0 c.in_ok-create-2.field-0
      c.loop-place.invariant.makes c.in_ok-create-2.ensures.makes;
}

pub returns-clause-makes : goal.returns-clause-makes
returns-clause-makes g c =
    let last : c.loop-place.place ≡ c.args.to =
    omega (arith, c.loop-place-test.false, c.loop-place.auto.place-end, c.requires.some) in
    subst (λ m. Attempts {A = Unit {0}} {E = Error} (Adds c.args.from m)
    (state g.S.Store c.args.tx.now.conn.now) (state g.S.Store c.loop-place.tx.conn.now) (Ok tt)) last
    (answered c.args.from c.loop-place.place (state g.S.Store c.args.tx.now.conn.now)
    (state g.S.Store c.loop-place.tx.conn.now) 0 tt c.loop-place.invariant.makes)
