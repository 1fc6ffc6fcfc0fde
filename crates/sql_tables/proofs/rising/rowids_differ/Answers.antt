use Rattle.std.proofs.Common.{arith}
use Rattle.sqlite.specs.Held.{state}
use Rattle.sqlite.specs.State.{HasCleanDisk}
use Rattle.sql_tables.specs.Rises.{AreRising}
use Rattle.sql_tables.proofs.Ascents.{rising_stored}
use Rattle.sql_tables.proofs.OpeningSteps.{stored_next, told_twice}
use Rattle.sql_tables.proofs.rising.rowids_differ.Goals as goal

pub returns-in-Ok-true : goal.returns-in-Ok-true
returns-in-Ok-true g c = λ k next so. record {
  found = λ clean.
      let rise = c.in-Ok-true.ensures.rise clean in
      let same = c.in-Ok-true.ensures.same clean in
      let was : HasCleanDisk (state g.S.Store c.args.conn.now) =
      omega (arith, c.in-Ok-true.ensures.crash.clean, clean) in
      let up = rising_stored rise.1 (rise.4 c.in-Ok-true.field-0-test) in (
        same,
        stored_next g.S.Store c.args.version c.args.sql.now k next c.args.conn.now rise.0
            (state g.S.Store c.are_rising.new.conn) rise.1 rise.2 rise.3 up same (so was),
      );
  told = tt;
  means = λ clean. tt;
  spares = c.in-Ok-true.ensures.spares;
  survives = c.in-Ok-true.ensures.crash;
}

pub returns-in-Ok-false : goal.returns-in-Ok-false
returns-in-Ok-false g c = λ k next so. record {
  found = λ clean. tt;
  told = (λ is. absurd (cc is), λ is. absurd (cc is));
  means = λ clean.
      let rise = c.in-Ok-false.ensures.rise clean in
      let was : HasCleanDisk (state g.S.Store c.args.conn.now) =
      omega (arith, c.in-Ok-false.ensures.crash.clean, clean) in
      let falls : ¬ AreRising rise.1 = λ up. let yes' = rise.5 up in
      cc (yes', c.in-Ok-false.field-0-test) in (
        c.args.version,
        c.requires.known,
        (so was).schema,
        told_twice g.S.Store c.args.version c.args.sql.now k next c.args.conn.now rise.0
            (state g.S.Store c.are_rising.new.conn) rise.1 rise.2 rise.3 falls (so was),
      );
  spares = c.in-Ok-false.ensures.spares;
  survives = c.in-Ok-false.ensures.crash;
}

pub returns-in-Err : goal.returns-in-Err
returns-in-Err g c = λ k next so. record {
  found = λ clean. tt;
  told = c.fault_of.ensures.told;
  means = λ clean. c.fault_of.ensures.means (state g.S.Store c.args.conn.now).now;
  spares = c.in-Err.ensures.spares;
  survives = c.in-Err.ensures.crash;
}
