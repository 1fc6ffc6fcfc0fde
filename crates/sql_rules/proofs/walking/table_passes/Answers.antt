use Rattle.std.proofs.Common.{arith, subst, sym}
use Rattle.sqlite.specs.Effect.{Database}
use Rattle.sqlite.specs.Given.{IsPlain}
use Rattle.sqlite.specs.Held.{state}
use Rattle.sqlite.specs.Listing.{understood}
use Rattle.sqlite.specs.State.{HasCleanDisk}
use Rattle.sqlite_schema.specs.declared.schema.Schema.{Schema}
use Rattle.sql_rules.specs.Rules.{passes_at}
use Rattle.sql_rules.specs.Tables.{IsRuledAt}
use Rattle.sql_rules.specs.Walks.{Pass}
use Rattle.sql_rules.proofs.Steps.{table_passes, table_stands}
use Rattle.sql_rules.proofs.Texts.{text_at}
use Rattle.sql_rules.proofs.walking.table_passes.Goals as goal

pub do_pass-requires-clause-plain : goal.do_pass-requires-clause-plain
do_pass-requires-clause-plain g c clean =
    let is = text_at c.args.version c.args.at c.rows_text.result.now c.requires.known
    (c.requires.most clean) c.rows_text.ensures in
    subst (λ (s : Schema). IsPlain (understood s c.rows_text.result.now))
    (sym (c.requires.ours clean)) is.plain

pub returns-in-Ok-true : goal.returns-in-Ok-true
returns-in-Ok-true g c = record {
  found = λ clean.
      let walk = c.in-Ok-true.ensures.walk clean in
      let same = c.in-Ok-true.ensures.same clean in
      let was : HasCleanDisk (state g.S.Store c.args.conn.now) =
      omega (arith, c.in-Ok-true.ensures.crash.clean, clean) in
      let is = text_at c.args.version c.args.at c.rows_text.result.now c.requires.known
      (c.requires.most was) c.rows_text.ensures in
      let here = table_stands g.S.Store c.args.shelf.now c.args.last c.args.version c.args.at
      c.rows_text.result.now is c.args.conn.now walk.0 (state g.S.Store c.do_pass.new.conn) walk.1
      walk.2 walk.3 (c.requires.ours was) (walk.4 c.in-Ok-true.field-0-test) in (
        same,
        subst (λ (d : Database). IsRuledAt c.args.shelf.now c.args.last c.args.at d.trees)
            (sym same.0.now_is) here,
      );
  means = λ clean. tt;
  told = tt;
  spares = c.in-Ok-true.ensures.spares;
  survives = c.in-Ok-true.ensures.crash;
}

pub returns-in-Ok-false : goal.returns-in-Ok-false
returns-in-Ok-false g c = record {
  found = λ clean. tt;
  means = λ clean rules ruled.
      let walk = c.in-Ok-false.ensures.walk clean in
      let was : HasCleanDisk (state g.S.Store c.args.conn.now) =
      omega (arith, c.in-Ok-false.ensures.crash.clean, clean) in
      let is = text_at c.args.version c.args.at c.rows_text.result.now c.requires.known
      (c.requires.most was) c.rows_text.ensures in
      let pass : Pass (passes_at c.args.shelf.now c.args.last c.args.at) walk.1 =
      table_passes g.S.Store c.args.shelf.now c.args.last c.args.version c.args.at c.rows_text.result.now is
      c.args.conn.now walk.0 (state g.S.Store c.do_pass.new.conn) walk.1 walk.2 walk.3
      (c.requires.ours was) ruled in
      let yes' = walk.5 pass in
      cc (yes', c.in-Ok-false.field-0-test);
  told = record {
    ours = λ is. absurd (cc is);
    version = λ is. absurd (cc is);
    latest = λ is. absurd (cc is);
  };
  spares = c.in-Ok-false.ensures.spares;
  survives = c.in-Ok-false.ensures.crash;
}

pub returns-in-Err : goal.returns-in-Err
returns-in-Err g c = record {
  found = λ clean. tt;
  means = λ clean rules. absurd (c.fault_of.ensures.none rules);
  told = c.fault_of.ensures.told;
  spares = c.in-Err.ensures.spares;
  survives = c.in-Err.ensures.crash;
}
