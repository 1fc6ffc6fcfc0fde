use Rattle.std.proofs.Common.{◌≡◌, ◌∙◌, arith, subst, sym, true, false}
use Rattle.std.specs.List.{list_all}
use Rattle.sqlite.specs.Effect.{Database}
use Rattle.sqlite.specs.Given.{IsPlain}
use Rattle.sqlite.specs.Held.{state}
use Rattle.sqlite.specs.Listing.{understood}
use Rattle.sqlite.specs.State.{HasCleanDisk}
use Rattle.sqlite_schema.specs.declared.schema.Schema.{Schema}
use Rattle.sql_rules.specs.GrantRows.{HaveBooks, is_granted_row}
use Rattle.sql_rules.proofs.GrantTexts.{grants_at, grants_text}
use Rattle.sql_rules.proofs.GrantTold as told
use Rattle.sql_rules.proofs.reservations.grants_pass.Goals as goal

pub are_granted-requires : goal.are_granted-requires
are_granted-requires g c = record {
  plain = λ clean. subst (λ (s : Schema). IsPlain (understood s grants_text))
      (sym (c.requires.ours clean))
      (grants_at c.args.version c.requires.known c.requires.late).plain;
}

pub returns-in-Ok-true : goal.returns-in-Ok-true
returns-in-Ok-true g c = record {
  found = λ clean.
      let walk = c.in-Ok-true.ensures.walk clean in
      let same = c.in-Ok-true.ensures.same clean in
      let was : HasCleanDisk (state g.S.Store c.args.conn.now) =
      omega (arith, c.in-Ok-true.ensures.crash.clean, clean) in
      let here = told.grants_stand g.S.Store c.args.shelf.now c.args.version c.requires.known
      c.requires.late c.args.conn.now walk.0 (state g.S.Store c.are_granted.new.conn) walk.1 walk.2
      walk.3 (c.requires.ours was) (sym walk.4 ∙ c.in-Ok-true.field-0-test) in (
        same,
        subst (λ (d : Database). HaveBooks c.args.shelf.now d.trees) (sym same.0.now_is) here,
      );
  means = λ clean. tt;
  told = tt;
  spares = c.in-Ok-true.ensures.spares;
  survives = c.in-Ok-true.ensures.crash;
}

pub returns-in-Ok-false : goal.returns-in-Ok-false
returns-in-Ok-false g c = record {
  found = λ clean. tt;
  means = λ clean rules have.
      let walk = c.in-Ok-false.ensures.walk clean in
      let was : HasCleanDisk (state g.S.Store c.args.conn.now) =
      omega (arith, c.in-Ok-false.ensures.crash.clean, clean) in
      let pass : list_all (is_granted_row c.args.shelf.now) walk.1 ≡ true =
      told.grants_pass g.S.Store c.args.shelf.now c.args.version c.requires.known c.requires.late
      c.args.conn.now walk.0 (state g.S.Store c.are_granted.new.conn) walk.1 walk.2 walk.3
      (c.requires.ours was) have in
      let clash : false ≡ true = sym c.in-Ok-false.field-0-test ∙ walk.4 ∙ pass in
      cc clash;
  told = record {
    ours = λ is. absurd (cc is);
    version = λ is. absurd (cc is);
    latest = λ is. absurd (cc is);
  };
  spares = c.in-Ok-false.ensures.spares;
  survives = c.in-Ok-false.ensures.crash;
}

pub returns-in-Err : goal.returns-in-Err
returns-in-Err g c = record {
  found = λ clean. tt;
  means = λ clean rules. absurd (c.fault_of.ensures.none rules);
  told = c.fault_of.ensures.told;
  spares = c.in-Err.ensures.spares;
  survives = c.in-Err.ensures.crash;
}
