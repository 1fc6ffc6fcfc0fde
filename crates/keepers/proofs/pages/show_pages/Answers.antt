use Rattle.std.proofs.Common.{arith, false, subst, true}
use Rattle.std.specs.List.{filter}
use Rattle.keepers.proofs.Placed.{on_err}
use Rattle.keepers.specs.Rows.{is_between}
use Rattle.keepers.specs.Visits.{Shows}
use Rattle.keepers.proofs.Paged.{begun, ended, never, none_shown, page_shown, stopped}
use Rattle.keepers.proofs.ShownRows.{goes_ended, goes_further, goes_last, goes_not_yet}
use Rattle.keepers.proofs.pages.show_pages.Goals as goal

pub loop-page-init : goal.loop-page-init
loop-page-init g c = record {
  turns = λ clean. omega arith;
  asked = λ one. absurd (omega (arith, one));
  small = omega arith;
  shown = none_shown g.V.ChargeVisitor.sees c.args.account.now c.args.from
      c.args.until (g.K.Keeper.seen c.args.keeper.now) c.args.visitor.now
      (g.met.K.ChargePages.numbered c.args.keeper.now c.args.account.now);
  gone = goes_not_yet g.V.ChargeVisitor.sees c.args.from c.args.until c.args.visitor.now;
}

pub returns-in_err-page-clause-shown : goal.returns-in_err-page-clause-shown
returns-in_err-page-clause-shown g c =
    goes_ended g.V.ChargeVisitor.sees c.args.from c.args.until c.args.visitor.now
    c.loop-page.visitor c.loop-page.invariant.gone

pub returns-then-not-show-clause-shown : goal.returns-then-not-show-clause-shown
returns-then-not-show-clause-shown g c =
    goes_last g.V.ChargeVisitor.sees c.args.from c.args.until c.in_ok-page.page.rows.items false
    c.args.visitor.now c.loop-page.visitor c.show.new.visitor c.loop-page.invariant.gone
    (subst (λ l. Shows g.V.ChargeVisitor.sees (filter (is_between c.args.from c.args.until) l) _
    c.loop-page.visitor c.show.new.visitor) c.deref.ensures.value c.if-not-show.ensures)

pub returns-then-page-clause-shown : goal.returns-then-page-clause-shown
returns-then-page-clause-shown g c =
    goes_last g.V.ChargeVisitor.sees c.args.from c.args.until c.in_ok-page.page.rows.items true
    c.args.visitor.now c.loop-page.visitor c.show.new.visitor c.loop-page.invariant.gone
    (subst (λ l. Shows g.V.ChargeVisitor.sees (filter (is_between c.args.from c.args.until) l) _
    c.loop-page.visitor c.show.new.visitor) c.deref.ensures.value c.if-not-show.ensures)

pub returns-clause-shown : goal.returns-clause-shown
returns-clause-shown g c =
    goes_ended g.V.ChargeVisitor.sees c.args.from c.args.until c.args.visitor.now
    c.loop-page.visitor c.loop-page.invariant.gone

pub returns-in_err-page-clause-beginning : goal.returns-in_err-page-clause-beginning
returns-in_err-page-clause-beginning g c = λ clean.
    on_err c.from_residual.result
    (begun g.V.ChargeVisitor.sees c.args.account.now c.args.from c.args.until c.loop-page.after
    (g.K.Keeper.seen c.args.keeper.now) (g.K.Keeper.seen c.loop-page.keeper)
    (g.K.Keeper.seen c.page.new.self) c.args.visitor.now
    c.loop-page.visitor _ c.page.result c.loop-page.invariant.shown c.page.ensures clean)

pub returns-then-not-show-clause-reads : goal.returns-then-not-show-clause-reads
returns-then-not-show-clause-reads g c =
    stopped g.V.ChargeVisitor.sees c.args.account.now c.args.from c.args.until c.loop-page.after
    (g.K.Keeper.seen c.args.keeper.now) (g.K.Keeper.seen c.loop-page.keeper)
    (g.K.Keeper.seen c.page.new.self) c.in_ok-page.page c.args.visitor.now c.loop-page.visitor
    c.show.new.visitor c.loop-page.invariant.shown c.in_ok-page.ensures
    (subst (λ l. Shows g.V.ChargeVisitor.sees (filter (is_between c.args.from c.args.until) l) _
    c.loop-page.visitor c.show.new.visitor) c.deref.ensures.value c.if-not-show.ensures)

pub returns-then-page-clause-reads : goal.returns-then-page-clause-reads
returns-then-page-clause-reads g c =
    ended g.V.ChargeVisitor.sees c.args.account.now c.args.from c.args.until c.loop-page.after
    (g.K.Keeper.seen c.args.keeper.now) (g.K.Keeper.seen c.loop-page.keeper)
    (g.K.Keeper.seen c.page.new.self) c.in_ok-page.page c.args.visitor.now c.loop-page.visitor
    c.show.new.visitor c.loop-page.invariant.shown c.in_ok-page.ensures
    (subst (λ l. Shows g.V.ChargeVisitor.sees (filter (is_between c.args.from c.args.until) l) _
    c.loop-page.visitor c.show.new.visitor) c.deref.ensures.value c.if-not-show.ensures)
    c.if-page.true

pub loop-page-preserved : goal.loop-page-preserved
loop-page-preserved g c = record {
  turns = λ clean.
      let was = c.loop-page.invariant.turns (c.in_ok-page.ensures.cleanness clean) in
      let further = (c.in_ok-page.ensures.found clean).goes_on c.if-page.false in
      omega (arith, was, further);
  asked = λ one honest. c.in_ok-page.ensures.stands honest;
  small = omega arith;
  shown = page_shown g.V.ChargeVisitor.sees c.args.account.now c.args.from
      c.args.until c.loop-page.after (g.K.Keeper.seen c.args.keeper.now)
      (g.K.Keeper.seen c.loop-page.keeper) (g.K.Keeper.seen c.page.new.self) c.in_ok-page.page
      c.args.visitor.now c.loop-page.visitor
      c.show.new.visitor c.loop-page.invariant.shown c.in_ok-page.ensures
      (subst (λ l. Shows g.V.ChargeVisitor.sees (filter (is_between c.args.from c.args.until) l) _
      c.loop-page.visitor c.show.new.visitor) c.deref.ensures.value c.if-not-show.ensures);
  gone = goes_further g.V.ChargeVisitor.sees c.args.from c.args.until
      c.in_ok-page.page.rows.items c.args.visitor.now c.loop-page.visitor c.show.new.visitor
      c.loop-page.invariant.gone
      (subst (λ l. Shows g.V.ChargeVisitor.sees (filter (is_between c.args.from c.args.until) l) _
      c.loop-page.visitor c.show.new.visitor) c.deref.ensures.value c.if-not-show.ensures);
}

pub returns-clause-reads : goal.returns-clause-reads
returns-clause-reads g c =
    never g.V.ChargeVisitor.sees c.args.account.now c.args.from c.args.until c.loop-page.after
    (g.K.Keeper.seen c.args.keeper.now) (g.K.Keeper.seen c.loop-page.keeper) c.args.visitor.now
    c.loop-page.visitor c.loop-page.invariant.shown
    (c.loop-page.invariant.asked (omega (arith, c.loop-page-test.false)))
    (λ clean.
    let turns = c.loop-page.invariant.turns clean in
    let small = c.loop-page.invariant.small in
    omega (arith, turns, small, c.loop-page-test.false))
