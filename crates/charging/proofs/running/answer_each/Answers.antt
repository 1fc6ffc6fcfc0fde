use Rattle.std.proofs.Common.{rules, ◌≡◌, ◌+◌, ◌++◌, ◌∷◌, [], List, length, refl, sym, ap, subst}
use Rattle.std.proofs.Common.{◌∙◌}
use Rattle.std.proofs.lemmas.List.{length-append, append_assoc}
use Rattle.commands.specs.declared.answer.Answer.{Answer}
use Rattle.charging.specs.declared.running.DatedCommand.{DatedCommand}
use Rattle.charging.proofs.runs.HeldRuns.{HasRun, has-run_none, has-run_more, run-failed}
use Rattle.charging.proofs.runs.HeldRuns.{run-refused, run-whole}
use Rattle.charging.proofs.running.answer_each.Goals as goal
use Rattle.charging.proofs.running.answer_each.Goals.{After-reserve}

pub loop-dated-init : goal.loop-dated-init
loop-dated-init g c = record {
  had = subst (λ (given : List Answer). HasRun c.args.shelf.now (g.K.Keeper.seen c.args.keeper.now)
      (g.K.Keeper.seen c.args.keeper.now) [] given) (sym c.new-answers.ensures.items)
      (has-run_none g.K.Keeper.seen g.met.K.Keeper.honesty g.met.K.Keeper.settled c.args.shelf.now
      c.args.keeper.now);
  all = search rules;
  count = search rules;
}

pub loop-dated-preserved : goal.loop-dated-preserved
loop-dated-preserved g c =
    let grown = c.push_reserved.ensures.items
    ∙ ap (λ (given : List Answer). given ++ c.in-Ok.answer ∷ []) c.reserve.ensures.items in
    record {
      had = has-run_more g.K.Keeper.seen g.met.K.Keeper.honesty g.met.K.Keeper.settled
          c.args.shelf.now c.args.keeper.now c.loop-dated.keeper c.step.new.keeper
          c.loop-dated.yielded c.in-Some.dated c.loop-dated.answers.items c.loop-dated.invariant.had
          c.in-Ok.ensures.kept.cleanness c.in-Ok.ensures.kept.honesty c.push_reserved.new.self.items
          c.in-Ok.answer c.in-Ok.ensures.served c.in-Ok.ensures.stands
          c.in-Ok.ensures.kept.cause.kept grown;
      all = append_assoc c.loop-dated.yielded (c.in-Some.dated ∷ []) c.next.new.self.rest.items
          ∙ ap (λ (ds : List DatedCommand). c.loop-dated.yielded ++ ds)
          (sym c.in-Some.ensures.steps.0) ∙ c.loop-dated.invariant.all;
      count = ap length grown ∙ length-append c.loop-dated.answers.items (c.in-Ok.answer ∷ [])
          ∙ ap (λ n. n + 1) c.loop-dated.invariant.count
          ∙ sym (length-append c.loop-dated.yielded (c.in-Some.dated ∷ []));
    }

-- a growth that was refused or made leaves the answers
had_then : (g : _) (c : After-reserve g) →
    HasRun c.args.shelf.now (g.K.Keeper.seen c.args.keeper.now)
    (g.K.Keeper.seen c.loop-dated.keeper) c.loop-dated.yielded c.reserve.new.self.items
had_then g c = subst (λ (given : List Answer). HasRun c.args.shelf.now
    (g.K.Keeper.seen c.args.keeper.now) (g.K.Keeper.seen c.loop-dated.keeper) c.loop-dated.yielded
    given) (sym c.reserve.ensures.items) c.loop-dated.invariant.had

all_then : (g : _) (c : After-reserve g) →
    c.loop-dated.yielded ++ c.in-Some.dated ∷ c.next.new.self.rest.items ≡ c.args.commands.items
all_then g c = ap (λ (ds : List DatedCommand). c.loop-dated.yielded ++ ds)
    (sym c.in-Some.ensures.steps.0) ∙ c.loop-dated.invariant.all

count_then : (g : _) (c : After-reserve g) →
    length c.reserve.new.self.items ≡ length c.loop-dated.yielded
count_then g c = ap length c.reserve.ensures.items ∙ c.loop-dated.invariant.count

pub returns-then-is_err : goal.returns-then-is_err
returns-then-is_err g c =
    let at = (goal.at.returns-then-is_err g c).After-reserve in
    run-refused g.K.Keeper.seen g.met.K.Keeper.honesty g.met.K.Keeper.settled c.args.shelf.now
    c.args.commands.items c.loop-dated.yielded (c.in-Some.dated ∷ c.next.new.self.rest.items)
    c.args.keeper.now c.loop-dated.keeper c.reserve.new.self (had_then g at) (all_then g at)
    (count_then g at) c.in-Some.dated c.next.new.self.rest.items refl

pub returns-in-Err : goal.returns-in-Err
returns-in-Err g c =
    let at = (goal.at.returns-in-Err g c).After-reserve in
    run-failed g.K.Keeper.seen g.met.K.Keeper.honesty g.met.K.Keeper.settled c.args.shelf.now
    c.args.commands.items c.loop-dated.yielded c.next.new.self.rest.items c.in-Some.dated
    c.args.keeper.now c.loop-dated.keeper c.step.new.keeper c.reserve.new.self (had_then g at)
    (all_then g at) (count_then g at) c.in-Err.ensures.kept.err c.in-Err.ensures.kept.cleanness
    c.in-Err.ensures.kept.honesty c.in-Err.ensures.left c.in-Err.fault c.in-Err.ensures.kept.cause

pub returns : goal.returns
returns g c =
    run-whole g.K.Keeper.seen g.met.K.Keeper.honesty g.met.K.Keeper.settled c.args.shelf.now
    c.args.commands.items c.loop-dated.yielded c.loop-dated.dated-iterator.rest.items
    c.args.keeper.now c.loop-dated.keeper c.loop-dated.answers c.loop-dated.invariant.had
    c.loop-dated.invariant.all c.loop-dated.invariant.count (search rules)
