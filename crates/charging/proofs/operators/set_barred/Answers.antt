use Rattle.std.proofs.Common.{refl, None}
use Rattle.commands.specs.declared.answer.Answer.TheVariants as answer
use Rattle.keepers.specs.Tables.{Tables}
use Rattle.charging.specs.Stepping.{Answers, Commits, bar_command}
use Rattle.charging.proofs.outcomes.PartsServed.{committed_after, read_of, told_after}
use Rattle.charging.proofs.outcomes.Serving.{none_loaded, some_loaded, commits-from, served-as}
use Rattle.charging.proofs.outcomes.Operated.{bar-unknown, bar-done, made_change, made_tells}
use Rattle.charging.proofs.operators.set_barred.Goals as goal
use Rattle.charging.proofs.operators.set_barred.Goals.{After-commit}

pub returns-in_default : goal.returns-in_default
returns-in_default g c = told_after (read_of c.in_ok-loaded.ensures) (λ clean list time is le.
    served-as c.args.shelf.now list (bar_command c.args.number c.args.barred) c.args.moment
    (g.K.Keeper.seen c.args.keeper.now).tables (g.K.Keeper.seen c.load.new.self).tables
    c.in_ok-refuse.field-0 _ c.in_ok-refuse.ensures
    (bar-unknown c.args.shelf.now list c.args.number c.args.barred c.args.moment
    (g.K.Keeper.seen c.args.keeper.now).tables (g.K.Keeper.seen c.load.new.self).tables time le is
    (none_loaded c.args.shelf.now c.args.moment c.args.number
    (g.K.Keeper.seen c.args.keeper.now).tables
    (g.K.Keeper.seen c.args.keeper.now).tables c.in_ok-loaded.field-0 refl
    (c.in_ok-loaded.ensures.found clean) c.in_default.is)
    (c.in_ok-loaded.ensures.same clean)))

-- what its commit makes is what the command comes to
done : (g : _) (c : After-commit g) (t : Tables) → (g.K.Keeper.seen c.load.new.self).clean →
    Commits (made_change c.in-Some.loaded c.set_barred.new.self c.new.result None None)
    (g.K.Keeper.seen c.load.new.self).tables t →
    Answers c.args.shelf.now (bar_command c.args.number c.args.barred) c.args.moment
    (g.K.Keeper.seen c.args.keeper.now).tables t answer.Done
done g c t clean made = λ list time is le.
    bar-done c.args.shelf.now list c.args.number c.args.barred c.args.moment
    c.moment_on-moment.result c.in-Some.loaded c.set_barred.new.self
    (made_change c.in-Some.loaded c.set_barred.new.self c.new.result None None)
    (g.K.Keeper.seen c.args.keeper.now).tables t time le is
    (record {
      load = some_loaded c.args.shelf.now c.args.moment c.args.number
          (g.K.Keeper.seen c.args.keeper.now).tables
          (g.K.Keeper.seen c.args.keeper.now).tables c.in_ok-loaded.field-0 c.in-Some.loaded refl
          (c.in_ok-loaded.ensures.found clean) c.in-Some.is;
      account = c.moment_on-moment.ensures.kept;
    })
    c.moment_on-moment.ensures.value (λ i. (c.set_barred.ensures.rows i).shelf)
    (λ i. (c.set_barred.ensures.rows i).as_of) c.set_barred.ensures.left
    (made_tells c.in-Some.loaded c.set_barred.new.self c.new.result None None None None
    c.new.ensures.items refl refl)
    (commits-from (made_change c.in-Some.loaded c.set_barred.new.self c.new.result None None)
    (g.K.Keeper.seen c.args.keeper.now).tables (g.K.Keeper.seen c.load.new.self).tables t
    (c.in_ok-loaded.ensures.same clean) made)

pub returns : goal.returns
returns g c = committed_after (read_of c.in_ok-loaded.ensures) c.in_ok-loaded.ensures.stands
    answer.Done refl c.commit.ensures.commits (done g (goal.at.returns g c).After-commit)
