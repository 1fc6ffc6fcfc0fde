use Rattle.std.proofs.Common.{ℕ, subst, rules}
use Rattle.keepers.specs.Tables.{Tables}
use Rattle.charging.specs.Served.{Serves}
use Rattle.charging.specs.Stepping.{WritesAt, LeavesRefused}
use Rattle.charging.proofs.outcomes.Serving.{left_as, writes-at}
use Rattle.charging.proofs.runs.Accounted.{served_again}
use Rattle.charging.proofs.stepping.step.Goals as goal

pub returns : goal.returns
returns g c =
    let served : (g.K.Keeper.seen c.serve_at.new.keeper).clean → Serves c.args.shelf.now
    c.args.command c.args.moment (g.K.Keeper.seen c.args.keeper.now).tables
    (g.K.Keeper.seen c.serve_at.new.keeper).tables c.serve_at.result = search rules in
    record {
      served = served;
      refused = λ clean. subst (λ (x : Tables). LeavesRefused x
          (g.K.Keeper.seen c.serve_at.new.keeper).tables c.serve_at.result)
          (c.in_ok-last.ensures.same (c.serve_at.ensures.kept.cleanness clean))
          (c.serve_at.ensures.refused clean);
      kept = search rules;
      stands = search rules;
      left = λ honest t l.
          let honest_last = c.serve_at.ensures.kept.honesty honest in
          let clean_last = c.in_ok-last.ensures.stands honest_last in
          left_as (c.serve_at.ensures.left honest t l) (c.in_ok-last.ensures.left honest_last t)
          (λ writes. (
            c.in_ok-last.ensures.cleanness clean_last,
            writes-at c.args.shelf.now c.args.command c.args.moment c.in_ok-last.last
                (g.K.Keeper.seen c.args.keeper.now).tables
                (g.K.Keeper.seen c.last.new.self).tables t
                (c.in_ok-last.ensures.found clean_last) (c.in_ok-last.ensures.same clean_last)
                (subst (λ (u : ℕ). WritesAt c.args.shelf.now c.args.command u
                (g.K.Keeper.seen c.last.new.self).tables t) c.later-moment.ensures writes),
          ));
      again = λ clean. served_again c.args.shelf.now c.args.command c.args.moment
          (g.K.Keeper.seen c.args.keeper.now).tables (g.K.Keeper.seen c.serve_at.new.keeper).tables
          c.serve_at.result (served clean);
    }
