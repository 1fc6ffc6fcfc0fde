use Rattle.std.proofs.Common.{refl, length, ◌∙◌}
use Rattle.std.proofs.lemmas.Result.{IfOk-weaker}
use Rattle.std.specs.Prelude.{slice_range}
use Rattle.sql_keeper.proofs.loads.HoldRuns.{held_from, run_from}
use Rattle.sql_keeper.proofs.own_rows.held_for.Goals as goal

pub run_of-requires : goal.run_of-requires
run_of-requires c =
    run_from c.args.session.now c.args.held.now
    (slice_range c.args.held.now c.first_held-first.result (length c.args.held.now))
    c.first_held-first.result c.first_held-first.ensures.within refl c.requires
    c.first_held-first.ensures.parted

pub returns : goal.returns
returns c =
    IfOk-weaker c.run_of.result _ _
    (λ xs is. is ∙ held_from c.args.session.now c.args.held.now
    (slice_range c.args.held.now c.first_held-first.result (length c.args.held.now))
    c.first_held-first.result c.first_held-first.ensures.within refl c.requires
    c.first_held-first.ensures.parted) c.run_of.ensures
