use Rattle.std.proofs.Common.{rules}
use Rattle.std.specs.Prelude.{◌==◌}
use Rattle.std.proofs.lemmas.Fn.{filter_same}
use Rattle.reserving.specs.declared.session.Counter.{Counter}
use Rattle.sql_keeper.proofs.first_over.keep_cycle.Goals as goal

pub returns : goal.returns
returns c = filter_same _ (λ (x : Counter). x.cycle == c.args.cycle) _
    (λ x b f' k. search rules) _ _ c.retain.ensures.filtered
