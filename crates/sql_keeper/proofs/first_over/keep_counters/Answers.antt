use Rattle.std.proofs.Common.{rules}
use Rattle.std.proofs.lemmas.Fn.{filter_same}
use Rattle.sql_keeper.specs.FirstOver.{stays_counter}
use Rattle.sql_keeper.proofs.first_over.keep_counters.Goals as goal

pub returns : goal.returns
returns c = filter_same _ (stays_counter c.args.named.now) _
    (λ x b f' k. search rules) _ _ c.retain.ensures.filtered
