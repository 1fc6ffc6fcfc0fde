use Rattle.std.proofs.Common.{◌++◌, ◌∙◌, refl}
use Rattle.sql_keeper.proofs.live_rows.first_rows.Goals as goal

pub returns : goal.returns
returns c = record {
  head_is = refl;
  counters_are = c.in_ok-counters.ensures
      ∙ (λ i. (c.counters_repeating-first.ensures i ++ c.counters_repeating-second.ensures i)
      ++ c.counters_repeating-third.ensures i);
}
