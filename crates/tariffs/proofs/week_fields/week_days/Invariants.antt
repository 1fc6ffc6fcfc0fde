use Rattle.std.proofs.Common.{◌≡◌, drop, false}
use Rattle.std.specs.Prelude.{replicate}
use Rattle.toml.specs.View.{items_view}
use Rattle.tariffs.specs.Fields.{each}
use Rattle.tariffs.specs.WeekFields.{with_day}
use Rattle.tariffs.proofs.week_fields.week_days.Given as goal

abbrev pub invariant-loop-value : goal.invariant-loop-value
invariant-loop-value l =
    each with_day l.days (items_view (drop l.value-index l.values))
    ≡ each with_day (replicate 7 false) (items_view l.values)
