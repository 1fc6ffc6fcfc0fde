use Rattle.std.proofs.Common.{◌≡◌, ◌≤◌, ◌<◌, drop, [], length}
use Rattle.std.specs.Prelude.{All}
use Rattle.toml.specs.View.{items_view}
use Rattle.tariffs.specs.Fields.{collected}
use Rattle.tariffs.specs.WeekFields.{entry_of}
use Rattle.tariffs.proofs.week_fields.week_entries.Given as goal

abbrev pub invariant-loop-value : goal.invariant-loop-value
invariant-loop-value l = record {
  reading : collected (λ before. entry_of l.names) l.entries.items
      (items_view (drop l.value-index l.values))
      ≡ collected (λ before. entry_of l.names) [] (items_view l.values);
  count : length l.entries.items ≡ l.value-index;
  ends : All (λ e. e.to ≤ 1440) l.entries.items;
  in_range : All (λ e. e.period.0 < length l.names) l.entries.items;
}
