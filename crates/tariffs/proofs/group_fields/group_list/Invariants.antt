use Rattle.std.proofs.Common.{◌≡◌, drop, [], length}
use Rattle.std.specs.Prelude.{All}
use Rattle.toml.specs.View.{items_view}
use Rattle.tariffs.specs.Fields.{collected}
use Rattle.tariffs.specs.Tariffs.{IsTariff, AreOfOtherGroups}
use Rattle.tariffs.specs.GroupFields.{group_of}
use Rattle.tariffs.proofs.group_fields.group_list.Given as goal

abbrev pub invariant-loop-value : goal.invariant-loop-value
invariant-loop-value l = record {
  reading : collected (group_of l.names) l.tariffs.items (items_view (drop l.value-index l.values))
      ≡ collected (group_of l.names) [] (items_view l.values);
  count : length l.tariffs.items ≡ l.value-index;
  distinct : AreOfOtherGroups l.tariffs.items;
  tariffs : All IsTariff l.tariffs.items;
  periods : All (λ t. length t.prices ≡ length l.names) l.tariffs.items;
}
