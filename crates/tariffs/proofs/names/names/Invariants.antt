use Rattle.std.proofs.Common.{◌≡◌, drop, [], vec_len}
use Rattle.toml.specs.View.{items_view}
use Rattle.tariffs.specs.Fields.{collected}
use Rattle.tariffs.specs.Names.{name_of, texts, AreDistinct}
use Rattle.tariffs.proofs.names.names.Given as goal

abbrev pub invariant-loop-value : goal.invariant-loop-value
invariant-loop-value l = record {
  reading : collected name_of (texts l.names.items) (items_view (drop l.value-index l.values))
      ≡ collected name_of [] (items_view l.values);
  count : vec_len l.names ≡ l.value-index;
  distinct : AreDistinct (texts l.names.items);
}
