use Rattle.std.proofs.Common.{◌≡◌, List, [], Result, drop}
use Rattle.serde_json.specs.Data.{Data}
use Rattle.json_fields.specs.View.{items_view}
use Rattle.json_fields.specs.declared.fault.WireFault.{WireFault}
use Rattle.json_fields.specs.Gives.{read_each, IsReadBy}
use Rattle.json_fields.proofs.reading.read_each.Given as goal

-- the items so far, with what is left, are those of the whole list
abbrev pub invariant-loop-value : goal.invariant-loop-value
invariant-loop-value g l =
    (says : List g.row.T.Denot → Data → Result g.row.T.Denot WireFault)
    → IsReadBy (goal.F-post g l.read) says
    → read_each says l.done.items (items_view (drop l.value-index l.list.items))
    ≡ read_each says [] (items_view l.list.items)
