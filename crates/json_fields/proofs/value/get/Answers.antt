use Rattle.json.specs.Value.{value_view}
use Rattle.json_fields.proofs.Seen.{member_found}
use Rattle.json_fields.proofs.value.get.Goals as goal

pub returns : goal.returns
returns c =
    member_found c.get.result c.args.name.now (value_view c.args.value.now) c.get.ensures
