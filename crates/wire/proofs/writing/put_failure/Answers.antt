use Rattle.serde_json.specs.Data.{string}
use Rattle.commands.specs.Names.{failed_avp}
use Rattle.json_fields.proofs.Tokens.{one_named}
use Rattle.wire.proofs.writing.put_failure.Goals as goal

pub returns-in-InvalidAvpValue : goal.returns-in-InvalidAvpValue
returns-in-InvalidAvpValue c =
    rw (c.in-InvalidAvpValue.is, ← c.name.ensures) (one_named c.put_text.result c.args.out.now
    c.put_text.new.out failed_avp (string c.name.result.now) c.put_text.ensures)
