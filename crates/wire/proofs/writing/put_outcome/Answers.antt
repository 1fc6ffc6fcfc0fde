use Rattle.commands.specs.Names.{check_balance_result}
use Rattle.json_fields.specs.Spelling.{whole}
use Rattle.json_fields.proofs.Tokens.{one_named}
use Rattle.wire.proofs.writing.put_outcome.Goals as goal

pub returns-in-Checked-clause-adds : goal.returns-in-Checked-clause-adds
returns-in-Checked-clause-adds c =
    rw (c.in-Checked.is, ← c.number.ensures) (one_named c.put_number.result c.args.out.now
    c.put_number.new.out check_balance_result (whole c.number.result) c.put_number.ensures)
