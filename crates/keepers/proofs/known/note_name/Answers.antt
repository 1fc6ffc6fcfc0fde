use Rattle.keepers.proofs.KnownNames.{named_on}
use Rattle.keepers.proofs.known.note_name.Goals as goal

pub returns-clause-stay : goal.returns-clause-stay
returns-clause-stay c = named_on c.args.names.now c.insert.new.self c.args.name
    c.in_ok-insert.ensures.updates.0
