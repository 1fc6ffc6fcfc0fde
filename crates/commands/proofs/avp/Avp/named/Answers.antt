use Rattle.commands.proofs.avp.Avp.named.Goals as goal

pub returns : goal.returns
returns c = c.first_of.ensures
