use Rattle.std.proofs.Common.{ap, ◌∙◌}
use Rattle.std.specs.Prelude.{is_some}
use Rattle.keepers.specs.Memory.{entry_in}
use Rattle.keepers.proofs.Placed.{head_there, copied_there}
use Rattle.keepers.proofs.entries.has_entry.Goals as goal

pub returns : goal.returns
returns c =
    c.is_some.ensures ∙ copied_there c.find.result ∙ ap is_some c.find.ensures
    ∙ head_there (entry_in c.args.number.now c.args.accounts.now.entries.items)
