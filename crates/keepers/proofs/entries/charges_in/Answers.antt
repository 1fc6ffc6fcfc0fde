use Rattle.std.proofs.Common.{sym, ap, ◌∙◌}
use Rattle.std.specs.Option.{option_copied}
use Rattle.keepers.specs.Memory.{charges_of_entry}
use Rattle.keepers.proofs.entries.charges_in.Goals as goal

pub returns-in-Some : goal.returns-in-Some
returns-in-Some c =
    let there = sym c.find.ensures ∙ ap option_copied c.in-Some.is in
    c.as_slice.ensures.value ∙ ap charges_of_entry (sym there)

pub returns-in-None : goal.returns-in-None
returns-in-None c =
    ap charges_of_entry
    (sym (sym c.find.ensures ∙ ap option_copied c.in-None.is))
