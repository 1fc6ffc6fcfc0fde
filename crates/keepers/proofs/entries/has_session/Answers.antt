use Rattle.std.proofs.Common.{sym, ap, ◌∙◌}
use Rattle.std.specs.Prelude.{is_some}
use Rattle.std.specs.Option.{option_copied}
use Rattle.keepers.specs.Memory.{session_of_entry}
use Rattle.keepers.proofs.entries.has_session.Goals as goal

pub returns-in-Some : goal.returns-in-Some
returns-in-Some c =
    let there = sym c.find.ensures ∙ ap option_copied c.in-Some.is in
    c.knows.ensures ∙ ap (λ o. is_some (session_of_entry c.args.session.now o)) (sym there)

pub returns-in-None : goal.returns-in-None
returns-in-None c =
    ap (λ o. is_some (session_of_entry c.args.session.now o))
    (sym (sym c.find.ensures ∙ ap option_copied c.in-None.is))
