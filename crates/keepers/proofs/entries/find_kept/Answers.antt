use Rattle.std.proofs.Common.{◌≡◌, sym, ap, ◌∙◌, Some, None, rules}
use Rattle.std.specs.Option.{option_copied}
use Rattle.keepers.specs.Memory.{answer_in, answer_of_entry}
use Rattle.keepers.proofs.entries.find_kept.Goals as goal

pub returns-in_default : goal.returns-in_default
returns-in_default c =
    ap (answer_of_entry c.args.key.now)
    (sym (sym c.find.ensures ∙ ap option_copied c.in_default.is))

pub returns-in_ok-copy-in-Some-get : goal.returns-in_ok-copy-in-Some-get
returns-in_ok-copy-in-Some-get c =
    let there = sym c.find.ensures ∙ ap option_copied c.in-Some.is in
    let value : Some c.deref.result.now ≡
    answer_in c.args.key.now c.in-Some.entry.now.answers = search rules in
    ap Some c.in_ok-copy-in-Some-get.ensures ∙ value
    ∙ ap (answer_of_entry c.args.key.now) (sym there)

pub returns-in-None : goal.returns-in-None
returns-in-None c =
    let there = sym c.find.ensures ∙ ap option_copied c.in-Some.is in
    let value : None ≡ answer_in c.args.key.now c.in-Some.entry.now.answers = search rules in
    value ∙ ap (answer_of_entry c.args.key.now) (sym there)
