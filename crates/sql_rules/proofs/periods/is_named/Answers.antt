use Rattle.std.proofs.Common.{sym, ◌∙◌, arith}
use Rattle.tariffs.specs.Names.{same_text}
use Rattle.sql_rules.proofs.Anywhere.{all_seen, any_named, none_left}
use Rattle.sql_rules.proofs.periods.is_named.Goals as goal

pub returns-in_default : goal.returns-in_default
returns-in_default c =
    let names = c.args.book.now.periods in
    let name = c.args.name.now in
    sym (any_named 0 names name ∙ sym c.periods.invariant
    ∙ none_left (λ n. same_text n name) names c.periods.at (sym c.in_default.ensures.value))

pub returns : goal.returns
returns c =
    let names = c.args.book.now.periods in
    let name = c.args.name.now in
    sym (any_named 0 names name ∙ sym c.periods.invariant
    ∙ all_seen (λ n. same_text n name) names c.periods.at
    (omega (arith, c.requires.periods.few, c.periods-test.false)))
