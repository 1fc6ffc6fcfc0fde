use Rattle.std.proofs.Common.{◌≡◌, ◌<ℤ◌, ◌≤ℤ◌, subst, sym, ap, ◌∙◌, rules, arith}
use Rattle.sqlite_value.specs.Value.{owned}
use Rattle.sqlite_value.specs.declared.value.Value.TheVariants.{Int}
use Rattle.sqlite_value.specs.Order.{column}
use Rattle.sql_tables.proofs.rising.next_id.Goals as goal

pub returns-in-Some-clause-none : goal.returns-in-Some-clause-none
returns-in-Some-clause-none c none it above =
    let is : Int c.in-Ok-Int.id ≡ column c.args.row.now 0 = sym (ap owned c.in-Ok-Int.field-0-is)
    ∙ c.in-Ok-Int.ensures.ok.1 in
    let both : Int c.in-Ok-Int.id ≡ Int it = is ∙ above.is in
    let same : c.in-Ok-Int.id ≡ it = cc both in
    let less : c.in-Some.before <ℤ c.in-Ok-Int.id =
    subst (λ i. c.in-Some.before <ℤ i) (sym same) (above.above c.in-Some.before c.in-Some.is) in
    let most : c.in-Ok-Int.id ≤ℤ c.in-Some.before = search rules in
    grind (arith, less, most)
