use Rattle.std.proofs.Common.{◌≡◌, ◌∙◌, arith, length}
use Rattle.sql_rules.specs.Columns.{is_in_bounds}
use Rattle.sql_keeper.specs.Content.{shelf_names}
use Rattle.sql_keeper.proofs.rules.RuledRows.{names_count}
use Rattle.sql_keeper.proofs.ruling.is_on_shelf.Goals as goal

pub returns : goal.returns
returns c =
    let high : c.from-2.result ≡ length (shelf_names c.args.books.now) =
    omega (arith, c.from-2.ensures, c.count.ensures.value, names_count c.args.books.now) in
    let low : c.from.result ≡ c.args.number = omega (arith, c.from.ensures) in
    c.is_within.ensures ∙ (λ i. is_in_bounds 1 (high i) (low i))
