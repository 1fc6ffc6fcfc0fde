use Rattle.std.proofs.Common.{sym, ap, ◌∙◌, arith}
use Rattle.units.specs.Blocks.{started}
use Rattle.shelves.specs.Shelves.{tariff_in}
use Rattle.reserving.proofs.calls.Uses.{priced_blocks}
use Rattle.reserving.proofs.pricing.blocks_by.Goals as goal

pub returns : goal.returns
returns c = λ parts place covered same.
    c.blocks_started.ensures
    ∙ ap (started c.args.used c.args.units.0) c.block.ensures.value
    ∙ priced_blocks (tariff_in c.args.shelf.now c.args.terms.book c.args.group) c.args.terms.periods
    c.in-Some.prices c.args.used place covered c.args.units.0 parts
    (sym c.prices_by.ensures ∙ c.in-Some.is) (omega (arith, c.block.ensures.some, c.block.ensures.value)) same
