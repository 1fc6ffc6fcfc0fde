use Rattle.std.proofs.Common.{◌∙◌, map}
use Rattle.shelves.specs.Shelves.{count}
use Rattle.sql_rows.specs.Texts.{book_at}
use Rattle.sql_keeper.proofs.shelf.Shelving.{no_shelf_read, shelf_read, up_is}
use Rattle.sql_keeper.proofs.books.read_shelves.Goals as goal

pub returns-then-not-are_up_to-clause-rules : goal.returns-then-not-are_up_to-clause-rules
returns-then-not-are_up_to-clause-rules c = λ same.
    no_shelf_read c.args.text.now c.in-Ok.read.own.first (map book_at c.args.rows.now)
    c.add_rows.new.read.own c.in-Ok.ensures.only c.in_ok-add_rows.ensures.shelved
    (up_is (count c.add_rows.new.read.own) c.from.result c.args.rows.now c.are_up_to.result _
    c.are_up_to.ensures (c.from.ensures ∙ c.count.ensures.value) c.if-not-are_up_to.true)

pub returns-clause-read : goal.returns-clause-read
returns-clause-read c =
    shelf_read c.args.text.now c.in-Ok.read.own.first (map book_at c.args.rows.now)
    c.add_rows.new.read.own c.first-first.ensures.shelf c.in-Ok.ensures.alone.first
    c.in_ok-add_rows.ensures.shelved
    (up_is (count c.add_rows.new.read.own) c.from.result c.args.rows.now c.are_up_to.result _
    c.are_up_to.ensures (c.from.ensures ∙ c.count.ensures.value) c.if-not-are_up_to.false)
