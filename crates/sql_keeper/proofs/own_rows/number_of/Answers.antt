use Rattle.std.proofs.Common.{sym}
use Rattle.sql_keeper.proofs.loads.BookPlaces.{book_at, no_book}
use Rattle.sql_keeper.proofs.own_rows.number_of.Goals as goal

pub returns : goal.returns
returns c =
    sym (book_at c.args.session.now c.args.group c.in-Ok.place c.args.numbers.now
    c.index-numbers-place.result c.in-Ok.ensures.found)

pub returns-in_default : goal.returns-in_default
returns-in_default c =
    sym (no_book c.args.session.now c.args.group c.args.numbers.now c.in_default.ensures.absent)
