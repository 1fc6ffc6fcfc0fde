use Rattle.sql_keeper.proofs.shelf.AddedBooks.{behind, fault_told}
use Rattle.sql_keeper.proofs.adding_books.add_behind.Goals as goal

pub returns-clause-added : goal.returns-clause-added
returns-clause-added c =
    behind c.args.from c.args.book c.args.last c.args.shelf.now c.add-added.new.self
    c.add-added.result
    c.add-added.ensures.ok c.add-added.ensures.none c.first-first.ensures.shelf

pub returns-clause-told : goal.returns-clause-told
returns-clause-told c =
    fault_told _ c.add-added.result c.add-added.ensures.told c.add-added.ensures.memory
