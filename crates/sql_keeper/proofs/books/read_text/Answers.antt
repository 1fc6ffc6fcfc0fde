use Rattle.sql_keeper.proofs.shelf.BookTexts.{book_told, fault_told, same_told}
use Rattle.sql_keeper.proofs.books.read_text.Goals as goal

pub returns-clause-read : goal.returns-clause-read
returns-clause-read c =
    book_told c.args.text.now c.as_bytes.result.now c.as_bytes.ensures.value c.read.result
    c.read.ensures.book

pub returns-clause-same : goal.returns-clause-same
returns-clause-same c =
    same_told c.args.text.now c.as_bytes.result.now c.as_bytes.ensures.value c.read.result
    c.read.ensures.fault

pub returns-clause-fault : goal.returns-clause-fault
returns-clause-fault c =
    fault_told c.args.text.now c.as_bytes.result.now c.as_bytes.ensures.value c.read.result
    c.read.ensures.fault c.read.ensures.no_document
