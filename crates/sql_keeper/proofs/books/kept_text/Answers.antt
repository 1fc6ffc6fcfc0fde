use Rattle.std.proofs.Common.{refl}
use Rattle.std.proofs.lemmas.Result.{err_from_is_err_and}
use Rattle.sql_keeper.proofs.shelf.BookTexts.{memory_fault}
use Rattle.sql_keeper.proofs.books.kept_text.Goals as goal

pub returns-in_err-from_str-clause-fault : goal.returns-in_err-from_str-clause-fault
returns-in_err-from_str-clause-fault c =
    let p = err_from_is_err_and c.from_residual.result c.from_residual.ensures.1 in
    rw (p.1, p.2) (memory_fault c.args.text.now _ refl)
