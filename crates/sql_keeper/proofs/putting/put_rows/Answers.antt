use Rattle.sql_keeper.specs.Content.{shelf_names}
use Rattle.sql_keeper.specs.Writes.{with_named}
use Rattle.sql_keeper.proofs.puts.NewCharges.{lacked_then}
use Rattle.sql_keeper.proofs.puts.Puts.{makes_all_then, puts_paid}
use Rattle.sql_keeper.proofs.putting.put_rows.Goals as goal

pub returns-clause-over : goal.returns-clause-over
returns-clause-over g c =
    makes_all_then c.in_ok-put_named.ensures
    (puts_paid c.args.change.now.number c.deref.ensures.value c.put_paid.ensures.over)

pub returns-clause-free : goal.returns-clause-free
returns-clause-free g c =
    let change = c.args.change.now in
    lacked_then
    (with_named change.number (shelf_names c.args.books.now) c.args.known.now change.rows)
    change.number _ _ _ _ _ c.in_ok-put_named.field-0 c.put_paid.result c.deref.ensures.value
    c.in_ok-put_named.ensures.makes c.put_paid.ensures.over.makes.survives c.put_paid.ensures.free
