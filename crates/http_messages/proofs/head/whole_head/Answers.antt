use Rattle.std.proofs.Common.{[], arith, sym, ◌∙◌}
use Rattle.http_messages.proofs.Counts.{whole_len, whole_has_three}
use Rattle.http_messages.proofs.head.whole_head.Goals as goal

pub returns-else-spans-part-clause-none : goal.returns-else-spans-part-clause-none
returns-else-spans-part-clause-none c = λ head is.
    let fits = whole_has_three c.args.part.now head is in
    let finds = rw c.in-Ok-Complete.field-0-is at c.in-Ok-Complete.ensures in
    let found = finds.found head [] is (omega (arith, fits, c.requires.room)) in
    c.if-spans-part.false (found.len ∙ sym (whole_len c.args.part.now head is))

pub returns-in-Err-clause-none : goal.returns-in-Err-clause-none
returns-in-Err-clause-none c = λ head is.
    let fits = whole_has_three c.args.part.now head is in
    c.in-Err.ensures.found head [] is (omega (arith, fits, c.requires.room))
