use Rattle.std.proofs.Common.{◌≡◌, ◌∙◌, ap, sym, subst}
use Rattle.std.specs.Prelude.{IfOk}
use Rattle.reserving.specs.Earlier.{rows_in}
use Rattle.reserving.proofs.OwnEarlier.{own_row}
use Rattle.reserving.proofs.earlier.copy_of_own.Goals as goal

pub returns : goal.returns
returns c =
    subst (λ xs. IfOk c.copy_in.result (λ copy. copy.items ≡ xs))
    (ap rows_in c.session_row.ensures
    ∙ sym (own_row c.args.session.now c.args.rows.now c.requires.apart)) c.copy_in.ensures
