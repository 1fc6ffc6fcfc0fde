use Rattle.std.proofs.Common.{sym, ap, subst, ◌∙◌}
use Rattle.std.specs.Prelude.{position}
use Rattle.reserving.specs.Keyed.{IsGap}
use Rattle.reserving.specs.Sessions.{is_session, session_before}
use Rattle.ledger.proofs.Names.{is_same-refl}
use Rattle.reserving.proofs.KeysFound.{placed}
use Rattle.reserving.proofs.writing.write_session.Goals as goal

pub returns-in-Ok-clause-items : goal.returns-in-Ok-clause-items
returns-in-Ok-clause-items c =
    sym (placed session_before (is_session c.args.row.id) c.args.row
    c.in-Ok.place c.args.rows.now.items
    (ap (position (is_session c.args.row.id)) (sym c.deref.ensures.value)
    ∙ c.in-Ok.ensures.found)).put

pub returns-in-Ok-insert-clause-items : goal.returns-in-Ok-insert-clause-items
returns-in-Ok-insert-clause-items c =
    let gap : IsGap session_before (is_session c.args.row.id) c.args.rows.now.items
    c.in-Err.place =
    subst (λ xs. IsGap session_before (is_session c.args.row.id) xs c.in-Err.place)
    c.deref.ensures.value c.in-Err.ensures.absent in
    c.in-Ok-insert.ensures.items ∙ sym (gap.makes c.args.row (is_same-refl c.args.row.id))
