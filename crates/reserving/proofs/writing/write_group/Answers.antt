use Rattle.std.proofs.Common.{sym, ap, subst, ◌∙◌}
use Rattle.std.specs.Prelude.{position}
use Rattle.reserving.specs.Keyed.{IsGap}
use Rattle.reserving.specs.Sessions.{is_of, group_before}
use Rattle.reserving.proofs.Keys.{own_key}
use Rattle.reserving.proofs.KeysFound.{placed}
use Rattle.reserving.proofs.writing.write_group.Goals as goal

pub returns-in-Ok-clause-items : goal.returns-in-Ok-clause-items
returns-in-Ok-clause-items c =
    sym (placed group_before (is_of c.args.row.session c.args.row.group) c.args.row
    c.in-Ok.place c.args.rows.now.items
    (ap (position (is_of c.args.row.session c.args.row.group)) (sym c.deref.ensures.value)
    ∙ c.in-Ok.ensures.found)).put

pub returns-in-Ok-insert-clause-items : goal.returns-in-Ok-insert-clause-items
returns-in-Ok-insert-clause-items c =
    let gap : IsGap group_before (is_of c.args.row.session c.args.row.group) c.args.rows.now.items
    c.in-Err.place =
    subst (λ xs. IsGap group_before (is_of c.args.row.session c.args.row.group) xs c.in-Err.place)
    c.deref.ensures.value c.in-Err.ensures.absent in
    c.in-Ok-insert.ensures.items
    ∙ sym (gap.makes c.args.row (own_key c.args.row.session c.args.row.group))
