use Rattle.std.proofs.Common.{sym, ap, subst, ◌∙◌}
use Rattle.std.specs.Prelude.{position}
use Rattle.reserving.specs.Keyed.{IsGap}
use Rattle.reserving.specs.Sessions.{is_counter, counter_before}
use Rattle.reserving.proofs.Keys.{own_cycle}
use Rattle.reserving.proofs.KeysFound.{placed}
use Rattle.reserving.proofs.writing.write_counter.Goals as goal

pub returns-in-Ok-clause-items : goal.returns-in-Ok-clause-items
returns-in-Ok-clause-items c =
    sym (placed counter_before (is_counter c.args.row.group c.args.row.cycle) c.args.row
    c.in-Ok.place c.args.rows.now.items
    (ap (position (is_counter c.args.row.group c.args.row.cycle)) (sym c.deref.ensures.value)
    ∙ c.in-Ok.ensures.found)).put

pub returns-in-Ok-insert-clause-items : goal.returns-in-Ok-insert-clause-items
returns-in-Ok-insert-clause-items c =
    let gap : IsGap counter_before (is_counter c.args.row.group c.args.row.cycle)
    c.args.rows.now.items c.in-Err.place =
    subst (λ xs. IsGap counter_before (is_counter c.args.row.group c.args.row.cycle) xs
    c.in-Err.place)
    c.deref.ensures.value c.in-Err.ensures.absent in
    c.in-Ok-insert.ensures.items
    ∙ sym (gap.makes c.args.row (own_cycle c.args.row.group c.args.row.cycle))
