use Rattle.std.proofs.Common.{◌≡◌, ◌<◌, List, length, get_or, sym, ap, subst, ◌∙◌}
use Rattle.std.specs.Prelude.{not}
use Rattle.reserving.specs.declared.session.SessionGroup.{SessionGroup}
use Rattle.reserving.specs.Stored.{StoredRows}
use Rattle.keepers.specs.Differing.{equal_group}
use Rattle.keepers.specs.Keyed.{same_group}
use Rattle.keepers.proofs.Equal.{group_from}
use Rattle.keepers.proofs.Cursor.{new_at, turn_group}
use Rattle.keepers.proofs.differing.is_new_group.Goals as goal

pub returns-then-same_group : goal.returns-then-same_group
returns-then-same_group c =
    let old : SessionGroup = c.index-rows-place.result in
    let xs : List SessionGroup = c.args.before.now.groups in
    let rows : c.as_slice-rows.result.now ≡ xs = c.as_slice-rows.ensures.value
    ∙ ap (λ (w : StoredRows). w.groups) c.rows.ensures.value in
    let less = subst (λ (zs : List SessionGroup). c.args.cursor.now < length zs)
    rows c.if-place-rows.true in
    let is : old ≡ get_or xs c.args.cursor.now old = c.index-rows-place.is
    ∙ ap (λ (zs : List SessionGroup). get_or zs c.args.cursor.now old) rows
    in
    sym
    (ap not (new_at same_group equal_group turn_group group_from c.args.row.now xs
    c.args.cursor.now old less c.rows.ensures.kept.groups
    (ap (λ (z : SessionGroup). same_group z c.args.row.now) (sym is) ∙ sym c.same_group.ensures
    ∙ c.if-same_group.true)
    (ap (equal_group c.args.row.now) (sym is) ∙ sym c.equal_group.ensures
    ∙ c.if-equal_group.false)))
