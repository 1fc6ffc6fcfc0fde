use Rattle.std.proofs.Common.{◌≡◌, ◌<◌, List, length, get_or, sym, ap, subst, ◌∙◌}
use Rattle.std.specs.Prelude.{not}
use Rattle.reserving.specs.declared.session.Session.{Session}
use Rattle.reserving.specs.Stored.{StoredRows}
use Rattle.keepers.specs.Differing.{equal_session}
use Rattle.keepers.specs.Keyed.{same_session}
use Rattle.keepers.proofs.Equal.{session_from}
use Rattle.keepers.proofs.Cursor.{new_at, turn_session}
use Rattle.keepers.proofs.differing.is_new_session.Goals as goal

pub returns-then-same_session : goal.returns-then-same_session
returns-then-same_session c =
    let old : Session = c.index-rows-place.result in
    let xs : List Session = c.args.before.now.sessions in
    let rows : c.as_slice-rows.result.now ≡ xs = c.as_slice-rows.ensures.value
    ∙ ap (λ (w : StoredRows). w.sessions) c.rows.ensures.value in
    let less = subst (λ (zs : List Session). c.args.cursor.now < length zs) rows
    c.if-place-rows.true in
    let is : old ≡ get_or xs c.args.cursor.now old = c.index-rows-place.is
    ∙ ap (λ (zs : List Session). get_or zs c.args.cursor.now old) rows in
    sym
    (ap not (new_at same_session equal_session turn_session session_from c.args.row.now xs
    c.args.cursor.now old less c.rows.ensures.kept.sessions
    (ap (λ (z : Session). same_session z c.args.row.now) (sym is) ∙ sym c.same_session.ensures
    ∙ c.if-same_session.true)
    (ap (equal_session c.args.row.now) (sym is) ∙ sym c.equal_session.ensures
    ∙ c.if-equal_session.false)))
