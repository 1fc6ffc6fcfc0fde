use Rattle.std.proofs.Common.{◌≡◌, ◌<◌, List, length, get_or, sym, ap, subst, ◌∙◌}
use Rattle.std.specs.Prelude.{not}
use Rattle.reserving.specs.declared.session.Counter.{Counter}
use Rattle.reserving.specs.Stored.{StoredRows}
use Rattle.keepers.specs.Differing.{equal_counter}
use Rattle.keepers.specs.Keyed.{same_counter}
use Rattle.keepers.proofs.Equal.{counter_from}
use Rattle.keepers.proofs.Cursor.{new_at, turn_counter}
use Rattle.keepers.proofs.differing.is_new_counter.Goals as goal

pub returns-then-same_counter : goal.returns-then-same_counter
returns-then-same_counter c =
    let old : Counter = c.counter_at-old.result.now in
    let xs : List Counter = c.args.before.now.counters in
    let rows : c.as_slice-rows.result.now ≡ xs = c.as_slice-rows.ensures.value
    ∙ ap (λ (w : StoredRows). w.counters) c.rows.ensures.value in
    let less = subst (λ (zs : List Counter). c.args.cursor.now < length zs) rows
    c.if-place-rows.true in
    let is : old ≡ get_or xs c.args.cursor.now old = c.counter_at-old.ensures
    ∙ ap (λ (zs : List Counter). get_or zs c.args.cursor.now old) rows in
    sym
    (ap not (new_at same_counter equal_counter turn_counter counter_from c.args.row.now xs
    c.args.cursor.now old less c.rows.ensures.kept.counters
    (ap (λ (z : Counter). same_counter z c.args.row.now) (sym is) ∙ sym c.same_counter.ensures
    ∙ c.if-same_counter.true)
    (ap (equal_counter c.args.row.now) (sym is) ∙ sym c.equal_counter.ensures
    ∙ c.if-equal_counter.false)))
