use lib.Seq.{take_all}
use Rattle.std.proofs.Common.{◌≡◌, ◌∷◌, map, rules, refl, sym, ◌∙◌, arith}
use Rattle.std.proofs.lemmas.Result.{err_from_is_err_and}
use Rattle.sql_rows.specs.Lists.{hold_cells}
use Rattle.sql_rows.specs.Ruled.{IsRuledHold}
use Rattle.sql_rows.proofs.rules.ListRules.{unordered}
use Rattle.sql_rows.proofs.rules.RowRules.{row_refused}
use Rattle.sqlite_value.specs.declared.value.Value.TheVariants.{Null}
use Rattle.sql_rows.specs.Lists.{Ascends, hold_before}
use Rattle.sql_rows.proofs.selections.ReadHolds.{at_in}
use Rattle.sql_rows.proofs.hold_rows.helds_from.Goals as goal

pub returns-in_err-held-clause-refused : goal.returns-in_err-held-clause-refused
returns-in_err-held-clause-refused c =
    let p = err_from_is_err_and c.from_residual.result c.from_residual.ensures.1 in
    rw p.1 (λ e xs is up. row_refused hold_cells IsRuledHold c.args.rows.now
    c.rows.row-index c.row-item.result (omega arith)
    c.row-item.is (c.in_err-held.ensures (sym p.2 ∙ e)) xs is)

pub returns-then-not-do_ascend-clause-refused : goal.returns-then-not-do_ascend-clause-refused
returns-then-not-do_ascend-clause-refused c e xs is up =
    let own : map hold_cells c.rows.helds.items ≡ c.args.rows.now =
    c.rows.invariant ∙ take_all c.rows.row-index c.args.rows.now (omega arith) in
    let falls : Ascends hold_before c.rows.helds.items → ⊥ = search rules in
    absurd (unordered hold_cells (λ w. at_in (Null ∷ Null ∷ w)) (λ x. refl) hold_before
    c.rows.helds.items c.args.rows.now own falls xs is up)
