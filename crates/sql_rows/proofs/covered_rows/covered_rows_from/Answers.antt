use lib.Seq.{take_all}
use Rattle.std.proofs.Common.{◌≡◌, ◌∷◌, map, rules, refl, sym, ◌∙◌, ◌<◌, ◌^◌, arith}
use Rattle.std.proofs.lemmas.Result.{err_from_is_err_and}
use Rattle.sql_rows.specs.Values.{covered_cells}
use Rattle.sql_rows.proofs.rules.ListRules.{unordered}
use Rattle.sql_rows.proofs.rules.RowRules.{row_refused}
use Rattle.sqlite_value.specs.declared.value.Value.TheVariants.{Null}
use Rattle.sql_rows.specs.Lists.{Ascends, covered_before}
use Rattle.sql_rows.proofs.selections.ReadCovered.{at_in}
use Rattle.sql_rows.proofs.covered_rows.covered_rows_from.Goals as goal

pub returns-in_err-one-clause-refused : goal.returns-in_err-one-clause-refused
returns-in_err-one-clause-refused c =
    let p = err_from_is_err_and c.from_residual.result c.from_residual.ensures.1 in
    rw p.1 (λ e xs is up. row_refused covered_cells (λ x. x.number < 2 ^ 32) c.args.rows.now
    c.rows.row-index c.row-item.result (omega arith)
    c.row-item.is (c.in_err-one.ensures (sym p.2 ∙ e)) xs is)

pub returns-then-not-do_ascend-clause-refused : goal.returns-then-not-do_ascend-clause-refused
returns-then-not-do_ascend-clause-refused c e xs is up =
    let own : map covered_cells c.rows.covered.items ≡ c.args.rows.now =
    c.rows.invariant ∙ take_all c.rows.row-index c.args.rows.now (omega arith) in
    let falls : Ascends covered_before c.rows.covered.items → ⊥ = search rules in
    absurd (unordered covered_cells (λ w. at_in (Null ∷ w)) (λ x. refl) covered_before
    c.rows.covered.items c.args.rows.now own falls xs is up)
