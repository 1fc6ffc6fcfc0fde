use lib.Seq.{take_all}
use Rattle.std.proofs.Common.{◌≡◌, ◌∷◌, map, rules, refl, sym, ◌∙◌, arith, ◌<◌, ◌^◌}
use Rattle.std.proofs.lemmas.Result.{err_from_is_err_and}
use Rattle.sql_rows.specs.Values.{number_cells}
use Rattle.sql_rows.proofs.rules.ListRules.{unordered}
use Rattle.sql_rows.proofs.rules.RowRules.{row_refused}
use Rattle.sqlite_value.specs.declared.value.Value.TheVariants.{Null}
use Rattle.std.specs.Prelude.{nat_lt}
use Rattle.sql_rows.specs.Lists.{Ascends}
use Rattle.sql_rows.specs.Values.{allowance_in}
use Rattle.sql_rows.proofs.allowance_rows.numbers_from.Goals as goal

pub returns-in_err-number-clause-refused : goal.returns-in_err-number-clause-refused
returns-in_err-number-clause-refused c =
    let p = err_from_is_err_and c.from_residual.result c.from_residual.ensures.1 in
    rw p.1 (λ e xs is up. row_refused number_cells (λ n. n < 2 ^ 32) c.args.rows.now
    c.rows.row-index c.row-item.result (omega arith)
    c.row-item.is (c.in_err-number.ensures (sym p.2 ∙ e)) xs is)

pub returns-then-not-do_ascend-clause-refused : goal.returns-then-not-do_ascend-clause-refused
returns-then-not-do_ascend-clause-refused c e xs is up =
    let own : map number_cells c.rows.numbers.items ≡ c.args.rows.now =
    c.rows.invariant ∙ take_all c.rows.row-index c.args.rows.now (omega arith) in
    let falls : Ascends nat_lt c.rows.numbers.items → ⊥ = search rules in
    absurd (unordered number_cells (λ w. allowance_in (Null ∷ w)) (λ x. refl) nat_lt
    c.rows.numbers.items c.args.rows.now own falls xs is up)
