use Rattle.std.proofs.Common.{sym, ap, ◌∙◌, arith}
use Rattle.sql_tables.proofs.Columns.{row_is}
use Rattle.sql_rows.specs.Values.{nat, flag_number}
use Rattle.sql_rows.proofs.names.Periods.{is_some_names, before_names, after_names}
use Rattle.sql_rows.proofs.open_group_rows.open_group_from.Goals as goal

pub returns : goal.returns
returns c =
    let periods = c.in_ok-periods.ensures in
    row_is c.args.row.now _ (omega (arith, c.has_columns.ensures)) (
      c.in_ok-is_of_part.ensures,
      (
        c.in_ok-session.ensures,
        (
          c.in_ok-group.ensures,
          (
            periods.before ∙ before_names _,
            (
              periods.after ∙ after_names _,
              (
                c.in_ok-used.ensures,
                (
                  c.in_ok-reserved.ensures
                      ∙ ap (λ b. nat (flag_number b)) (sym periods.there ∙ is_some_names _),
                  tt,
                ),
              ),
            ),
          ),
        ),
      ),
    )
