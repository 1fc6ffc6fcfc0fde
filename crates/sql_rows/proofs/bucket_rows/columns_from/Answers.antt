use Rattle.sql_rows.proofs.bucket_rows.columns_from.Goals as goal

pub returns-clause-cells : goal.returns-clause-cells
returns-clause-cells c = (
  c.in_ok-number.ensures,
  (
    c.in_ok-from.ensures,
    (
      c.in_ok-until.ensures,
      (
        c.in_ok-scope.ensures,
        (
          c.in_ok-credited.ensures,
          (
            c.in_ok-available.ensures,
            (c.in_ok-reserved.ensures, (c.in_ok-charged.ensures, (c.in_ok-expired.ensures, tt))),
          ),
        ),
      ),
    ),
  ),
)
