use Rattle.operations.proofs.MonthLemmas.{as_csv, as_lines, some_as, writes_as}
use Rattle.operations.proofs.stating.write_month.Goals as goal

pub returns-then-csv-clause-writes : goal.returns-then-csv-clause-writes
returns-then-csv-clause-writes g c = λ clean.
    writes_as _ _ _ _ _ c.export.result
    (λ rows. as_csv c.args.shelf.now c.first-book.result.now c.args.query.now
    c.args.state.now.moment c.args.state.now.buckets.items rows c.first-book.ensures.value
    c.if-csv.true) (c.export.ensures.writes clean)

pub returns-clause-writes : goal.returns-clause-writes
returns-clause-writes g c = λ clean.
    writes_as _ _ _ _ _ c.statement.result
    (λ rows.
    as_lines c.args.shelf.now c.first-book.result.now c.args.query.now c.args.state.now.moment
    c.as_slice-buckets.result.now c.args.state.now.buckets.items rows c.first-book.ensures.value
    c.if-csv.false c.as_slice-buckets.ensures.value)
    (c.statement.ensures.writes clean)

pub returns-then-csv-clause-some : goal.returns-then-csv-clause-some
returns-then-csv-clause-some g c =
    some_as _ _ _ _ c.export.result
    (λ rows. as_csv c.args.shelf.now c.first-book.result.now c.args.query.now
    c.args.state.now.moment c.args.state.now.buckets.items rows c.first-book.ensures.value
    c.if-csv.true) c.export.ensures.some

pub returns-clause-some : goal.returns-clause-some
returns-clause-some g c =
    some_as _ _ _ _ c.statement.result
    (λ rows.
    as_lines c.args.shelf.now c.first-book.result.now c.args.query.now c.args.state.now.moment
    c.as_slice-buckets.result.now c.args.state.now.buckets.items rows c.first-book.ensures.value
    c.if-csv.false c.as_slice-buckets.ensures.value)
    c.statement.ensures.some
