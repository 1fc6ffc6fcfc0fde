use Rattle.std.proofs.Common.{[], ◌∷◌, map, ap, ◌∙◌}
use Rattle.sqlite.specs.Values.{bound_value}
use Rattle.sqlite_value.specs.declared.value.Value.TheVariants.{Text}
use Rattle.sql_tables.proofs.Telling.{reads_within_as}
use Rattle.sql_rows.proofs.selections.ReadOpenRows.{open_rows_read, read_open_rows_plain}
use Rattle.sql_rows.proofs.selections.ReadOpenRows.{read_open_rows_text}
use Rattle.sql_rows.proofs.open_rows.read_open_rows_within.Goals as goal

pub read_within-requires-clause-plain : goal.read_within-requires-clause-plain
read_within-requires-clause-plain g c = read_open_rows_plain

pub returns-clause-reads : goal.returns-clause-reads
returns-clause-reads g c =
    reads_within_as _ read_open_rows_text _ _ _ _ _ _ _ c.open_rows_from.result
    c.in_ok-rows.ensures.still c.in_ok-rows.ensures.answers
    (λ i. map bound_value ((c.text.ensures ∙ ap Text c.as_str.ensures.value) i ∷ []))
    c.deref.ensures.value c.open_rows_from.ensures.cells
    (λ x. open_rows_read c.args.account.now _ _ _ x)
