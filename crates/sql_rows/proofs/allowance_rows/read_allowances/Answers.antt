use Rattle.std.proofs.Common.{[], ◌∷◌, map, ap, ◌∙◌}
use Rattle.sqlite.specs.Values.{bound_value}
use Rattle.sqlite_value.specs.declared.value.Value.TheVariants.{Text}
use Rattle.sql_tables.proofs.Telling.{reads_as}
use Rattle.sql_rows.proofs.selections.ReadAllowances.{read_allowances_text, read_allowances_plain}
use Rattle.sql_rows.proofs.selections.ReadAllowances.{allowances_read}
use Rattle.sql_rows.proofs.rules.AllowanceRules.{allowances_refused}
use Rattle.sql_rows.proofs.rules.KeyRules.{refused_by}
use Rattle.sql_rows.proofs.allowance_rows.read_allowances.Goals as goal

pub read-requires-clause-plain : goal.read-requires-clause-plain
read-requires-clause-plain g c = read_allowances_plain

pub returns-clause-reads : goal.returns-clause-reads
returns-clause-reads g c =
    reads_as _ read_allowances_text _ _ _ _ _ _ c.numbers_from.result
    c.read.ensures.reads c.read.ensures.stops c.in_ok-rows.ensures.answers
    (λ i. map bound_value ((c.text.ensures ∙ ap Text c.as_str.ensures.value) i ∷ []))
    c.deref.ensures.value c.numbers_from.ensures.cells
    (λ xs. allowances_read c.args.account.now _ _ _ xs.items)

pub returns-clause-refused : goal.returns-clause-refused
returns-clause-refused g c =
    refused_by _ _ read_allowances_text _ _ _ _ _ _ c.numbers_from.result
    c.in_ok-rows.ensures.answers
    (λ i. map bound_value ((c.text.ensures ∙ ap Text c.as_str.ensures.value) i ∷ []))
    c.deref.ensures.value c.numbers_from.ensures.refused
    (λ e got refused is. allowances_refused c.args.account.now _ _ _ got (refused is))
