use Rattle.std.proofs.Common.{[], ◌∷◌, map, ap, ◌∙◌}
use Rattle.sqlite.specs.Values.{bound_value}
use Rattle.sqlite_value.specs.declared.value.Value.TheVariants.{Text}
use Rattle.sql_tables.proofs.Telling.{reads_as}
use Rattle.sql_rows.proofs.selections.ReadCovered.{read_covered_text, read_covered_plain}
use Rattle.sql_rows.proofs.selections.ReadCovered.{covered_read}
use Rattle.sql_rows.proofs.rules.CoveredRules.{covered_refused}
use Rattle.sql_rows.proofs.rules.KeyRules.{refused_by}
use Rattle.sql_rows.proofs.covered_rows.read_covered_within.Goals as goal

pub read-requires-clause-plain : goal.read-requires-clause-plain
read-requires-clause-plain g c = read_covered_plain

pub returns-clause-reads : goal.returns-clause-reads
returns-clause-reads g c =
    reads_as _ read_covered_text _ _ _ _ _ _ c.covered_rows_from.result
    c.read.ensures.reads c.read.ensures.stops c.in_ok-rows.ensures.answers
    (λ i. map bound_value ((c.text-of_account.ensures ∙ ap Text c.as_str.ensures.value) i
    ∷ c.whole-beyond.ensures i ∷ c.whole-up_to.ensures i ∷ []))
    c.deref.ensures.value c.covered_rows_from.ensures.cells
    (λ xs. covered_read c.args.account.now c.args.after c.args.last _ _ _ xs.items)

pub returns-clause-refused : goal.returns-clause-refused
returns-clause-refused g c =
    refused_by _ _ read_covered_text _ _ _ _ _ _ c.covered_rows_from.result
    c.in_ok-rows.ensures.answers
    (λ i. map bound_value ((c.text-of_account.ensures ∙ ap Text c.as_str.ensures.value) i
    ∷ c.whole-beyond.ensures i ∷ c.whole-up_to.ensures i ∷ []))
    c.deref.ensures.value c.covered_rows_from.ensures.refused
    (λ e got refused is. covered_refused c.args.account.now c.args.after c.args.last _ _ _ got (refused is))
