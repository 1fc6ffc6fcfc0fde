use Rattle.std.proofs.Common.{[], ◌∷◌, map, ap, ◌∙◌}
use Rattle.sqlite.specs.Values.{bound_value}
use Rattle.sqlite_value.specs.declared.value.Value.TheVariants.{Text}
use Rattle.sql_tables.proofs.Telling.{reads_as}
use Rattle.sql_rows.proofs.selections.ReadHolds.{read_holds_text, read_holds_plain, holds_read}
use Rattle.sql_rows.proofs.rules.HoldRules.{holds_refused}
use Rattle.sql_rows.proofs.rules.KeyRules.{refused_by}
use Rattle.sql_rows.proofs.hold_rows.read_holds.Goals as goal

pub read-requires-clause-plain : goal.read-requires-clause-plain
read-requires-clause-plain g c = read_holds_plain

pub returns-clause-reads : goal.returns-clause-reads
returns-clause-reads g c =
    reads_as _ read_holds_text _ _ _ _ _ _ c.helds_from.result c.read.ensures.reads
    c.read.ensures.stops c.in_ok-rows.ensures.answers
    (λ i. map bound_value ((c.text.ensures ∙ ap Text c.as_str.ensures.value) i ∷
    (c.text-2.ensures ∙ ap Text c.as_str-2.ensures.value) i ∷ []))
    c.deref.ensures.value c.helds_from.ensures.cells
    (λ xs. holds_read c.args.account.now c.args.session.now _ _ _ xs.items)

pub returns-clause-refused : goal.returns-clause-refused
returns-clause-refused g c =
    refused_by _ _ read_holds_text _ _ _ _ _ _ c.helds_from.result
    c.in_ok-rows.ensures.answers
    (λ i. map bound_value ((c.text.ensures ∙ ap Text c.as_str.ensures.value) i ∷
    (c.text-2.ensures ∙ ap Text c.as_str-2.ensures.value) i ∷ []))
    c.deref.ensures.value c.helds_from.ensures.refused
    (λ e got refused is. holds_refused c.args.account.now c.args.session.now _ _ _ got (refused is))
