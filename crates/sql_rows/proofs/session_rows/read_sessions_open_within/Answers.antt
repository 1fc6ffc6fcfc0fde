use Rattle.std.proofs.Common.{[], ◌∷◌, map, ap, ◌∙◌}
use Rattle.sqlite.specs.Values.{bound_value}
use Rattle.sqlite_value.specs.declared.value.Value.TheVariants.{Text}
use Rattle.sql_tables.proofs.Telling.{reads_within_as}
use Rattle.sql_rows.proofs.selections.ReadOpen.{read_sessions_open_text, read_sessions_open_plain}
use Rattle.sql_rows.proofs.selections.ReadOpen.{open_read}
use Rattle.sql_rows.proofs.rules.KeyRules.{refused_by}
use Rattle.sql_rows.proofs.rules.OpenRules.{open_refused}
use Rattle.sql_rows.proofs.session_rows.read_sessions_open_within.Goals as goal

pub read_within-requires-clause-plain : goal.read_within-requires-clause-plain
read_within-requires-clause-plain g c = read_sessions_open_plain

pub returns-clause-reads : goal.returns-clause-reads
returns-clause-reads g c =
    reads_within_as _ read_sessions_open_text _ _ _ _ _ _ _ c.sessions_from.result
    c.in_ok-rows.ensures.still c.in_ok-rows.ensures.answers
    (λ i. map bound_value ((c.text.ensures ∙ ap Text c.as_str.ensures.value) i ∷ []))
    c.deref.ensures.value c.sessions_from.ensures.cells
    (λ xs. open_read c.args.account.now _ _ _ xs.items)

pub returns-clause-refused : goal.returns-clause-refused
returns-clause-refused g c =
    refused_by _ _ read_sessions_open_text _ _ _ _ _ _ c.sessions_from.result
    c.in_ok-rows.ensures.answers
    (λ i. map bound_value ((c.text.ensures ∙ ap Text c.as_str.ensures.value) i ∷ []))
    c.deref.ensures.value c.sessions_from.ensures.refused
    (λ e got refused is. open_refused c.args.account.now _ _ _ got (refused is))
