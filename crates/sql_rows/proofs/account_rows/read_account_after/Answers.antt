use Rattle.std.proofs.Common.{[], ◌∷◌, map, ap, ◌∙◌}
use Rattle.sqlite.specs.Values.{bound_value}
use Rattle.sqlite_value.specs.declared.value.Value.TheVariants.{Text}
use Rattle.sql_tables.proofs.Telling.{reads_within_as}
use Rattle.sql_rows.proofs.selections.ReadNextAccount.{read_after_text, read_after_plain}
use Rattle.sql_rows.proofs.selections.ReadNextAccount.{after_read}
use Rattle.sql_rows.proofs.rules.KeyRules.{refused_as}
use Rattle.sql_rows.proofs.rules.MetaRules.{at_ok}
use Rattle.sql_rows.proofs.rules.NextRules.{after_refused}
use Rattle.sql_rows.proofs.account_rows.read_account_after.Goals as goal

pub read_within-requires-clause-plain : goal.read_within-requires-clause-plain
read_within-requires-clause-plain g c = read_after_plain

pub returns-clause-reads : goal.returns-clause-reads
returns-clause-reads g c =
    reads_within_as _ read_after_text _ _ _ _ _ _ _ c.account_among.result
    c.in_ok-rows.ensures.still c.in_ok-rows.ensures.answers
    (λ i. map bound_value ((c.text-of_account.ensures ∙ ap Text c.as_str.ensures.value) i ∷ []))
    c.deref.ensures.value (at_ok _ _ c.account_among.result c.account_among.ensures)
    (after_read c.args.account.now _ _ _)

pub returns-clause-refused : goal.returns-clause-refused
returns-clause-refused g c =
    refused_as _ _ _ read_after_text _ _ _ _ _ _ c.account_among.result c.in_ok-rows.ensures.answers
    (λ i. map bound_value ((c.text-of_account.ensures ∙ ap Text c.as_str.ensures.value) i ∷ []))
    c.deref.ensures.value c.account_among.ensures
    (λ e got refused is. after_refused c.args.account.now _ _ _ got (refused is))
