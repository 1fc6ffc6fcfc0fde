use Rattle.std.proofs.Common.{[], ◌∷◌, map, ap, ◌∙◌}
use Rattle.sqlite.specs.Values.{bound_value}
use Rattle.sqlite_value.specs.declared.value.Value.TheVariants.{Text}
use Rattle.sql_tables.proofs.Telling.{reads_within_as}
use Rattle.sql_rows.proofs.selections.ReadAccount.{read_account_text, read_account_plain}
use Rattle.sql_rows.proofs.selections.ReadAccount.{account_read}
use Rattle.sql_rows.proofs.rules.AccountRules.{account_refused}
use Rattle.sql_rows.proofs.rules.KeyRules.{refused_as}
use Rattle.sql_rows.proofs.rules.MetaRules.{at_ok}
use Rattle.sql_rows.proofs.account_rows.read_account_within.Goals as goal

pub read_within-requires-clause-plain : goal.read_within-requires-clause-plain
read_within-requires-clause-plain g c = read_account_plain

pub returns-clause-reads : goal.returns-clause-reads
returns-clause-reads g c =
    reads_within_as _ read_account_text _ _ _ _ _ _ _ c.head_among.result
    c.in_ok-rows.ensures.still c.in_ok-rows.ensures.answers
    (λ i. map bound_value ((c.text-of_account.ensures ∙ ap Text c.as_str.ensures.value) i ∷ []))
    c.deref.ensures.value (at_ok _ _ c.head_among.result c.head_among.ensures)
    (account_read c.args.account.now _ _ _)

pub returns-clause-refused : goal.returns-clause-refused
returns-clause-refused g c =
    refused_as _ _ _ read_account_text _ _ _ _ _ _ c.head_among.result c.in_ok-rows.ensures.answers
    (λ i. map bound_value ((c.text-of_account.ensures ∙ ap Text c.as_str.ensures.value) i ∷ []))
    c.deref.ensures.value c.head_among.ensures
    (λ e got refused is. account_refused c.args.account.now _ _ _ got (refused is))
