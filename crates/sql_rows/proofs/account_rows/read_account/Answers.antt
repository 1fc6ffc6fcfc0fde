use Rattle.std.proofs.Common.{[], ◌∷◌, map, ap, ◌∙◌}
use Rattle.sqlite.specs.Values.{bound_value}
use Rattle.sqlite_value.specs.declared.value.Value.TheVariants.{Text}
use Rattle.sql_tables.proofs.Telling.{reads_as}
use Rattle.sql_rows.proofs.selections.ReadAccount.{read_account_text, read_account_plain}
use Rattle.sql_rows.proofs.selections.ReadAccount.{account_read}
use Rattle.sql_rows.proofs.rules.AccountRules.{account_refused}
use Rattle.sql_rows.proofs.rules.KeyRules.{refused_as}
use Rattle.sql_rows.proofs.rules.MetaRules.{at_ok}
use Rattle.sql_rows.proofs.account_rows.read_account.Goals as goal

pub read-requires-clause-plain : goal.read-requires-clause-plain
read-requires-clause-plain g c = read_account_plain

pub returns : goal.returns
returns g c = record {
  reads = reads_as _ read_account_text _ _ _ _ _ _ c.head_among.result c.read.ensures.reads
      c.read.ensures.stops c.in_ok-rows.ensures.answers
      (λ i. map bound_value ((c.text-of_account.ensures ∙ ap Text c.as_str.ensures.value) i ∷ []))
      c.deref.ensures.value (at_ok _ _ c.head_among.result c.head_among.ensures)
      (account_read c.args.account.now _ _ _);
  refused = refused_as _ _ _ read_account_text _ _ _ _ _ _ c.head_among.result
      c.in_ok-rows.ensures.answers
      (λ i. map bound_value ((c.text-of_account.ensures ∙ ap Text c.as_str.ensures.value) i ∷ []))
      c.deref.ensures.value c.head_among.ensures
      (λ e got refused is. account_refused c.args.account.now _ _ _ got (refused is));
}
