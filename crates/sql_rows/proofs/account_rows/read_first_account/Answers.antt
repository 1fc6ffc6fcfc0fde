use Rattle.std.proofs.Common.{refl}
use Rattle.sql_tables.proofs.Telling.{reads_within_as}
use Rattle.sql_rows.proofs.selections.ReadNextAccount.{read_first_text, read_first_plain}
use Rattle.sql_rows.proofs.selections.ReadNextAccount.{first_read}
use Rattle.sql_rows.proofs.rules.KeyRules.{refused_as}
use Rattle.sql_rows.proofs.rules.MetaRules.{at_ok}
use Rattle.sql_rows.proofs.rules.NextRules.{first_refused}
use Rattle.sql_rows.proofs.account_rows.read_first_account.Goals as goal

pub read_within-requires-clause-plain : goal.read_within-requires-clause-plain
read_within-requires-clause-plain g c = read_first_plain

pub returns-clause-reads : goal.returns-clause-reads
returns-clause-reads g c =
    reads_within_as _ read_first_text _ _ _ _ _ _ _ c.account_among.result
    c.in_ok-rows.ensures.still c.in_ok-rows.ensures.answers
    refl
    c.deref.ensures.value (at_ok _ _ c.account_among.result c.account_among.ensures)
    (first_read _ _ _)

pub returns-clause-refused : goal.returns-clause-refused
returns-clause-refused g c =
    refused_as _ _ _ read_first_text _ _ _ _ _ _ c.account_among.result c.in_ok-rows.ensures.answers
    refl
    c.deref.ensures.value c.account_among.ensures
    (λ e got refused is. first_refused _ _ _ got (refused is))
