use Rattle.std.proofs.Common.{map, refl, ◌∙◌}
use Rattle.sql_rows.specs.Texts.{reserved_at}
use Rattle.sql_tables.proofs.Telling.{reads_within_as}
use Rattle.sql_rows.proofs.rules.MetaRules.{at_err, at_ok}
use Rattle.sql_rows.proofs.selections.ReadReserved.{read_reserved_text, read_reserved_plain}
use Rattle.sql_rows.proofs.selections.ReadReserved.{reserved_read}
use Rattle.sql_rows.proofs.rules.ReservedRules.{all_refused}
use Rattle.sql_rows.proofs.reserved_rows.read_reserved_within.Goals as goal

pub read_within-requires-clause-plain : goal.read_within-requires-clause-plain
read_within-requires-clause-plain g c = read_reserved_plain

pub returns-clause-reads : goal.returns-clause-reads
returns-clause-reads g c =
    reads_within_as _ read_reserved_text _ _ _ _ _ _ _ c.reserved_rows_from.result
    c.in_ok-rows.ensures.still c.in_ok-rows.ensures.answers refl
    c.deref.ensures.value (at_ok _ _ c.reserved_rows_from.result c.reserved_rows_from.ensures)
    (λ xs. reserved_read _ _ _ (map reserved_at xs.items))

pub returns-clause-refused : goal.returns-clause-refused
returns-clause-refused g c clean =
    at_err _ _ _ c.reserved_rows_from.result (λ e refused is. all_refused _ _ _
    (c.in_ok-rows.ensures.answers clean) (λ xs rows. refused is xs (c.deref.ensures.value ∙ rows)))
    c.reserved_rows_from.ensures
